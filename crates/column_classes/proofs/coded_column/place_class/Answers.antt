use Rattle.std.proofs.Common.{◌≡◌, ◌∙◌, ◌+◌, sym, ap, subst, length, get_or, arith}
use Rattle.std.proofs.lemmas.List.{get_or-set_same, get_or-set_other, length-set}
use Rattle.order_codes.specs.declared.place.CodePlace.{CodePlace}
use Rattle.column_classes.specs.CodedColumn.{HavePlaces}
use Rattle.column_classes.proofs.CodedColumnLemmas.{decoded_here, place_of_none, place_of_one, some-one, none-some, number_within}
use Rattle.column_classes.proofs.coded_column.place_class.Goals.{in-Some, in_default}
use Rattle.column_classes.proofs.coded_column.place_class.Goals as goal

pub loop-code-preserved : goal.loop-code-preserved
loop-code-preserved c =
    let it = c.args.interner.now in
    let at = c.loop-code in
    let same : c.as_slice-values.result.now ≡ c.index-classes-class.result = c.as_slice-values.ensures in
    let value = c.index-values-code.result in
    let less = c.loop-code-test.true in
    let long = ap length same in
    let is = decoded_here c.args.classes.now c.args.class at.code c.index-classes-class.result value c.requires.within c.index-classes-class.is (omega arith) (c.index-values-code.is ∙ ap (λ l. get_or l at.code value) same) in
    elim c.match-find.branch [
      | in-Some w ↦
          let p : CodePlace = record { class = c.args.class; code = at.code } in
          let first = sym c.find.ensures.number ∙ w.in-Some.is in
          let within = number_within it value w.in-Some.number first in
          let fits = at.invariant.long in
          record {
            long = ap (λ ps. length ps.items) w.places-is ∙ length-set at.places.items w.in-Some.number p ∙ at.invariant.long;
            placed = subst (λ ps. HavePlaces it c.args.classes.now ps.items c.args.class (at.code + 1)) (sym w.places-is)
                (place_of_one it c.args.classes.now at.places.items c.args.class at.code value is at.invariant.placed _ w.in-Some.number p first
                (λ n there. some-one (sym (c.find.ensures.there n there) ∙ w.in-Some.is)) is (λ d. get_or-set_same at.places.items w.in-Some.number p d (omega arith)) (λ i d ne. get_or-set_other at.places.items w.in-Some.number i p d ne));
          }
      | in_default w ↦ record {
        long = ap (λ ps. length ps.items) w.places-is ∙ at.invariant.long;
        placed = subst (λ ps. HavePlaces it c.args.classes.now ps.items c.args.class (at.code + 1)) (sym w.places-is)
            (place_of_none it c.args.classes.now at.places.items c.args.class at.code value is at.invariant.placed (λ n there. none-some (sym w.in_default.is ∙ c.find.ensures.there n there)));
      }
    ]
