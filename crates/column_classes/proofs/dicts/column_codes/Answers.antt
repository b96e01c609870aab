use Rattle.std.proofs.Common.{◌≡◌, ◌==◌, ◌+◌, ◌++◌, length, get_or, refl, ap, ◌∙◌, sym, subst, arith}
use Rattle.std.specs.List.{list_any}
use Rattle.std.specs.Vec.Iter.{into_iter_items}
use Rattle.std.proofs.lemmas.List.{take_all, length-append, length-take-le}
use Rattle.blink_histogram.specs.Ranks.{ranked}
use Rattle.column_classes.specs.ColumnClasses.{classes_if, column_values, divided_columns, ranked_columns}
use Rattle.column_classes.specs.ColumnStats.{AreRanked, IsRankedAt}
use Rattle.column_classes.proofs.DividedColumnLemmas.{chosen_is, divided_more, length-divided, length-savings, length-column, first_ranked, rest_ranked}
use Rattle.column_classes.proofs.CodedColumnLemmas.{no_places}
use Rattle.column_classes.proofs.dicts.column_codes.Goals as goal

pub choose_columns-chosen-requires : goal.choose_columns-chosen-requires
choose_columns-chosen-requires g c =
    let are : AreRanked (c.args.held.now ++ c.args.batch.now) c.args.columns c.as_slice.result.now = rw c.as_slice.ensures.value c.in_ok-all.ensures in
    let long = ap length (c.as_slice-2.ensures.value ∙ c.in_ok-savings.ensures (c.args.held.now ++ c.args.batch.now) c.args.columns are) ∙ length-savings (c.args.held.now ++ c.args.batch.now) c.args.columns in
    let few = c.requires.columns in
    omega arith

pub add_column-requires : goal.add_column-requires
add_column-requires g c =
    let rows = c.args.held.now ++ c.args.batch.now in
    let at = c.loop-column in
    let long = length-column rows at.number in
    let all = length-append c.args.held.now c.args.batch.now in
    let few = c.requires.few in
    (column_values rows at.number, omega arith, (first_ranked rows at.number (into_iter_items at.column-iterator) (into_iter_items c.next.new.self) c.in-Some.column c.in-Some.ensures.steps.0 at.invariant.each).ranked)

pub overflow_add-number : goal.overflow_add-number
overflow_add-number g c =
    let left = c.loop-column.invariant.left in
    let steps = ap length c.in-Some.ensures.steps.0 in
    let few = c.requires.columns in
    omega arith

pub loop-column-init : goal.loop-column-init
loop-column-init g c =
    let rows = c.args.held.now ++ c.args.batch.now in
    let gives = c.into_iter-column-iterator.ensures.into_iter_gives in
    let are = c.in_ok-all.ensures in
    let items = gives.0 in
    let long = ap length items ∙ are.count in
    record {
      counted = gives.1 ∙ sym c.as_slice.ensures.len ∙ ap length c.as_slice.ensures.value ∙ sym (ap length items);
      left = omega arith;
      each = λ k d lt.
          let zero : k ≡ 0 + k = omega arith in
          subst (λ j. IsRankedAt rows j (get_or (into_iter_items c.into_iter-column-iterator.result) k d)) zero
          (subst (λ l. IsRankedAt rows k (get_or l k d)) (sym items) (are.each k d (omega arith)));
      dicts = c.new.ensures;
      places = rw (c.new.ensures, c.new-2.ensures) (no_places rows);
    }

pub loop-column-preserved : goal.loop-column-preserved
loop-column-preserved g c =
    let rows = c.args.held.now ++ c.args.batch.now in
    let at = c.loop-column in
    let are : AreRanked rows c.args.columns c.as_slice.result.now = rw c.as_slice.ensures.value c.in_ok-all.ensures in
    let savings = c.as_slice-2.ensures.value ∙ c.in_ok-savings.ensures rows c.args.columns are in
    let chosen = chosen_is rows c.args.columns c.choose_columns-chosen.result.count c.as_slice-2.result.now c.choose_columns-chosen.result.columns savings c.choose_columns-chosen.ensures.count c.choose_columns-chosen.ensures.columns in
    let steps = c.in-Some.ensures.steps.0 in
    let gone = c.in-Some.ensures.steps.1 in
    let short = ap length steps in
    let was = at.invariant.counted in
    let left = at.invariant.left in
    let it = first_ranked rows at.number (into_iter_items at.column-iterator) (into_iter_items c.next.new.self) c.in-Some.column steps at.invariant.each in
    let all = length-divided rows c.args.columns in
    let done : length at.codes.dicts ≡ at.number = ap length at.invariant.dicts ∙ length-take-le at.number (divided_columns (ranked_columns rows c.args.columns)) (omega arith) in
    record {
      counted = omega arith;
      left = omega arith;
      each = rest_ranked rows at.number (into_iter_items at.column-iterator) (into_iter_items c.next.new.self) c.in-Some.column steps at.invariant.each;
      dicts = divided_more rows c.args.columns at.number c.is_chosen.result (classes_if c.is_chosen.result (ranked (column_values rows at.number))) at.codes.dicts c.add_column.new.codes.dicts (omega arith)
          (c.is_chosen.ensures ∙ ap (list_any (λ k. k == at.number)) chosen) refl at.invariant.dicts (c.in_ok-add_column.ensures.dicts (column_values rows at.number) it.ranked);
      places = c.in_ok-add_column.ensures.places rows (it.values ∙ ap (column_values rows) (sym done)) at.invariant.places;
    }

pub returns-clause-classes : goal.returns-clause-classes
returns-clause-classes g c =
    let rows = c.args.held.now ++ c.args.batch.now in
    let long = length-divided rows c.args.columns in
    let none = c.in-None.ensures.steps.0 in
    let counted = c.loop-column.invariant.counted in
    let left = c.loop-column.invariant.left in
    c.loop-column.invariant.dicts ∙ take_all c.loop-column.number (divided_columns (ranked_columns rows c.args.columns)) (omega arith)

pub returns-clause-count : goal.returns-clause-count
returns-clause-count g c =
    let rows = c.args.held.now ++ c.args.batch.now in
    let long = length-divided rows c.args.columns in
    let none = c.in-None.ensures.steps.0 in
    let counted = c.loop-column.invariant.counted in
    let left = c.loop-column.invariant.left in
    ap length (c.loop-column.invariant.dicts ∙ take_all c.loop-column.number (divided_columns (ranked_columns rows c.args.columns)) (omega arith)) ∙ long

pub returns-clause-places : goal.returns-clause-places
returns-clause-places g c = c.loop-column.invariant.places
