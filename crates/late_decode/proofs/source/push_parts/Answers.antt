use Rattle.std.proofs.Common.{arith, ◌≡◌, ◌<◌, ◌++◌, [], ◌∷◌, ap, sym, ◌∙◌, length, map, reverse, slice_index_or}
use Rattle.std.specs.Option.{option_to_list}
use Rattle.late_decode.specs.declared.plan.Measure.TheVariants.{Count}
use Rattle.late_decode.specs.declared.source.Source.TheVariants.{Here}
use Rattle.late_decode.specs.GroupLines.{measure_field}
use Rattle.late_decode.specs.LineSteps.{measure_fields}
use Rattle.late_decode.proofs.SourceLemmas.{part_popped, length_popped, nothing_left}
use Rattle.late_decode.proofs.source.push_parts.Goals as goal

pub loop-part-preserved : goal.loop-part-preserved
loop-part-preserved c =
    let ms = c.args.measures.now in
    let ps = c.pop.new.self.items in
    let split = c.pop.ensures.items ∙ ap (λ o. ps ++ option_to_list o) c.in-Some.is in
    let lt : length ps < length ms = length_popped c.loop-part.rest.items ps c.in-Some.part (length ms) split c.loop-part.invariant.fits in
    let at : c.len.result ≡ length ps = omega (arith, c.len.ensures, c.pop.new.self.ok) in
    let field = c.measure_field.ensures ∙ ap (λ k. measure_field (slice_index_or ms k Count) c.in-Some.part) at in
    record {
      fits = omega (arith, lt);
      done = ap (λ l. l ++ reverse (map (λ f. Here f) (measure_fields ms ps))) (c.in_ok-push.ensures.items ∙ ap (λ f. c.loop-part.all.items ++ Here f ∷ []) field)
          ∙ part_popped ms c.loop-part.all.items ps c.in-Some.part Count lt
          ∙ ap (λ l. c.loop-part.all.items ++ reverse (map (λ f. Here f) (measure_fields ms l))) (sym split) ∙ c.loop-part.invariant.done;
    }

pub returns : goal.returns
returns c =
    let none = rw c.in_default.is at c.pop.ensures.cases in
    let e : length c.loop-part.rest.items ≡ 0 = omega (arith, none.0, c.loop-part.rest.ok) in
    nothing_left c.args.measures.now c.loop-part.all.items c.loop-part.rest.items e ∙ c.loop-part.invariant.done
