use Rattle.std.proofs.Common.{arith, ◌≡◌, ◌++◌, ap, ◌∙◌, sym, subst, refl, length}
use Rattle.std.specs.Option.{option_to_list}
use Rattle.late_decode.specs.declared.plan.Measure.TheVariants.{Count}
use Rattle.late_decode.specs.Parts.{merged_parts}
use Rattle.late_decode.proofs.MergeLemmas.{IsMerging, start, last_bounded, last_few, step, end}
use Rattle.late_decode.proofs.parts.merge_parts.Goals as goal

pub loop-part-init : goal.loop-part-init
loop-part-init c =
    subst (IsMerging c.args.measures.now (merged_parts c.args.measures.now c.args.own.now c.args.parts) c.args.own.now) (sym c.into_vec-rest.ensures)
    (start c.args.measures.now c.args.own.now c.args.parts c.requires.own c.requires.parts c.requires.few)

pub merge_part-requires-clause-own : goal.merge_part-requires-clause-own
merge_part-requires-clause-own c =
    let whole = merged_parts c.args.measures.now c.args.own.now c.args.parts in
    let split = c.pop.ensures.items ∙ ap (λ o. c.pop.new.self.items ++ option_to_list o) c.in-Some.is in
    last_bounded c.args.measures.now whole c.loop-part.own c.loop-part.rest.items c.pop.new.self.items c.in-Some.part c.len-at.result split (let e : c.len-at.result ≡ length c.pop.new.self.items = omega (arith, c.len-at.ensures, c.pop.new.self.ok) in e) c.loop-part.invariant c.in-Some-get_mut.held.now c.in-Some-get_mut.ensures.value

pub merge_part-requires-clause-few : goal.merge_part-requires-clause-few
merge_part-requires-clause-few c =
    let whole = merged_parts c.args.measures.now c.args.own.now c.args.parts in
    let split = c.pop.ensures.items ∙ ap (λ o. c.pop.new.self.items ++ option_to_list o) c.in-Some.is in
    last_few c.args.measures.now whole c.loop-part.own c.loop-part.rest.items c.pop.new.self.items c.in-Some.part c.len-at.result split (let e : c.len-at.result ≡ length c.pop.new.self.items = omega (arith, c.len-at.ensures, c.pop.new.self.ok) in e) c.loop-part.invariant c.in-Some-get_mut.held.now c.in-Some-get_mut.ensures.value

pub loop-part-preserved : goal.loop-part-preserved
loop-part-preserved c =
    let whole = merged_parts c.args.measures.now c.args.own.now c.args.parts in
    let split = c.pop.ensures.items ∙ ap (λ o. c.pop.new.self.items ++ option_to_list o) c.in-Some.is in
    step c.args.measures.now whole c.loop-part.own c.loop-part.rest.items c.pop.new.self.items c.in-Some.part c.len-at.result split (let e : c.len-at.result ≡ length c.pop.new.self.items = omega (arith, c.len-at.ensures, c.pop.new.self.ok) in e) c.loop-part.invariant _ Count c.in-Some-get_mut.held.now
    c.merge_part.new.own refl c.in-Some-get_mut.ensures.value c.merge_part.ensures

pub returns : goal.returns
returns c =
    let whole = merged_parts c.args.measures.now c.args.own.now c.args.parts in
    let none = rw c.in_default.is at c.pop.ensures.cases in
    let e : length c.loop-part.rest.items ≡ 0 = omega (arith, none.0, c.loop-part.rest.ok) in
    end c.args.measures.now whole c.loop-part.own c.loop-part.rest.items e c.loop-part.invariant
