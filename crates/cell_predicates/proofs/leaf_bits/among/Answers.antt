use Rattle.std.proofs.Common.{Some, None, map, replicate, false, true, set, arith, subst, ◌∙◌, ap}
use Rattle.std.specs.List.{list_any}
use Rattle.std.proofs.lemmas.List.{take_all}
use Rattle.blink_base.specs.declared.value.Value.{Value}
use Rattle.blink_base.specs.Values.{same_value}
use Rattle.order_codes.specs.Dictionary.{class_at}
use Rattle.cell_predicates.specs.Cuts.{IsCodeOf}
use Rattle.cell_predicates.proofs.TestLemmas.{member_more, member_less, no_codes}
use Rattle.cell_predicates.proofs.leaf_bits.among.Goals as goal
use Rattle.cell_predicates.proofs.leaf_bits.among.Goals.{in-Some, in_default}

pub loop-value-init : goal.loop-value-init
loop-value-init g c = c.in_ok-bits.ensures ∙ ap (λ n. replicate n false) c.size.ensures ∙ no_codes (class_at c.args.dict.now c.args.class)

pub loop-value-preserved : goal.loop-value-preserved
loop-value-preserved g c =
    let values = class_at c.args.dict.now c.args.class in
    let ys = c.args.values.now in
    let at = c.loop-value.value-index in
    elim c.match-code_of.branch [
      | in-Some w ↦ w.bits-is ∙ w.set.ensures ∙ ap (λ l. set l w.in-Some.code true) c.loop-value.invariant
          ∙ member_more values ys at w.in-Some.code c.value-item.result c.loop-value-test.true w.in-Some.ensures.within
          (subst (λ (y : Value). IsCodeOf values y (Some w.in-Some.code)) c.value-item.is w.in-Some.ensures.code)
      | in_default w ↦ w.bits-is ∙ c.loop-value.invariant
          ∙ member_less values ys at c.value-item.result c.loop-value-test.true (subst (λ (y : Value). IsCodeOf values y None) c.value-item.is w.in_default.ensures.code)
    ]

pub returns : goal.returns
returns g c =
    c.loop-value.invariant ∙ ap (λ l. map (λ v. list_any (same_value v) l) (class_at c.args.dict.now c.args.class)) (take_all c.loop-value.value-index c.args.values.now (omega arith))
