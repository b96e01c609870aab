use Rattle.std.proofs.Common.{◌≡◌, arith, sym, ◌∙◌, ap, map, replicate, false, length}
use Rattle.std.proofs.lemmas.List.{length-replicate}
use Rattle.blink_base.specs.Tests.{op_holds}
use Rattle.blink_base.specs.Values.{value_cmp}
use Rattle.order_codes.specs.Dictionary.{class_at}
use Rattle.page_synopsis.specs.BitSets.{with_range}
use Rattle.page_synopsis.proofs.BitSetLemmas.{length_range}
use Rattle.cell_predicates.proofs.TestLemmas.{is_equal, is_unequal, is_less, is_less_equal, is_greater, is_greater_equal}
use Rattle.cell_predicates.proofs.leaf_bits.compared.Goals as goal
use Rattle.cell_predicates.proofs.leaf_bits.compared.Goals.{in-Equal, in-Unequal, in-Less, in-LessEqual, in-Greater, in-GreaterEqual}

pub set_range-requires-in-Unequal-2 : goal.set_range-requires-in-Unequal-2
set_range-requires-in-Unequal-2 g c =
    let long = length_range 0 c.lesser-low.result c.in_ok-bits.bits in
    omega (arith, ap length c.set_range-in-Unequal.ensures, long, ap length c.in_ok-bits.ensures, length-replicate c.size-size.result false)

pub returns : goal.returns
returns g c =
    let values = class_at c.args.dict.now c.args.class in
    let y = c.args.value.now in
    let start : c.in_ok-bits.bits ≡ replicate (length values) false = c.in_ok-bits.ensures ∙ ap (λ n. replicate n false) c.size-size.ensures in
    elim c.match-op.branch [
      | in-Equal w ↦ w.bits-is ∙ w.set_range.ensures ∙ ap (with_range c.lesser-low.result c.not_greater-high.result) start
          ∙ is_equal values y c.lesser-low.result c.not_greater-high.result c.lesser-low.ensures.cut c.not_greater-high.ensures ∙ ap (λ o. map (λ v. op_holds o (value_cmp v y)) values) (sym w.in-Equal.is)
      | in-Unequal w ↦ w.bits-is ∙ w.set_range-in-Unequal-2.ensures ∙ ap (with_range c.not_greater-high.result c.size-size.result) (w.set_range-in-Unequal.ensures ∙ ap (with_range 0 c.lesser-low.result) start)
          ∙ ap (λ n. with_range c.not_greater-high.result n (with_range 0 c.lesser-low.result (replicate (length values) false))) c.size-size.ensures
          ∙ is_unequal values y c.lesser-low.result c.not_greater-high.result c.lesser-low.ensures.cut c.not_greater-high.ensures ∙ ap (λ o. map (λ v. op_holds o (value_cmp v y)) values) (sym w.in-Unequal.is)
      | in-Less w ↦ w.bits-is ∙ w.set_range-in-Less.ensures ∙ ap (with_range 0 c.lesser-low.result) start
          ∙ is_less values y c.lesser-low.result c.not_greater-high.result c.lesser-low.ensures.cut c.not_greater-high.ensures ∙ ap (λ o. map (λ v. op_holds o (value_cmp v y)) values) (sym w.in-Less.is)
      | in-LessEqual w ↦ w.bits-is ∙ w.set_range-in-LessEqual.ensures ∙ ap (with_range 0 c.not_greater-high.result) start
          ∙ is_less_equal values y c.lesser-low.result c.not_greater-high.result c.lesser-low.ensures.cut c.not_greater-high.ensures ∙ ap (λ o. map (λ v. op_holds o (value_cmp v y)) values) (sym w.in-LessEqual.is)
      | in-Greater w ↦ w.bits-is ∙ w.set_range-in-Greater.ensures ∙ ap (with_range c.not_greater-high.result c.size-size.result) start
          ∙ ap (λ n. with_range c.not_greater-high.result n (replicate (length values) false)) c.size-size.ensures
          ∙ is_greater values y c.lesser-low.result c.not_greater-high.result c.lesser-low.ensures.cut c.not_greater-high.ensures ∙ ap (λ o. map (λ v. op_holds o (value_cmp v y)) values) (sym w.in-Greater.is)
      | in-GreaterEqual w ↦ w.bits-is ∙ w.set_range-in-GreaterEqual.ensures ∙ ap (with_range c.lesser-low.result c.size-size.result) start
          ∙ ap (λ n. with_range c.lesser-low.result n (replicate (length values) false)) c.size-size.ensures
          ∙ is_greater_equal values y c.lesser-low.result c.not_greater-high.result c.lesser-low.ensures.cut c.not_greater-high.ensures ∙ ap (λ o. map (λ v. op_holds o (value_cmp v y)) values) (sym w.in-GreaterEqual.is)
    ]
