use Rattle.std.proofs.Common.{List, ℕ, IsUtf8, ◌∙◌, ap, subst, replicate, false}
use Rattle.std.specs.Ordering.{is_lt}
use Rattle.blink_base.specs.declared.value.Value.TheVariants.{Text}
use Rattle.blink_base.specs.Values.{value_cmp}
use Rattle.order_codes.specs.Dictionary.{class_at}
use Rattle.page_synopsis.specs.BitSets.{with_range}
use Rattle.cell_predicates.specs.Cuts.{IsCut}
use Rattle.cell_predicates.specs.Prefixes.{behind_front}
use Rattle.cell_predicates.proofs.TestLemmas.{has_prefix}
use Rattle.cell_predicates.proofs.leaf_bits.prefixed.Goals as goal

pub returns : goal.returns
returns g c =
    let values = class_at c.args.dict.now c.args.class in
    let first = c.in_ok-from_str.ensures ∙ c.as_str.ensures in
    let behind = c.in_ok-behind_front.ensures ∙ ap behind_front c.as_str-2.ensures in
    c.set_range.ensures ∙ ap (with_range c.lesser.result c.lesser-2.result) (c.in_ok-bits.ensures ∙ ap (λ n. replicate n false) c.size.ensures)
    ∙ has_prefix values c.args.front.now c.lesser.result c.lesser-2.result (subst (λ (t : List ℕ). IsUtf8 t) c.as_str.ensures c.as_str.utf8) c.requires.good
    (subst (λ (t : List ℕ). IsCut values (λ v. is_lt (value_cmp v (Text t))) c.lesser.result) first c.lesser.ensures.cut)
    (subst (λ (t : List ℕ). IsCut values (λ v. is_lt (value_cmp v (Text t))) c.lesser-2.result) behind c.lesser-2.ensures.cut)
