use Rattle.std.proofs.Common.{◌∙◌, ap, sym, subst, position}
use Rattle.std.specs.Map.{keys_of}
use Rattle.indexmap.specs.IndexMap.{insert_entry, set_value_at}
use Rattle.blink_base.specs.Values.{same_row}
use Rattle.blink_base.proofs.LineLemmas.{tells_rows}
use Rattle.late_decode.specs.Bounds.{are_parts, are_groups}
use Rattle.late_decode.specs.Groups.{added}
use Rattle.late_decode.specs.Parts.{no_parts, merged_parts}
use Rattle.late_decode.specs.PartSteps.{AreFew}
use Rattle.late_decode.proofs.BoundLemmas.{added_groups, none_bounded}
use Rattle.late_decode.proofs.EntryLemmas.{written, inserted, group_parts, group_few, new_few}
use Rattle.late_decode.proofs.groups.Groups.add.Goals as goal

pub merge_parts-requires-clause-own : goal.merge_parts-requires-clause-own
merge_parts-requires-clause-own c =
    let here = sym c.in-Some-get_index_mut.ensures.value in
    ap (λ ms. are_parts ms c.in-Some-get_index_mut.own.now) c.as_slice-measures.ensures
    ∙ group_parts c.self.inside.measures c.self.inside.groups.entries c.in-Some.at c.in-Some-get_index_mut.own.now c.self.invariant here

pub merge_parts-requires-clause-few : goal.merge_parts-requires-clause-few
merge_parts-requires-clause-few c =
    let here = sym c.in-Some-get_index_mut.ensures.value in
    let few = rw (← c.self.view_is) at c.requires.few in
    let good = ap (λ v. are_parts v.0 c.args.parts) c.self.view_is ∙ c.requires.parts in
    group_few c.self.inside.measures c.self.inside.groups.entries c.in-Some.at c.in-Some-get_index_mut.own.now c.args.key c.args.parts c.self.invariant here good few

pub merge_parts-requires-in-None-clause-own : goal.merge_parts-requires-in-None-clause-own
merge_parts-requires-in-None-clause-own c =
    ap (are_parts c.as_slice-measures.result.now) c.in_ok-own-in-None.ensures ∙ none_bounded c.as_slice-measures.result.now

pub merge_parts-requires-in-None-clause-few : goal.merge_parts-requires-in-None-clause-few
merge_parts-requires-in-None-clause-few c =
    let few = rw (← c.self.view_is) at c.requires.few in
    let good = ap (λ v. are_parts v.0 c.args.parts) c.self.view_is ∙ c.requires.parts in
    let own = c.in_ok-own-in-None.ensures ∙ ap no_parts c.as_slice-measures.ensures in
    subst (λ l. AreFew l c.args.parts) (sym own) (new_few c.self.inside.measures c.self.inside.groups.entries c.args.key c.args.parts good few)

pub invariant_of-self : goal.invariant_of-self
invariant_of-self c =
    let es = c.self.inside.groups.entries in
    let ms = c.self.inside.measures in
    let own = c.in-Some-get_index_mut.own.now in
    let at = ap (λ k. position (same_row k) (keys_of es)) (sym c.new-key.ensures) ∙ sym c.get_index_of.ensures.index ∙ c.in-Some.is in
    let merged = c.merge_parts.ensures ∙ ap (λ m. merged_parts m own c.args.parts) c.as_slice-measures.ensures in
    let entries = ap (set_value_at es c.in-Some.at) merged ∙ written same_row tells_rows ms c.args.key c.args.parts es c.in-Some.at own at (sym c.in-Some-get_index_mut.ensures.value) in
    let good = ap (λ v. are_parts v.0 c.args.parts) c.self.view_is ∙ c.requires.parts in
    ap (are_groups ms) entries ∙ added_groups same_row ms c.args.key c.args.parts good es c.self.invariant

pub returns-in-Some-get_index_mut-clause-ok : goal.returns-in-Some-get_index_mut-clause-ok
returns-in-Some-get_index_mut-clause-ok c =
    let es = c.self.inside.groups.entries in
    let ms = c.self.inside.measures in
    let own = c.in-Some-get_index_mut.own.now in
    let at = ap (λ k. position (same_row k) (keys_of es)) (sym c.new-key.ensures) ∙ sym c.get_index_of.ensures.index ∙ c.in-Some.is in
    let merged = c.merge_parts.ensures ∙ ap (λ m. merged_parts m own c.args.parts) c.as_slice-measures.ensures in
    ap (set_value_at es c.in-Some.at) merged ∙ written same_row tells_rows ms c.args.key c.args.parts es c.in-Some.at own at (sym c.in-Some-get_index_mut.ensures.value)
    ∙ ap (λ v. added same_row v.0 c.args.key c.args.parts v.1) c.self.view_is

pub invariant_of-self-in-None : goal.invariant_of-self-in-None
invariant_of-self-in-None c =
    let es = c.self.inside.groups.entries in
    let ms = c.self.inside.measures in
    let at = ap (λ k. position (same_row k) (keys_of es)) (sym c.new-key.ensures) ∙ sym c.get_index_of.ensures.index ∙ c.in-None.is in
    let merged = c.merge_parts-in-None.ensures ∙ (λ i. merged_parts (c.as_slice-measures.ensures i) ((c.in_ok-own-in-None.ensures ∙ ap no_parts c.as_slice-measures.ensures) i) c.args.parts) in
    let entries = c.in_ok-insert-in-None.ensures.entries ∙ (λ i. insert_entry same_row es (c.new-key.ensures i) (merged i)) ∙ inserted same_row tells_rows ms c.args.key c.args.parts es at in
    let good = ap (λ v. are_parts v.0 c.args.parts) c.self.view_is ∙ c.requires.parts in
    ap (are_groups ms) entries ∙ added_groups same_row ms c.args.key c.args.parts good es c.self.invariant

pub returns-in_ok-insert-in-None-clause-ok : goal.returns-in_ok-insert-in-None-clause-ok
returns-in_ok-insert-in-None-clause-ok c =
    let es = c.self.inside.groups.entries in
    let ms = c.self.inside.measures in
    let at = ap (λ k. position (same_row k) (keys_of es)) (sym c.new-key.ensures) ∙ sym c.get_index_of.ensures.index ∙ c.in-None.is in
    let merged = c.merge_parts-in-None.ensures ∙ (λ i. merged_parts (c.as_slice-measures.ensures i) ((c.in_ok-own-in-None.ensures ∙ ap no_parts c.as_slice-measures.ensures) i) c.args.parts) in
    c.in_ok-insert-in-None.ensures.entries ∙ (λ i. insert_entry same_row es (c.new-key.ensures i) (merged i)) ∙ inserted same_row tells_rows ms c.args.key c.args.parts es at
    ∙ ap (λ v. added same_row v.0 c.args.key c.args.parts v.1) c.self.view_is
