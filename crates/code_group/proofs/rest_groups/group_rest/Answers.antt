use Rattle.std.proofs.Common.{◌≡◌, ◌≤◌, ◌+◌, true, cond, [], ◌∷◌, sym, ap, ◌∙◌}
use Rattle.blink_base.specs.Values.{same_row}
use Rattle.late_decode.specs.Bounds.{combinations_in}
use Rattle.late_decode.specs.Groups.{added}
use Rattle.late_decode.specs.Parts.{parts_over}
use Rattle.late_decode.specs.PlannedRows.{key_of}
use Rattle.code_group.specs.Entries.{has_keys, picked_beside}
use Rattle.code_group.specs.GroupRows.{rest_added}
use Rattle.code_group.specs.Plans.{are_of_plan}
use Rattle.code_group.proofs.GroupLemmas.{on-ok}
use Rattle.code_group.proofs.RestLemmas.{rest-parts, rest-few, rest-made, rest-groups, rest-fewer}
use Rattle.code_group.proofs.rest_groups.group_rest.Goals as goal

pub add-requires-clause-parts : goal.add-requires-clause-parts
add-requires-clause-parts c =
    let plan = c.args.plan.now in
    let at = picked_beside plan.ties c.args.keys.now c.args.row.now in
    let row = c.in-Some.ensures.row.0 in
    let ties = c.in-Some.ensures.row.1 ∙ c.as_slice.ensures in
    let keys = c.in-Some.ensures.row.2 in
    let joined : has_keys plan.ties c.args.keys.now c.args.row.now ≡ true = (λ i. has_keys (sym ties i) (sym keys i) (sym row i)) ∙ c.in-Some.rest.joined in
    let key : c.in_ok-key-in-Some.key ≡ key_of plan.keys at = c.in_ok-key-in-Some.ensures ∙ (λ i. key_of (c.as_slice-in-Some.ensures i) (picked_beside (ties i) (keys i) (row i))) in
    let parts : c.in_ok-parts-in-Some.parts ≡ parts_over plan.measures (at ∷ []) =
    c.in_ok-parts-in-Some.ensures ∙ (λ i. parts_over (c.as_slice-in-Some-2.ensures i) (picked_beside (ties i) (keys i) (row i) ∷ [])) in
    rest-parts plan at c.args.into.now c.in_ok-key-in-Some.key c.in_ok-parts-in-Some.parts c.requires.measures key parts (c.requires.numbers joined) c.rows_are_parts.ensures

pub add-requires-clause-few : goal.add-requires-clause-few
add-requires-clause-few c =
    let plan = c.args.plan.now in
    let at = picked_beside plan.ties c.args.keys.now c.args.row.now in
    let row = c.in-Some.ensures.row.0 in
    let ties = c.in-Some.ensures.row.1 ∙ c.as_slice.ensures in
    let keys = c.in-Some.ensures.row.2 in
    let joined : has_keys plan.ties c.args.keys.now c.args.row.now ≡ true = (λ i. has_keys (sym ties i) (sym keys i) (sym row i)) ∙ c.in-Some.rest.joined in
    let key : c.in_ok-key-in-Some.key ≡ key_of plan.keys at = c.in_ok-key-in-Some.ensures ∙ (λ i. key_of (c.as_slice-in-Some.ensures i) (picked_beside (ties i) (keys i) (row i))) in
    let parts : c.in_ok-parts-in-Some.parts ≡ parts_over plan.measures (at ∷ []) =
    c.in_ok-parts-in-Some.ensures ∙ (λ i. parts_over (c.as_slice-in-Some-2.ensures i) (picked_beside (ties i) (keys i) (row i) ∷ [])) in
    rest-few plan at c.args.into.now c.in_ok-key-in-Some.key c.in_ok-parts-in-Some.parts c.requires.measures key parts (c.requires.numbers joined) c.combinations_together.ensures c.requires.few

pub returns-in_ok-parts-in-Some-clause-added : goal.returns-in_ok-parts-in-Some-clause-added
returns-in_ok-parts-in-Some-clause-added c =
    let plan = c.args.plan.now in
    let at = picked_beside plan.ties c.args.keys.now c.args.row.now in
    let row = c.in-Some.ensures.row.0 in
    let ties = c.in-Some.ensures.row.1 ∙ c.as_slice.ensures in
    let keys = c.in-Some.ensures.row.2 in
    let joined : has_keys plan.ties c.args.keys.now c.args.row.now ≡ true = (λ i. has_keys (sym ties i) (sym keys i) (sym row i)) ∙ c.in-Some.rest.joined in
    let key : c.in_ok-key-in-Some.key ≡ key_of plan.keys at = c.in_ok-key-in-Some.ensures ∙ (λ i. key_of (c.as_slice-in-Some.ensures i) (picked_beside (ties i) (keys i) (row i))) in
    let parts : c.in_ok-parts-in-Some.parts ≡ parts_over plan.measures (at ∷ []) =
    c.in_ok-parts-in-Some.ensures ∙ (λ i. parts_over (c.as_slice-in-Some-2.ensures i) (picked_beside (ties i) (keys i) (row i) ∷ [])) in
    let new = c.add.new.self.1 in
    let old = c.args.into.now.1 in
    let here = ap (λ b. rest_added plan c.args.keys.now (cond b (c.args.row.now ∷ []) []) old) (sym joined) in
    on-ok c.add.result (new ≡ added same_row c.args.into.now.0 c.in_ok-key-in-Some.key c.in_ok-parts-in-Some.parts old)
    (new ≡ rest_added plan c.args.keys.now (cond (has_keys plan.ties c.args.keys.now c.args.row.now) (c.args.row.now ∷ []) []) old)
    (λ e. rest-made plan at c.args.into.now c.in_ok-key-in-Some.key c.in_ok-parts-in-Some.parts c.requires.measures key parts (c.requires.numbers joined) new e ∙ here) c.add.ensures.ok

pub returns-in_ok-parts-in-Some-clause-groups : goal.returns-in_ok-parts-in-Some-clause-groups
returns-in_ok-parts-in-Some-clause-groups c =
    let plan = c.args.plan.now in
    let at = picked_beside plan.ties c.args.keys.now c.args.row.now in
    let row = c.in-Some.ensures.row.0 in
    let ties = c.in-Some.ensures.row.1 ∙ c.as_slice.ensures in
    let keys = c.in-Some.ensures.row.2 in
    let joined : has_keys plan.ties c.args.keys.now c.args.row.now ≡ true = (λ i. has_keys (sym ties i) (sym keys i) (sym row i)) ∙ c.in-Some.rest.joined in
    let key : c.in_ok-key-in-Some.key ≡ key_of plan.keys at = c.in_ok-key-in-Some.ensures ∙ (λ i. key_of (c.as_slice-in-Some.ensures i) (picked_beside (ties i) (keys i) (row i))) in
    let parts : c.in_ok-parts-in-Some.parts ≡ parts_over plan.measures (at ∷ []) =
    c.in_ok-parts-in-Some.ensures ∙ (λ i. parts_over (c.as_slice-in-Some-2.ensures i) (picked_beside (ties i) (keys i) (row i) ∷ [])) in
    let new = c.add.new.self.1 in
    on-ok c.add.result (new ≡ added same_row c.args.into.now.0 c.in_ok-key-in-Some.key c.in_ok-parts-in-Some.parts c.args.into.now.1) (are_of_plan plan new ≡ true)
    (λ e. rest-groups plan at c.args.into.now c.in_ok-key-in-Some.key c.in_ok-parts-in-Some.parts c.requires.measures key parts (c.requires.numbers joined) new e c.added_are_groups.ensures c.rows_are_parts.ensures c.requires.groups) c.add.ensures.ok

pub returns-in_ok-parts-in-Some-clause-few : goal.returns-in_ok-parts-in-Some-clause-few
returns-in_ok-parts-in-Some-clause-few c =
    let plan = c.args.plan.now in
    let at = picked_beside plan.ties c.args.keys.now c.args.row.now in
    let row = c.in-Some.ensures.row.0 in
    let ties = c.in-Some.ensures.row.1 ∙ c.as_slice.ensures in
    let keys = c.in-Some.ensures.row.2 in
    let joined : has_keys plan.ties c.args.keys.now c.args.row.now ≡ true = (λ i. has_keys (sym ties i) (sym keys i) (sym row i)) ∙ c.in-Some.rest.joined in
    let key : c.in_ok-key-in-Some.key ≡ key_of plan.keys at = c.in_ok-key-in-Some.ensures ∙ (λ i. key_of (c.as_slice-in-Some.ensures i) (picked_beside (ties i) (keys i) (row i))) in
    let parts : c.in_ok-parts-in-Some.parts ≡ parts_over plan.measures (at ∷ []) =
    c.in_ok-parts-in-Some.ensures ∙ (λ i. parts_over (c.as_slice-in-Some-2.ensures i) (picked_beside (ties i) (keys i) (row i) ∷ [])) in
    let new = c.add.new.self.1 in
    on-ok c.add.result (new ≡ added same_row c.args.into.now.0 c.in_ok-key-in-Some.key c.in_ok-parts-in-Some.parts c.args.into.now.1)
    (combinations_in plan.measures new ≤ combinations_in plan.measures c.args.into.now.1 + 1)
    (λ e. rest-fewer plan at c.args.into.now c.in_ok-key-in-Some.key c.in_ok-parts-in-Some.parts c.requires.measures key parts (c.requires.numbers joined) new e c.combinations_added.ensures) c.add.ensures.ok
