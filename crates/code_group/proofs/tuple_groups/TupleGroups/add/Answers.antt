use Rattle.std.proofs.Common.{◌≡◌, [], ◌∷◌, Some, sym, ap, subst, ◌∙◌, arith}
use Rattle.std.specs.List.{position}
use Rattle.std.specs.Map.{keys_of}
use Rattle.indexmap.specs.IndexMap.{set_value_at}
use Rattle.late_decode.specs.Groups.{added}
use Rattle.late_decode.specs.Parts.{merged_parts, parts_over}
use Rattle.code_group.specs.CellRow.{picked_by}
use Rattle.code_group.specs.Slots.{AreSlots}
use Rattle.code_group.specs.TupleGroups.{with_group}
use Rattle.code_group.specs.Tuples.{same_tuple}
use Rattle.code_group.proofs.GroupLemmas.{own-good, keys-written, added-at, on-ok}
use Rattle.code_group.proofs.tuple_groups.TupleGroups.add.Goals as goal

pub merge_row-requires-clause-own : goal.merge_row-requires-clause-own
merge_row-requires-clause-own g c =
    let es = c.self.inside.groups.entries in
    let ms = c.args.measures.now in
    let tuple = c.args.tuple.now in
    let so : es ≡ with_group ms tuple c.args.self.now.0 = ap (λ v. v.0) c.self.view_is ∙ c.in_ok-at.ensures.groups in
    let place : position (same_tuple tuple) (keys_of es) ≡ Some c.in_ok-at.at = ap (λ v. position (same_tuple tuple) (keys_of v.0)) c.self.view_is ∙ c.in_ok-at.ensures.place in
    (own-good c.coded_parts_within.ensures ms tuple c.args.self.now.0 es c.in_ok-at.at c.in-Some.own.now so place (sym c.in-Some.ensures.value) c.requires.groups).0

pub merge_row-requires-clause-room : goal.merge_row-requires-clause-room
merge_row-requires-clause-room g c k =
    let es = c.self.inside.groups.entries in
    let ms = c.args.measures.now in
    let tuple = c.args.tuple.now in
    let so : es ≡ with_group ms tuple c.args.self.now.0 = ap (λ v. v.0) c.self.view_is ∙ c.in_ok-at.ensures.groups in
    let place : position (same_tuple tuple) (keys_of es) ≡ Some c.in_ok-at.at = ap (λ v. position (same_tuple tuple) (keys_of v.0)) c.self.view_is ∙ c.in_ok-at.ensures.place in
    let own = (own-good c.coded_parts_within.ensures ms tuple c.args.self.now.0 es c.in_ok-at.at c.in-Some.own.now so place (sym c.in-Some.ensures.value) c.requires.groups).1 k in
    let few = c.requires.few in
    omega (arith, own, few)

pub invariant_of-self : goal.invariant_of-self
invariant_of-self g c = subst (λ ks. AreSlots c.self.inside.slots.sizes.items c.self.inside.slots.slots.items ks) (sym (keys-written c.self.inside.groups.entries c.in_ok-at.at c.merge_row.new.own)) c.self.invariant

pub returns-clause-groups : goal.returns-clause-groups
returns-clause-groups g c =
    let es = c.self.inside.groups.entries in
    let ms = c.args.measures.now in
    let tuple = c.args.tuple.now in
    let at = c.in_ok-at.at in
    let own = c.in-Some.own.now in
    let parts = parts_over ms (picked_by c.args.row.now ∷ []) in
    let so : es ≡ with_group ms tuple c.args.self.now.0 = ap (λ v. v.0) c.self.view_is ∙ c.in_ok-at.ensures.groups in
    let place : position (same_tuple tuple) (keys_of es) ≡ Some at = ap (λ v. position (same_tuple tuple) (keys_of v.0)) c.self.view_is ∙ c.in_ok-at.ensures.place in
    on-ok c.merge_row.result (c.merge_row.new.own ≡ merged_parts ms own parts) (set_value_at es at c.merge_row.new.own ≡ added same_tuple ms tuple parts c.args.self.now.0)
    (λ e. ap (set_value_at es at) e ∙ added-at ms tuple parts c.args.self.now.0 es at own so place (sym c.in-Some.ensures.value)) c.merge_row.ensures.parts
