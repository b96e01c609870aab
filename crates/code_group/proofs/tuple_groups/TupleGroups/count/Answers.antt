use Rattle.std.proofs.Common.{◌≡◌, true, Some, sym, ap, subst, ◌∙◌, arith}
use Rattle.std.specs.List.{position}
use Rattle.std.specs.Map.{keys_of}
use Rattle.indexmap.specs.IndexMap.{set_value_at}
use Rattle.late_decode.specs.Bounds.{are_parts}
use Rattle.late_decode.specs.Parts.{merged_parts}
use Rattle.code_group.specs.RowParts.{rows_counted}
use Rattle.code_group.specs.Slots.{AreSlots}
use Rattle.code_group.specs.TupleGroups.{with_group}
use Rattle.code_group.specs.Tuples.{same_tuple}
use Rattle.code_group.proofs.GroupLemmas.{own-good, keys-written, added-at}
use Rattle.code_group.proofs.tuple_groups.TupleGroups.count.Goals as goal

pub count_rows-requires-clause-own : goal.count_rows-requires-clause-own
count_rows-requires-clause-own c =
    let es = c.self.inside.groups.entries in
    let ms = c.args.measures.now in
    let tuple = c.args.tuple.now in
    let own = c.in-Some.own.now in
    let so : es ≡ with_group ms tuple c.args.self.now.0 = ap (λ v. v.0) c.self.view_is ∙ c.in_ok-at.ensures.groups in
    let place : position (same_tuple tuple) (keys_of es) ≡ Some c.in_ok-at.at = ap (λ v. position (same_tuple tuple) (keys_of v.0)) c.self.view_is ∙ c.in_ok-at.ensures.place in
    let good = (own-good c.coded_parts_within.ensures ms tuple c.args.self.now.0 es c.in_ok-at.at own so place (sym c.in-Some.ensures.value) c.requires.groups).0 in
    subst (λ l. are_parts l own ≡ true) c.requires.measures good

pub count_rows-requires-clause-room : goal.count_rows-requires-clause-room
count_rows-requires-clause-room c =
    let es = c.self.inside.groups.entries in
    let ms = c.args.measures.now in
    let tuple = c.args.tuple.now in
    let so : es ≡ with_group ms tuple c.args.self.now.0 = ap (λ v. v.0) c.self.view_is ∙ c.in_ok-at.ensures.groups in
    let place : position (same_tuple tuple) (keys_of es) ≡ Some c.in_ok-at.at = ap (λ v. position (same_tuple tuple) (keys_of v.0)) c.self.view_is ∙ c.in_ok-at.ensures.place in
    let own = (own-good c.coded_parts_within.ensures ms tuple c.args.self.now.0 es c.in_ok-at.at c.in-Some.own.now so place (sym c.in-Some.ensures.value) c.requires.groups).1 0 in
    let few = c.requires.few in
    omega (arith, own, few)

pub invariant_of-self : goal.invariant_of-self
invariant_of-self c = subst (λ ks. AreSlots c.self.inside.slots.sizes.items c.self.inside.slots.slots.items ks) (sym (keys-written c.self.inside.groups.entries c.in_ok-at.at c.count_rows.new.own)) c.self.invariant

pub returns-clause-groups : goal.returns-clause-groups
returns-clause-groups c =
    let es = c.self.inside.groups.entries in
    let ms = c.args.measures.now in
    let tuple = c.args.tuple.now in
    let at = c.in_ok-at.at in
    let own = c.in-Some.own.now in
    let parts = rows_counted c.args.rows in
    let so : es ≡ with_group ms tuple c.args.self.now.0 = ap (λ v. v.0) c.self.view_is ∙ c.in_ok-at.ensures.groups in
    let place : position (same_tuple tuple) (keys_of es) ≡ Some at = ap (λ v. position (same_tuple tuple) (keys_of v.0)) c.self.view_is ∙ c.in_ok-at.ensures.place in
    ap (set_value_at es at) (c.count_rows.ensures ∙ ap (λ l. merged_parts l own parts) (sym c.requires.measures))
    ∙ added-at ms tuple parts c.args.self.now.0 es at own so place (sym c.in-Some.ensures.value)
