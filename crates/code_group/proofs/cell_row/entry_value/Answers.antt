use Rattle.std.proofs.Common.{◌≡◌, true, [], pos, ◌∙◌, sym, ap, subst, length, nat_lt, unwrap_or, slice_index_or, arith}
use Rattle.std.specs.List.{list_all}
use Rattle.std.specs.Map.{values_of}
use Rattle.std.proofs.lemmas.Bool.{ltb-true}
use Rattle.blink_base.specs.declared.value.Value.TheVariants.{Int}
use Rattle.blink_lists.proofs.GroupLemmas.{both}
use Rattle.blink_lists.proofs.SliceLemmas.{got}
use Rattle.order_codes.specs.Dictionary.{decoded}
use Rattle.code_group.specs.Entries.{value_at, value_of_entry, value_of_code}
use Rattle.code_group.specs.Plans.{pick_there}
use Rattle.code_group.proofs.EntryLemmas.{there-at, pair-at, payload-long}
use Rattle.code_group.proofs.cell_row.entry_value.Goals as goal

pub bounds-as_slice-place : goal.bounds-as_slice-place
bounds-as_slice-place g c =
    let keys = c.args.keys.now in
    let tie = c.in-Dimension.tie in
    let place = c.in-Dimension.place in
    let there = subst (λ p. pick_there (length c.args.dicts.now) keys p ≡ true) c.in-Dimension.is c.requires.pick in
    let b = both (nat_lt tie (length keys)) (list_all (λ entry. nat_lt place (length entry.1)) (slice_index_or keys tie [])) there in
    let keyed = there-at keys tie c.index-keys-tie.result [] (ltb-true tie (length keys) b.0) c.index-keys-tie.is in
    let long = payload-long c.index-keys-tie.result c.args.entry place c.payload-payload.result.now (ap (list_all (λ entry. nat_lt place (length entry.1))) keyed ∙ b.1) c.payload-payload.ensures in
    omega (arith, long, ap (λ l. length l) c.as_slice.ensures)

pub returns-in-Fact-clause-value : goal.returns-in-Fact-clause-value
returns-in-Fact-clause-value g c =
    let dicts = c.args.dicts.now in
    let classes = c.args.classes.now in
    let column = c.in-Fact.column in
    let there = subst (λ p. pick_there (length dicts) c.args.keys.now p ≡ true) c.in-Fact.is c.requires.pick in
    let lt = ltb-true column (length dicts) there in
    let dict = there-at dicts column c.index-dicts-at.result [] lt c.index-dicts-at.is in
    let value = sym c.decode.ensures.value ∙ ap (λ d. decoded d (slice_index_or classes column 0) c.args.entry) dict in
    ap (λ o. unwrap_or o (Int (pos 0))) value
    ∙ sym (ap (λ o. value_of_code o c.args.entry) (pair-at dicts classes column [] 0 lt c.requires.classes.full))
    ∙ sym (ap (λ p. value_of_entry dicts classes c.args.keys.now p c.args.entry) c.in-Fact.is)

pub returns-in-Dimension-clause-value : goal.returns-in-Dimension-clause-value
returns-in-Dimension-clause-value g c =
    let keys = c.args.keys.now in
    let tie = c.in-Dimension.tie in
    let place = c.in-Dimension.place in
    let there = subst (λ p. pick_there (length c.args.dicts.now) keys p ≡ true) c.in-Dimension.is c.requires.pick in
    let b = both (nat_lt tie (length keys)) (list_all (λ entry. nat_lt place (length entry.1)) (slice_index_or keys tie [])) there in
    let keyed = there-at keys tie c.index-keys-tie.result [] (ltb-true tie (length keys) b.0) c.index-keys-tie.is in
    let long = payload-long c.index-keys-tie.result c.args.entry place c.payload-payload.result.now (ap (list_all (λ entry. nat_lt place (length entry.1))) keyed ∙ b.1) c.payload-payload.ensures in
    let payload = sym (got (values_of c.index-keys-tie.result) c.args.entry c.payload-payload.result.now [] c.payload-payload.ensures) ∙ ap (λ k. slice_index_or (values_of k) c.args.entry []) keyed in
    let row = c.as_slice.ensures ∙ payload in
    there-at c.as_slice.result.now place c.index-as_slice-place.result (Int (pos 0)) (omega (arith, long, ap (λ l. length l) c.as_slice.ensures)) c.index-as_slice-place.is
    ∙ ap (λ r. value_at r place) row
    ∙ sym (ap (λ p. value_of_entry c.args.dicts.now c.args.classes.now keys p c.args.entry) c.in-Dimension.is)
