use Rattle.std.proofs.Common.{[], pos, length, nat_lt, slice_index_or, slice_get, sym, ap, ◌∙◌, arith, true≢false}
use Rattle.std.specs.Map.{values_of}
use Rattle.std.specs.Option.{is_some}
use Rattle.std.proofs.lemmas.Bool.{ltb-true}
use Rattle.blink_base.specs.declared.value.Value.TheVariants.{Int}
use Rattle.blink_lists.proofs.AllLemmas.{all_at}
use Rattle.code_join.specs.Keys.{place_of_key}
use Rattle.code_group.specs.Entries.{value_at}
use Rattle.code_group.proofs.EntryLemmas.{there-at, payload-long}
use Rattle.code_group.proofs.RestLemmas.{key-joined}
use Rattle.code_group.proofs.rest_row.RestRow.payload.Goals as goal

pub unreachable-requires : goal.unreachable-requires
unreachable-requires c =
    let s = c.args.self.now in
    let keys = s.keys.now in
    let ties = s.ties.now in
    let row = s.row.now in
    let tie = c.args.tie in
    let many = s.many in
    let lt = c.requires in
    let column = ltb-true (slice_index_or ties tie 0) (length row) (all_at (λ k. nat_lt k (length row)) ties tie 0 s.within (omega (arith, many, lt))) in
    let keyed = sym c.index-self-tie.is ∙ there-at keys tie c.index-self-tie.result [] lt c.index-self-tie.is in
    let value = there-at c.as_slice.result.now (slice_index_or ties tie 0) c.index-as_slice-self.result (Int (pos 0)) (omega (arith, column, ap (λ l. length l) c.as_slice.ensures)) c.index-as_slice-self.is ∙ ap (λ r. value_at r (slice_index_or ties tie 0)) c.as_slice.ensures in
    let none = sym c.in-None.is ∙ c.place.ensures.place ∙ (λ i. place_of_key (keyed i) (value i)) in
    true≢false (sym (key-joined row ties keys tie many s.joined lt) ∙ sym (ap is_some none))

pub returns-clause-kept : goal.returns-clause-kept
returns-clause-kept c place long =
    let keys = c.args.self.now.keys.now in
    let tie = c.args.tie in
    let keyed = sym c.index-self-tie.is ∙ there-at keys tie c.index-self-tie.result [] c.requires c.index-self-tie.is in
    payload-long (slice_index_or keys tie []) c.in-Some.place place c.payload.result.now long (ap (λ k. slice_get (values_of k) c.in-Some.place) (sym keyed) ∙ c.payload.ensures)
