use Rattle.std.proofs.Common.{ap, sym, ◌∙◌, slice_index_or}
use Rattle.std.specs.Prelude.{pos}
use Rattle.std.proofs.lemmas.List.{get_or_read}
use Rattle.blink_base.specs.declared.value.Value.TheVariants.{Int}
use Rattle.code_join.specs.Keys.{place_of_key}
use Rattle.join_tests.proofs.dimension.put_rest.Goals as goal

pub collect_rest-requires-clause-absent : goal.collect_rest-requires-clause-absent
collect_rest-requires-clause-absent c =
    let within = rw c.len.ensures at c.if-key-len.false in
    let read = get_or_read c.args.row.now c.args.key c.index-as_slice-key.result within (c.index-as_slice-key.is ∙ ap (λ xs. slice_index_or xs c.args.key c.index-as_slice-key.result) c.as_slice.ensures) (Int (pos 0)) in
    ap (place_of_key c.args.keys.now) (sym read) ∙ sym c.place.ensures.place ∙ c.in-None.is
