use Rattle.std.proofs.Common.{ap, ◌∙◌, slice_index_or}
use Rattle.std.specs.Prelude.{pos}
use Rattle.std.proofs.lemmas.List.{get_or_read}
use Rattle.blink_base.specs.declared.value.Value.TheVariants.{Int}
use Rattle.code_join.specs.Keys.{place_of_key}
use Rattle.dim_filter.proofs.rest.collect_rest.Goals as goal

pub put-requires-clause-absent : goal.put-requires-clause-absent
put-requires-clause-absent c =
    let read = get_or_read c.args.row.now c.args.key c.index-values-key.result c.requires.key (c.index-values-key.is ∙ ap (λ xs. slice_index_or xs c.args.key c.index-values-key.result) c.as_slice-values.ensures) (Int (pos 0)) in
    ap (place_of_key c.args.into.now) (c.in_ok-key.ensures ∙ read) ∙ c.requires.absent
