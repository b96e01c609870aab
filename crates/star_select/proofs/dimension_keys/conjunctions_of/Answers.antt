use Rattle.std.proofs.Common.{[], ap, ◌∙◌, slice_index_or}
use Rattle.std.proofs.lemmas.List.{get_or_read}
use Rattle.star_select.proofs.dimension_keys.conjunctions_of.Goals as goal

pub returns : goal.returns
returns c =
    let item = c.index-as_slice-table.result in
    let is = c.index-as_slice-table.is ∙ ap (λ l. slice_index_or l c.args.table item) c.as_slice.ensures in
    c.as_slice-2.ensures ∙ get_or_read c.args.query.now.filters c.args.table item c.requires is []
