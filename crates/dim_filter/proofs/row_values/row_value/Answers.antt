use Rattle.std.proofs.Common.{◌≡◌, [], ap, sym, ◌∙◌, subst, slice_index_or}
use Rattle.std.specs.Prelude.{IfOk}
use Rattle.std.proofs.lemmas.List.{get_or_read}
use Rattle.dim_filter.proofs.CellRowLemmas.{classes_full, code_within, value_decoded}
use Rattle.dim_filter.proofs.row_values.row_value.Goals as goal

pub bounds-cell_classes-column : goal.bounds-cell_classes-column
bounds-cell_classes-column g c = rw (c.cell_classes.ensures, classes_full c.args.image.now c.args.cell c.args.row c.requires.valid c.requires.cell c.requires.row) c.requires.column

pub decode-requires : goal.decode-requires
decode-requires g c =
    let dict = get_or_read c.args.image.now.columns c.args.column c.index-dictionaries-column.result c.requires.column (c.index-dictionaries-column.is ∙ ap (λ l. slice_index_or l c.args.column c.index-dictionaries-column.result) c.dictionaries.ensures.columns) [] in
    rw (dict, c.cell_classes.ensures, c.code-code.ensures) (code_within c.args.image.now c.args.cell c.args.row c.requires.valid c.requires.cell c.requires.row c.args.column c.requires.column)

pub returns-clause-value : goal.returns-clause-value
returns-clause-value g c =
    let dict = get_or_read c.args.image.now.columns c.args.column c.index-dictionaries-column.result c.requires.column (c.index-dictionaries-column.is ∙ ap (λ l. slice_index_or l c.args.column c.index-dictionaries-column.result) c.dictionaries.ensures.columns) [] in
    let value =
    value_decoded c.args.image.now c.args.cell c.args.row c.requires.valid c.requires.cell c.requires.row c.args.column c.decode.result.now c.requires.column (rw (dict, c.cell_classes.ensures, c.code-code.ensures) at c.decode.ensures.value) in
    subst (λ v. IfOk c.copy.result (λ copy. copy ≡ v)) (sym value) c.copy.ensures
