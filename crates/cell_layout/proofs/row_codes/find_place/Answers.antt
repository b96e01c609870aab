use Rattle.std.proofs.Common.{[], ap, ◌∙◌, get_or, arith}
use Rattle.std.proofs.lemmas.List.{get_or_default}
use Rattle.order_codes.specs.Dictionary.{place_of_value}
use Rattle.cell_layout.proofs.row_codes.find_place.Goals as goal

pub returns-clause-place : goal.returns-clause-place
returns-clause-place g c v =
    let full = c.requires.full in
    let lt = c.requires.column in
    let same = c.index-dicts-column.is ∙ get_or_default c.args.dicts.now c.args.column c.index-dicts-column.result [] c.requires.column in
    let value = c.index-row-column.is ∙ get_or_default c.args.row.now c.args.column c.index-row-column.result v (omega arith) in
    c.find.ensures.place ∙ ap (λ d. place_of_value d c.index-row-column.result) same ∙ ap (place_of_value (get_or c.args.dicts.now c.args.column [])) value
