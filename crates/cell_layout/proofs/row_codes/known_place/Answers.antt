use Rattle.std.proofs.Common.{◌<◌, [], Some, pos, length, slice_get, get_or, sym, ap, subst, ◌∙◌}
use Rattle.std.proofs.lemmas.List.{get_or_default}
use Rattle.blink_base.specs.declared.value.Value.TheVariants.{Int}
use Rattle.order_codes.specs.Dictionary.{are_classes}
use Rattle.cell_layout.proofs.CodedRowLemmas.{answer_within}
use Rattle.cell_layout.proofs.row_codes.known_place.Goals as goal

pub get-requires : goal.get-requires
get-requires g c =
    subst (λ l. c.args.number < length l) (sym c.index-places-column.is) (c.requires.row.1.1 c.args.column [] c.index-places-column.result (Int (pos 0)) c.requires.column).0

pub returns-clause-place : goal.returns-clause-place
returns-clause-place g c row v has =
    sym c.get.ensures ∙ ap (λ l. slice_get l c.args.number) c.index-places-column.is ∙ (has.1 c.args.column [] c.index-places-column.result v c.requires.column).1

pub returns-clause-within : goal.returns-clause-within
returns-clause-within g c =
    let row = c.requires.row.0 in
    let found = sym c.get.ensures ∙ ap (λ l. slice_get l c.args.number) c.index-places-column.is ∙ (c.requires.row.1.1 c.args.column [] c.index-places-column.result (Int (pos 0)) c.requires.column).1 in
    let same = c.index-dicts-column.is ∙ get_or_default c.args.dicts.now c.args.column c.index-dicts-column.result [] c.requires.column in
    answer_within c.places_decode_to_their_values.ensures (get_or c.args.dicts.now c.args.column []) (get_or row c.args.column (Int (pos 0))) (Some c.get.result) found (ap are_classes (sym same) ∙ c.classes-classes.ensures.valid)
