use Rattle.std.proofs.Common.{◌≡◌, ◌+◌, ◌++◌, subst, length, ap, ◌∙◌, sym, arith}
use Rattle.std.proofs.lemmas.List.{length-append}
use Rattle.cell_layout.specs.RowPartition.{ArePlaced}
use Rattle.cell_layout.proofs.LaidImageLemmas.{placed_repr}
use Rattle.std.proofs.lemmas.List.Elements.{All-append}
use Rattle.blink_base.specs.Values.{Row}
use Rattle.cell_layout.proofs.PlacesLemmas.{places_of_rows}
use Rattle.cell_layout.proofs.image.Image.lay_out.Goals as goal

pub place_coded-requires-clause-columns : goal.place_coded-requires-clause-columns
place_coded-requires-clause-columns g c =
    let long = ap length (c.as_slice.ensures) ∙ c.in_ok-dicts.ensures.count in
    let few = c.requires.columns in
    let same = c.len.ensures in
    omega arith

pub place_coded-requires-clause-full : goal.place_coded-requires-clause-full
place_coded-requires-clause-full g c =
    let same : length c.args.schema.now.columns ≡ length c.as_slice.result.now = sym (ap length (c.as_slice.ensures) ∙ c.in_ok-dicts.ensures.count ∙ c.len.ensures) in
    All-append (λ (row : Row). length row ≡ length c.as_slice.result.now) c.args.held.now c.args.batch.now (λ k d lt. c.requires.held k d lt ∙ same) (λ k d lt. c.requires.batch k d lt ∙ same)

pub place_coded-requires-clause-places : goal.place_coded-requires-clause-places
place_coded-requires-clause-places g c =
    let rows = c.args.held.now ++ c.args.batch.now in
    let dicts = c.in_ok-dicts.field-0.dicts in
    let same : length c.args.schema.now.columns ≡ length dicts = sym (c.in_ok-dicts.ensures.count ∙ c.len.ensures) in
    let full = All-append (λ (row : Row). length row ≡ length dicts) c.args.held.now c.args.batch.now (λ k d lt. c.requires.held k d lt ∙ same) (λ k d lt. c.requires.batch k d lt ∙ same) in
    rw (c.as_slice.ensures, c.as_slice-2.ensures) (places_of_rows dicts c.in_ok-dicts.field-0.places rows c.in_ok-dicts.ensures.places full)

pub invariant_of-result : goal.invariant_of-result
invariant_of-result g c =
    let long = c.in_ok-dicts.ensures.count ∙ c.len.ensures in
    placed_repr c.args.schema.now c.in_ok-copied.field-0 c.in_ok-dicts.field-0.dicts (c.args.held.now ++ c.args.batch.now) c.in_ok-cells.field-0.cells.0 c.in_ok-cells.field-0.rest.0 (length c.args.held.now + length c.args.batch.now)
    (subst (λ cs. ArePlaced cs (c.args.held.now ++ c.args.batch.now) c.in_ok-cells.field-0.cells.0 c.in_ok-cells.field-0.rest.0) c.as_slice.ensures c.in_ok-cells.ensures)
    c.in_ok-copied.ensures long c.requires.columns (sym (length-append c.args.held.now c.args.batch.now)) c.requires.few
