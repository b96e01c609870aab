use Rattle.std.proofs.Common.{◌++◌, ap, ◌∙◌, length, arith}
use Rattle.cell_layout.specs.Image.{TableImage, rows_of}
use Rattle.cell_layout.specs.Layout.{laid}
use Rattle.cell_layout.proofs.RowFitLemmas.{valid_fits, fits_long}
use Rattle.cell_layout.proofs.GrownImageLemmas.{may_lie}
use Rattle.cell_layout.proofs.LaidImageLemmas.{laid_valid, laid_rows}
use Rattle.cell_layout.proofs.image.Image.relaid.Goals as goal

pub lay_out-requires-clause-held : goal.lay_out-requires-clause-held
lay_out-requires-clause-held g c =
    rw (c.as_slice.ensures.value, c.in_ok-held.ensures)
    (fits_long c.args.self.now.schema (rows_of c.args.self.now) (length c.self.inside.schema.columns) (valid_fits c.args.self.now c.requires.valid) (ap (λ (i : TableImage). length i.schema.columns) c.self.view_is))

pub lay_out-requires-clause-few : goal.lay_out-requires-clause-few
lay_out-requires-clause-few g c =
    let inside = c.self.inside in
    let few = c.in_ok-admit.ensures.few in
    let held = ap length (c.as_slice.ensures.value ∙ c.in_ok-held.ensures) in
    let batch = ap length c.as_slice-2.ensures in
    let most = c.requires.limit in
    omega arith

pub returns-clause-valid : goal.returns-clause-valid
returns-clause-valid g c =
    let inside = c.self.inside in
    let few = c.in_ok-admit.ensures.few in
    let none = c.in_ok-admit.ensures.refused in
    let may = may_lie c.args.self.now c.args.batch.now c.args.limit c.requires.valid c.requires.fit few c.requires.limit none in
    laid_valid c.rows_laid_out_anew_are_kept.ensures c.args.self.now.schema (rows_of c.args.self.now ++ c.args.batch.now) c.in_ok-lay_out.field-0 may
    (c.in_ok-lay_out.ensures
    ∙ (λ i. laid ((c.self.view_is i).schema) ((c.as_slice.ensures.value ∙ c.in_ok-held.ensures) i ++ c.as_slice-2.ensures i)))

pub returns-clause-rows : goal.returns-clause-rows
returns-clause-rows g c =
    let inside = c.self.inside in
    let few = c.in_ok-admit.ensures.few in
    let none = c.in_ok-admit.ensures.refused in
    let may = may_lie c.args.self.now c.args.batch.now c.args.limit c.requires.valid c.requires.fit few c.requires.limit none in
    laid_rows c.rows_laid_out_anew_are_kept.ensures c.args.self.now.schema (rows_of c.args.self.now ++ c.args.batch.now) c.in_ok-lay_out.field-0 may
    (c.in_ok-lay_out.ensures
    ∙ (λ i. laid ((c.self.view_is i).schema) ((c.as_slice.ensures.value ∙ c.in_ok-held.ensures) i ++ c.as_slice-2.ensures i)))
