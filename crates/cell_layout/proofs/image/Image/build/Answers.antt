use Rattle.std.proofs.Common.{ap, ◌∙◌}
use Rattle.cell_layout.specs.Layout.{laid}
use Rattle.cell_layout.proofs.LaidImageLemmas.{laid_valid, laid_rows}
use Rattle.cell_layout.proofs.image.Image.build.Goals as goal

pub returns-clause-valid : goal.returns-clause-valid
returns-clause-valid g c = laid_valid c.rows_laid_out_anew_are_kept.ensures c.args.schema.now c.args.rows.now c.in_ok-lay_out.field-0 c.requires (c.in_ok-lay_out.ensures ∙ ap (laid c.args.schema.now) c.as_slice.ensures)

pub returns-clause-rows : goal.returns-clause-rows
returns-clause-rows g c = laid_rows c.rows_laid_out_anew_are_kept.ensures c.args.schema.now c.args.rows.now c.in_ok-lay_out.field-0 c.requires (c.in_ok-lay_out.ensures ∙ ap (laid c.args.schema.now) c.as_slice.ensures)
