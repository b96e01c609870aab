-- Rows laid out anew are a valid image of these rows.
use Rattle.cell_layout.proofs.ImageLawLemmas.{laid_is_valid}
use Rattle.cell_layout.proofs.laws.rows_laid_out_anew_are_kept.Goals as goal

pub returns : goal.returns
returns c = laid_is_valid c.classes_of_rows_are_good.ensures c.places_decode_to_their_values.ensures
