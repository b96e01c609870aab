-- A grown image is valid, and has the rows.
use Rattle.cell_layout.proofs.ImageLawLemmas.{grown_is_valid}
use Rattle.cell_layout.proofs.laws.rows_added_are_kept.Goals as goal

pub returns : goal.returns
returns c = grown_is_valid c.places_decode_to_their_values.ensures
