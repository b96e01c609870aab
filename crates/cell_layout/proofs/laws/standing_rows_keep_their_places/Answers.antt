-- Rows that stand keep their places.
use Rattle.cell_layout.proofs.RepartitionLemmas.{stands_placed}
use Rattle.cell_layout.proofs.laws.standing_rows_keep_their_places.Goals as goal

pub returns : goal.returns
returns c = stands_placed c.values_are_found_where_they_were.ensures
