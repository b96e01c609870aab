-- The laws of groups, of rows.
use Rattle.blink_base.proofs.LineLemmas.{tells_rows}
use Rattle.blink_base.specs.Values.{same_row}
use Rattle.late_decode.specs.Laws.{RowsGroup, CodedRowsGroup, SpilledGroup}
use Rattle.late_decode.proofs.GroupLemmas as adding

pub rows_group : RowsGroup
rows_group measures key picked xs ys = adding.rows_group same_row tells_rows measures key picked ys xs

pub coded_rows_group : CodedRowsGroup
coded_rows_group same s measures code picked xs ys = adding.rows_group same s measures code picked ys xs

pub spilled_group : SpilledGroup
spilled_group measures key picked code row_of decoded same_codes s good stands xs ys g =
    adding.spilled_group same_row tells_rows same_codes s measures key picked code row_of decoded good stands xs ys g
