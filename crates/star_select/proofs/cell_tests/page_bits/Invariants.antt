use Rattle.std.proofs.Common.{◌≡◌, take}
use Rattle.cell_layout.specs.Image.{cell_at}
use Rattle.cell_scan.specs.Match.{bits_where, rows_of_page}
use Rattle.star_select.specs.CellTests.{passes_some}
use Rattle.star_select.proofs.cell_tests.page_bits.Given as goal

abbrev pub invariant-loop-list : goal.invariant-loop-list
invariant-loop-list g l = l.bits ≡ bits_where (passes_some (take l.list-index l.tests)) (rows_of_page (cell_at l.image l.cell).rows l.page)
