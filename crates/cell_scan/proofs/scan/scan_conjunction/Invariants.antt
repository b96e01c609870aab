use Rattle.std.proofs.Common.{◌≡◌}
use Rattle.cell_layout.specs.Image.{cell_at}
use Rattle.cell_scan.specs.Match.{bits_where, rows_of_page}
use Rattle.cell_scan.proofs.CodeTestLemmas.{passes_first}
use Rattle.cell_scan.proofs.scan.scan_conjunction.Given as goal

abbrev pub invariant-loop-test : goal.invariant-loop-test
invariant-loop-test g l = l.bits ≡ bits_where (passes_first l.tests l.test-index) (rows_of_page (cell_at l.image l.cell).rows l.page)
