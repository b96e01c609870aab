use Rattle.std.proofs.Common.{◌≡◌, ◌==◌, drop, take}
use Rattle.std.proofs.Common.{slice_index_or as get_or}
use Rattle.std.specs.List.{list_any}
use Rattle.page_synopsis.specs.Sets.{codes_in}
use Rattle.cell_layout.specs.Image.{cell_at}
use Rattle.cell_scan.specs.Match.{bits_where}
use Rattle.cell_scan.proofs.test_bits.set_bits.Given as goal

abbrev pub invariant-loop-row : goal.invariant-loop-row
invariant-loop-row g l = l.bits ≡ bits_where (λ row. list_any (λ code. code == get_or row l.column 0) (codes_in l.ranges)) (take l.row (drop l.first (cell_at l.image l.cell).rows))
