use Rattle.std.proofs.Common.{◌≡◌, ◌&&◌, drop, nat_le, take}
use Rattle.std.proofs.Common.{slice_index_or as get_or}
use Rattle.cell_layout.specs.Image.{cell_at}
use Rattle.cell_scan.specs.Match.{bits_where}
use Rattle.cell_scan.proofs.test_bits.range_bits.Given as goal

abbrev pub invariant-loop-row : goal.invariant-loop-row
invariant-loop-row g l = l.bits ≡ bits_where (λ row. nat_le l.range.low (get_or row l.column 0) && nat_le (get_or row l.column 0) l.range.high) (take l.row (drop l.first (cell_at l.image l.cell).rows))
