use Rattle.std.proofs.Common.{◌≡◌, take}
use Rattle.star_select.specs.WantedColumns.{wanted_of}
use Rattle.star_select.proofs.picks.wanted_of.Given as goal

abbrev pub invariant-loop-r : goal.invariant-loop-r
invariant-loop-r l = l.columns.items ≡ wanted_of l.table (take l.r-index l.refs)
