use Rattle.std.proofs.Common.{◌≡◌, take}
use Rattle.code_group.specs.CellRow.{tuple_by}
use Rattle.code_group.proofs.cell_row.CellRow.fill.Given as goal

abbrev pub invariant-loop-pick : goal.invariant-loop-pick
invariant-loop-pick g l = l.tuple ≡ tuple_by l.self (take l.pick-index l.picks)
