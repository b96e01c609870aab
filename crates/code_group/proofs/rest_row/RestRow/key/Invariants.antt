use Rattle.std.proofs.Common.{◌≡◌, take}
use Rattle.code_group.specs.Entries.{picked_beside}
use Rattle.late_decode.specs.PlannedRows.{key_of}
use Rattle.code_group.proofs.rest_row.RestRow.key.Given as goal

abbrev pub invariant-loop-pick : goal.invariant-loop-pick
invariant-loop-pick l = l.values.items ≡ key_of (take l.pick-index l.picks) (picked_beside l.self.ties.now l.self.keys.now l.self.row.now)
