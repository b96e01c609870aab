use Rattle.std.proofs.Common.{◌≡◌, [], ◌∷◌, take}
use Rattle.code_group.specs.Entries.{picked_beside}
use Rattle.late_decode.specs.Parts.{parts_over}
use Rattle.code_group.proofs.rest_row.RestRow.parts.Given as goal

abbrev pub invariant-loop-measure : goal.invariant-loop-measure
invariant-loop-measure l = l.parts.items ≡ parts_over (take l.measure-index l.measures) (picked_beside l.self.ties.now l.self.keys.now l.self.row.now ∷ [])
