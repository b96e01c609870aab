use Rattle.std.proofs.Common.{◌≡◌, ◌+◌, ◌*◌, take}
use Rattle.masked_compare.specs.Fields.{fields_bits, lane_bits}
use Rattle.masked_compare.proofs.shape.Shape.place.Given as goal

abbrev pub invariant-loop-at : goal.invariant-loop-at
invariant-loop-at l = l.place ≡ lane_bits l.fn.self * l.lane + fields_bits (take l.at l.fn.self)
