use Rattle.std.proofs.Common.{◌≡◌, take}
use Rattle.masked_compare.specs.Fields.{fields_bits}
use Rattle.masked_compare.specs.Words.{lane_of}
use Rattle.masked_compare.proofs.shape.Shape.lane.Given as goal

abbrev pub invariant-loop-at : goal.invariant-loop-at
invariant-loop-at l = (l.lane ≡ lane_of (take l.at l.fn.self) (take l.at l.values)) × (l.place ≡ fields_bits (take l.at l.fn.self))
