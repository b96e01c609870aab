use Rattle.std.proofs.Common.{◌≡◌, take}
use Rattle.masked_compare.specs.Fields.{fields_bits}
use Rattle.masked_compare.specs.Marks.{lane_guards}
use Rattle.masked_compare.proofs.shape.guards_in_lane.Given as goal

abbrev pub invariant-loop-width : goal.invariant-loop-width
invariant-loop-width l = (l.guards ≡ lane_guards (take l.width-index l.widths)) × (l.place ≡ fields_bits (take l.width-index l.widths))
