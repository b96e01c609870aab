use Rattle.std.proofs.Common.{◌≡◌, take}
use Rattle.late_decode.specs.Parts.{no_parts}
use Rattle.late_decode.proofs.parts.no_parts.Given as goal

abbrev pub invariant-loop : goal.invariant-loop
invariant-loop l = l.parts.items ≡ no_parts (take l.index l.measures)
