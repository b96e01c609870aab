use Rattle.std.proofs.Common.{length}
use Rattle.late_decode.specs.Parts.{merged_parts}
use Rattle.late_decode.proofs.MergeLemmas.{IsMerging}
use Rattle.late_decode.proofs.parts.merge_parts.Given as goal

abbrev pub invariant-loop-part : goal.invariant-loop-part
invariant-loop-part l = IsMerging l.measures (merged_parts l.measures l.fn.own l.fn.parts) l.own l.rest.items

abbrev pub decreases-loop-part : goal.decreases-loop-part
decreases-loop-part l = length l.rest.items
