use Rattle.std.proofs.Common.{◌≡◌, take}
use Rattle.page_synopsis.specs.BitSets.{with_codes}
use Rattle.page_synopsis.specs.Runs.{runs_codes}
use Rattle.page_synopsis.proofs.narrow.add_ranges.Given as goal

abbrev pub invariant-loop-range : goal.invariant-loop-range
invariant-loop-range l = l.bits ≡ with_codes (runs_codes (take l.range-index l.ranges)) l.initial.bits
