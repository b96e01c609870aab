use Rattle.std.proofs.Common.{◌≡◌}
use Rattle.blink_gen.specs.Demo.{part_file}
use Rattle.blink_gen.proofs.parts.part_file.Given as goal

abbrev pub invariant-loop-before : goal.invariant-loop-before
invariant-loop-before l = l.file.items ≡ part_file l.before
