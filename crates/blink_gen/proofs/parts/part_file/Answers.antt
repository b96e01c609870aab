use Rattle.std.proofs.Common.{rules}
use Rattle.blink_gen.specs.Demo.{part_file}
use Rattle.blink_gen.proofs.FileLemmas.{part_file-suc}
use Rattle.blink_gen.proofs.parts.part_file.Goals as goal

pub loop-before-init : goal.loop-before-init
unfolding part_file
loop-before-init c = search rules

pub loop-before-preserved : goal.loop-before-preserved
loop-before-preserved c = rw (c.in_ok-add_part.ensures, c.loop-before.invariant) (part_file-suc c.loop-before.before)
