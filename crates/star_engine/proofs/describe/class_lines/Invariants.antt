use Rattle.std.proofs.Common.{◌≡◌, take}
use Rattle.star_engine.specs.TableLayout.{class_lines}
use Rattle.star_engine.proofs.describe.class_lines.Given as goal

abbrev pub invariant-loop-class : goal.invariant-loop-class
invariant-loop-class g l = l.lines ≡ class_lines (take l.class l.dict)
