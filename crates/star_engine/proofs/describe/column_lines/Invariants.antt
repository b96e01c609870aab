use Rattle.std.proofs.Common.{◌≡◌, map, take}
use Rattle.std.specs.List.{zip}
use Rattle.blink_lists.specs.Lists.{numbered}
use Rattle.star_engine.specs.TableLayout.{column_line}
use Rattle.star_engine.proofs.describe.column_lines.Given as goal

abbrev pub invariant-loop-at : goal.invariant-loop-at
invariant-loop-at g l = l.lines ≡ map (column_line l.schema) (take l.at (numbered (zip l.schema.columns l.dicts)))
