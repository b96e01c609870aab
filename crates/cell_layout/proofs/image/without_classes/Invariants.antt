use Rattle.std.proofs.Common.{◌≡◌, map, [], take}
use Rattle.cell_layout.proofs.image.without_classes.Given as goal

abbrev pub invariant-loop-column : goal.invariant-loop-column
invariant-loop-column g l = l.dicts ≡ map (λ column. []) (take l._column-index l.columns)
