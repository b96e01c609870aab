use Rattle.std.proofs.Common.{◌≤◌, ◌+◌, ◌*◌, length, reverse}
use Rattle.cell_layout.specs.Image.{cell_at}
use Rattle.code_group.specs.Plans.{fact_key_picks}
use Rattle.code_group.proofs.SpillLemmas.{IsSpilling}
use Rattle.code_group.proofs.cell_groups.CellGroups.spill.Given as goal

abbrev pub invariant-loop-tuple : goal.invariant-loop-tuple
invariant-loop-tuple g l = record {
  spilling : IsSpilling l.image.columns (cell_at l.image l.cell).classes l.keys l.plan l.fn.self l.fn.into.1 (reverse l.groups.entries) l.into;
  decodes : l.decodes + length l.groups.entries * fact_key_picks l.plan ≤ l.fn.decodes + length l.fn.self * fact_key_picks l.plan;
}

abbrev pub decreases-loop-tuple : goal.decreases-loop-tuple
decreases-loop-tuple g l = length l.groups.entries
