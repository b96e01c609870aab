use Rattle.std.proofs.Common.{◌≡◌, ◌≤◌, ◌+◌, take}
use Rattle.code_group.specs.Entries.{key_of_entries}
use Rattle.code_group.specs.Plans.{fact_picks}
use Rattle.code_group.proofs.spill.key_of.Given as goal

abbrev pub invariant-loop-at : goal.invariant-loop-at
invariant-loop-at g l = record {
  key : l.values.items ≡ take l.at (key_of_entries l.dicts l.classes l.keys l.picks l.entries);
  decodes : l.decodes ≤ l.fn.decodes + fact_picks (take l.at l.picks);
}
