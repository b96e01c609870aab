use Rattle.std.proofs.Common.{◌≡◌, ◌≤◌, ◌+◌, ◌*◌, ◌-◌}
use Rattle.blink_lists.specs.declared.limits.TheConstants.{PAGE_ROWS}
use Rattle.code_group.specs.PageGroups.{AreAdded, count_from, page_sizes}
use Rattle.code_group.specs.Plans.{fact_value_picks}
use Rattle.code_group.proofs.page_rows.PageRows.add_into.Given as goal

abbrev pub invariant-loop-at : goal.invariant-loop-at
invariant-loop-at g l = record {
  added : AreAdded l.self l.from l.fn.into.0 l.into.0;
  sizes : l.into.1 ≡ page_sizes l.self;
  decodes : l.decodes + count_from l.self l.from * fact_value_picks l.self.plan ≤ l.fn.decodes + count_from l.self 0 * fact_value_picks l.self.plan;
  within : l.from ≤ PAGE_ROWS;
}

abbrev pub decreases-loop-at : goal.decreases-loop-at
decreases-loop-at g l = PAGE_ROWS - l.from
