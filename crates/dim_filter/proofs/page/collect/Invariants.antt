use Rattle.std.proofs.Common.{◌≡◌, ◌≤◌, ◌+◌, ◌-◌, ◌*◌, length}
use Rattle.blink_lists.specs.declared.limits.TheConstants.{PAGE_ROWS}
use Rattle.dim_filter.specs.Entries.{collected, key_column, chosen_rows}
use Rattle.dim_filter.proofs.PageLemmas.{rows_from}
use Rattle.dim_filter.proofs.page.collect.Given as goal

abbrev pub invariant-loop-place : goal.invariant-loop-place
invariant-loop-place g l = record {
  left : collected (key_column l.image) l.wanted l.into (rows_from l.image l.cell l.page l.bits l.from) ≡ collected (key_column l.image) l.wanted l.initial.into (chosen_rows l.image l.cell l.page l.bits);
  counted : l.decodes + length (rows_from l.image l.cell l.page l.bits l.from) * (1 + length l.wanted) ≤ l.initial.decodes + length (chosen_rows l.image l.cell l.page l.bits) * (1 + length l.wanted);
  within : l.from ≤ PAGE_ROWS;
}

abbrev pub decreases-loop-place : goal.decreases-loop-place
decreases-loop-place g l = PAGE_ROWS - l.from
