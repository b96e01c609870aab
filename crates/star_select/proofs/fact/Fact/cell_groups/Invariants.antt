use Rattle.std.proofs.Common.{◌≤◌, ◌+◌, ◌*◌, [], length}
use Rattle.code_group.specs.Plans.{fact_value_picks}
use Rattle.star_select.specs.FactRows.{AreGrouped, fact_plan, rows_before}
use Rattle.star_select.specs.FactView.{fact_of}
use Rattle.star_select.proofs.fact.Fact.cell_groups.Given as goal

abbrev pub invariant-loop-page : goal.invariant-loop-page
invariant-loop-page g l = record {
  grouped : AreGrouped (fact_of l.self) l.cell (rows_before (fact_of l.self) l.cell l.page) [] l.groups;
  decodes : l.decodes ≤ l.fn.decodes + length (rows_before (fact_of l.self) l.cell l.page) * fact_value_picks (fact_plan (fact_of l.self));
}
