use Rattle.std.proofs.Common.{◌≤◌, ◌+◌, ◌*◌}
use Rattle.code_group.specs.GroupRows.{cells_added}
use Rattle.star_select.specs.FactRows.{HaveTaken, cells_before, chosen_before, fact_plan, picks_of}
use Rattle.star_select.specs.FactView.{fact_of}
use Rattle.star_select.proofs.fact.Fact.add_cells.Given as goal

abbrev pub invariant-loop-cell : goal.invariant-loop-cell
invariant-loop-cell g l = record {
  taken : HaveTaken (fact_of l.self) l.fn.into l.into (cells_added l.self.image.now (fact_plan (fact_of l.self)) l.self.keys.now (cells_before (fact_of l.self) l.cell) l.fn.into.1) (chosen_before (fact_of l.self) l.cell);
  decodes : l.decodes ≤ l.fn.decodes + chosen_before (fact_of l.self) l.cell * picks_of (fact_of l.self);
}
