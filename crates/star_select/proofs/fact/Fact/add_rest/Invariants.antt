use Rattle.code_group.specs.GroupRows.{rest_added}
use Rattle.star_select.specs.FactRows.{HaveTaken, fact_plan, rest_before}
use Rattle.star_select.specs.FactView.{fact_of}
use Rattle.star_select.proofs.fact.Fact.add_rest.Given as goal

abbrev pub invariant-loop-at : goal.invariant-loop-at
invariant-loop-at g l = record {
  taken : HaveTaken (fact_of l.self) l.fn.into l.into (rest_added (fact_plan (fact_of l.self)) l.self.keys.now (rest_before (fact_of l.self) l.at) l.fn.into.1) l.at;
}
