use Rattle.std.proofs.Common.{ap, ◌∙◌}
use Rattle.star_select.specs.FactView.{fact_of}
use Rattle.late_decode.specs.declared.plan.GroupPlan.{GroupPlan}
use Rattle.star_select.proofs.FactGroupLemmas.{tests-of}
use Rattle.star_select.proofs.fact.Fact.tests.Goals as goal

pub returns : goal.returns
returns g c =
    tests-of (fact_of c.args.self.now) c.cell_tests.result c.args.cell _ _ (c.as_slice-ties.ensures ∙ ap (λ (p : GroupPlan). p.ties) c.args.self.now.asked.planned) c.conjunctions.ensures c.cell_tests.ensures.asked c.cell_tests.ensures.passed
