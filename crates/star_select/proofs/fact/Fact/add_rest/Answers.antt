use Rattle.std.proofs.Common.{arith}
use Rattle.star_select.specs.FactView.{fact_of}
use Rattle.star_select.proofs.FactGroupLemmas.{row-taken}
use Rattle.star_select.proofs.fact.Fact.add_rest.Goals as goal

pub loop-at-preserved : goal.loop-at-preserved
loop-at-preserved g c =
    let test = c.loop-at-test.true in
    let count = c.rest_count-at-end.ensures in
    record { taken = row-taken (fact_of c.args.self.now) c.args.into.now c.loop-at.into c.add_row.new.into c.loop-at.at (omega (arith, test, count)) c.loop-at.invariant.taken c.in_ok-add_row.ensures.taken }
