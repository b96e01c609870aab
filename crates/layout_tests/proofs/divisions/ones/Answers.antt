-- Values of one row each meet what a division asks.
use Rattle.std.proofs.Common.{◌≡◌, replicate, rules, arith}
use Rattle.layout_tests.proofs.OnesLemmas.{ones_counted}
use Rattle.layout_tests.proofs.divisions.ones.Goals as goal

pub returns-clause-positive : goal.returns-clause-positive
returns-clause-positive c =
    let same : c.in_ok-counts.counts.items ≡ replicate c.args.n 1 = search rules in
    rw same ((ones_counted c.args.n).2)

pub returns-clause-ranked : goal.returns-clause-ranked
returns-clause-ranked c =
    let same : c.in_ok-counts.counts.items ≡ replicate c.args.n 1 = search rules in
    rw same ((ones_counted c.args.n).1)

pub returns-clause-few : goal.returns-clause-few
returns-clause-few c =
    let same : c.in_ok-counts.counts.items ≡ replicate c.args.n 1 = search rules in
    rw same (let all = (ones_counted c.args.n).0 in omega arith)
