use Rattle.std.proofs.Common.{map}
use Rattle.star_bind.proofs.TestsLemmas.{cond_added, group_added}
use Rattle.star_bind.proofs.star.condition_tests.+gathering.Goals as goal

pub add_cond-returns : goal.add_cond-returns
add_cond-returns t c =
    cond_added (map (λ x. x.now) c.loop-conj.tests.items) (map (λ x. x.now) c.args.tests.now.items) c.args.cond.now c.as_slice-conjunctions.result.now c.loop-conj.conj-index
    c.as_slice-conjunctions.ensures c.loop-conj-test.false c.loop-conj.invariant

pub add_primary-returns-in-Group : goal.add_primary-returns-in-Group
add_primary-returns-in-Group t c =
    group_added c.add_cond.result (map (λ x. x.now) c.add_cond.new.tests.items) (map (λ x. x.now) c.args.tests.now.items) c.args.primary.now c.get.result.now c.in-Group.cond
    c.in-Group.is c.get.ensures c.add_cond.ensures
