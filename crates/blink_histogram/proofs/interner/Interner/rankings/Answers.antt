use Rattle.blink_histogram.specs.declared.ranks.Ranking.{Ranking}
use Rattle.blink_histogram.proofs.RankLemmas.{ranking_added}
use Rattle.blink_histogram.proofs.interner.Interner.rankings.Goals as goal

pub loop-at-preserved : goal.loop-at-preserved
loop-at-preserved c =
    let ranking : Ranking = record { value = c.value.result; count = c.count.result; number = c.loop-at.at } in
    rw c.in_ok-push.ensures.items (ranking_added c.args.self.now c.loop-at.rankings.items ranking c.loop-at.invariant.0 c.loop-at.invariant.1 c.value.ensures c.count.ensures)
