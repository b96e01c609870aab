use Rattle.std.proofs.Common.{◌∙◌, ap, map, slice_get}
use Rattle.blink_histogram.specs.declared.ranks.Ranking.{Ranking}
use Rattle.blink_histogram.proofs.RankLemmas.{numbers_by_rank}
use Rattle.blink_histogram.proofs.interner.Interner.ranked.Goals as goal

pub returns : goal.returns
returns c =
    let sorted = c.sort_unstable.ensures in
    let ranks = numbers_by_rank c.args.self.now c.in_ok-rankings.rankings.items c.sort_unstable.new.self.items c.in_ok-rankings.ensures.counts c.in_ok-rankings.ensures.places sorted.permutation sorted.sorted in
    ap (map (slice_get c.args.self.now)) (c.in_ok-numbers.ensures ∙ ap (map (λ (r : Ranking). r.number)) c.as_slice.ensures.value) ∙ ranks
