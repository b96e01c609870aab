-- Each sum is that of all counts before its rank.
use Rattle.std.proofs.Common.{◌≡◌, ℕ, ◌+◌, [], ◌∷◌, ◌++◌, sum, take, get_or, sym, ◌∙◌, ap, rules}
use Rattle.std.proofs.lemmas.List.Sums.{sum_by_more}
use Rattle.std.proofs.lemmas.List.Elements.{All-push, All-same}
use Rattle.freq_partition.specs.declared.prefix_sums.PrefixSum.{PrefixSum}
use Rattle.freq_partition.proofs.prefix_sums.PrefixSums.new.Goals as goal
use Rattle.freq_partition.proofs.prefix_sums.PrefixSums.new.Goals.{then-is_reached+in_ok-push, else-is_reached}

pub loop-at-preserved : goal.loop-at-preserved
loop-at-preserved c =
    let next = sum_by_more (λ (y : ℕ). y) c.args.counts.now c.loop-at.at 0 c.loop-at-test.true in
    let IsSum : PrefixSum → Type 0 = λ p. p.sum ≡ sum (take p.at c.args.counts.now) in (
      ap (λ s. s + get_or c.args.counts.now c.loop-at.at 0) c.loop-at.invariant.0 ∙ sym next,
      elim c.if-is_reached.branch [
        | then-is_reached+in_ok-push w ↦
            let new : PrefixSum = record { at = c.loop-at.at; sum = c.loop-at.sum } in
            let e : c.if-is_reached.sums.items ≡ c.loop-at.sums.items ++ new ∷ [] = search rules in
            All-same IsSum _ _ e (All-push IsSum _ new c.loop-at.invariant.1 c.loop-at.invariant.0)
        | else-is_reached w ↦
            let e : c.if-is_reached.sums.items ≡ c.loop-at.sums.items = search rules in
            All-same IsSum _ _ e c.loop-at.invariant.1
      ],
    )
