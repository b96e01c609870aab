use Rattle.std.proofs.Common.{arith, ◌⊎◌, ◌≤◌, length, inl, inr}
use Rattle.std.proofs.lemmas.Bool.{cases_lt}
use Rattle.row_bits.proofs.WordLemmas.{or_more, added_all}
use Rattle.row_bits.proofs.words.or_with.Goals as goal

pub loop-at-preserved : goal.loop-at-preserved
loop-at-preserved c = or_more c.args.words.now c.args.other.now c.loop-at.words c.loop-at.at (omega arith) c.loop-at.invariant

pub returns : goal.returns
returns c = λ k lt. added_all c.args.words.now c.args.other.now c.loop-at.words c.loop-at.at k (omega arith) end c.loop-at.invariant lt
  where
    end : (length c.args.words.now ≤ c.loop-at.at) ⊎ (length c.args.other.now ≤ c.loop-at.at)
    end = elim (cases_lt c.loop-at.at (length c.args.words.now)) [ inl lt ↦ inr (omega arith) | inr le ↦ inl le ]
