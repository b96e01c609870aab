-- A value that stands first moves the others on.
use Rattle.std.proofs.Common.{◌≡◌, ◌+◌, ◌⊎◌, inl, inr, true, is_le, min, arith}
use Rattle.freq_partition.proofs.TopThreeLemmas.{put_first}
use Rattle.freq_partition.proofs.top_three.TopThree.with.Goals as goal
use Rattle.freq_partition.proofs.top_three.TopThree.with.Goals.{then-self-lt3, else-self-lt3, then-self-eq0, else-self-eq0}

pub returns-then-is_le-clause-least : goal.returns-then-is_le-clause-least
returns-then-is_le-clause-least g c =
    let grown : c.if-self-lt3.count ≡ min (c.args.self.count + 1) 3 = elim c.if-self-lt3.branch [ then-self-lt3 w ↦ omega arith | else-self-lt3 w ↦ omega arith ] in
    let first : (c.args.self.count ≡ 0) ⊎ (is_le (g.T.Ord.cmp c.args.new c.args.self.first) ≡ true) = elim c.if-self-eq0.branch [ then-self-eq0 w ↦ inl (omega arith) | else-self-eq0 w ↦ inr (cc) ] in
    put_first g.T.Ord.cmp c.args.new c.args.self.first c.args.self.second c.args.self.third c.args.self.count c.if-self-lt3.count c.requires grown first
