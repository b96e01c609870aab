use Rattle.std.proofs.Common.{◌≡◌, ◌≤◌, ◌+◌, ◌-◌, max}
use Rattle.word_pool.proofs.pool.Pool.reserve.Given as goal

-- only the room grows, and no more than it has to
abbrev pub invariant-loop-self : goal.invariant-loop-self
invariant-loop-self g l =
    (l.self.slots ≡ l.initial.self.slots)
    × (l.self.limit ≡ l.initial.self.limit)
    × (l.initial.self.spare ≤ l.self.spare)
    × (l.self.spare ≤ max l.initial.self.spare (l.blocks + 1023))
    × (l.blocks ≤ l.initial.self.spare → l.self ≡ l.initial.self)

abbrev pub decreases-loop-self : goal.decreases-loop-self
decreases-loop-self g l = l.blocks - l.self.spare
