use Rattle.std.proofs.Common.{◌≡◌, ◌<◌, ◌≤◌, ◌-◌, ℕ, [], false, get_or, length}
use Rattle.bank_pack.specs.Banks.{has_room}
use Rattle.bank_pack.proofs.plan.first_with_room.Given as goal

abbrev pub invariant-loop-at : goal.invariant-loop-at
invariant-loop-at l = (l.at ≤ length l.banks) × ((k : ℕ) → k < l.at → has_room (get_or l.banks k []) (record { column = 0; width = l.width }) ≡ false)

abbrev pub decreases-loop-at : goal.decreases-loop-at
decreases-loop-at l = length l.banks - l.at
