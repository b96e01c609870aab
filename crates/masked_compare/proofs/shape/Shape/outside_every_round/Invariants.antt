use Rattle.std.proofs.Common.{◌≡◌, map, take}
use Rattle.masked_compare.specs.Marks.{tops_where}
use Rattle.masked_compare.specs.Rounds.{outside_rounds}
use Rattle.masked_compare.proofs.shape.Shape.outside_every_round.Given as goal

abbrev pub invariant-loop-round : goal.invariant-loop-round
invariant-loop-round l = l.all ≡ map (λ w. tops_where l.self (outside_rounds l.self (take l.round-index l.rounds) w)) l.words
