use Rattle.std.proofs.Common.{◌≡◌, ◌++◌}
use Rattle.cell_predicates.specs.Prefixes.{last_letters}
use Rattle.cell_predicates.proofs.leaf_bits.behind_front.Given as goal

abbrev pub invariant-loop-letter : goal.invariant-loop-letter
invariant-loop-letter l = l.word ≡ l.front ++ last_letters l._letter
