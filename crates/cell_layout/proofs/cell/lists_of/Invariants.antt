use Rattle.std.proofs.Common.{◌≡◌, ℕ, List, [], ◌∷◌, map, take}
use Rattle.cell_layout.proofs.cell.lists_of.Given as goal

abbrev pub invariant-loop-number : goal.invariant-loop-number
invariant-loop-number l = map (λ (list : List ℕ × ℕ). list.0) l.lists.items ≡ map (λ (number : ℕ). number ∷ []) (take l.number-index l.numbers)
