use Rattle.std.proofs.Common.{◌≡◌, ◌++◌, ◌==◌, map, filter, drop}
use Rattle.star_bind.specs.Conjunctions.{anded}
use Rattle.star_bind.proofs.conditions.merged.merged.Given as goal

abbrev pub invariant-loop-column : goal.invariant-loop-column
invariant-loop-column l =
    l.all ++ map (λ k. record { column = k; tree = anded (map (λ t. t.tree) (filter (λ t. k == t.column) l.tests)) }) (drop l.column-index l.numbers)
    ≡ map (λ k. record { column = k; tree = anded (map (λ t. t.tree) (filter (λ t. k == t.column) l.tests)) }) l.numbers
