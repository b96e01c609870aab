-- Sums kept of a column's counts. Source: this project's own.
use Rattle.std.specs.Prelude.{◌≡◌, ℕ, List, take, sum, All}
use Rattle.freq_partition.specs.declared.prefix_sums.PrefixSum.{PrefixSum}

-- each is the sum of all counts before its rank
abbrev pub AreSums : List ℕ → List PrefixSum → Type 0
AreSums counts places = All (λ p. p.sum ≡ sum (take p.at counts)) places
