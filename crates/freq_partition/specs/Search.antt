-- What the search for the best candidate has at each step. Source: this project's own.
use Rattle.std.specs.Prelude.{ℕ, ◌+◌, List, ◌++◌, map, length, fold}
use Rattle.freq_partition.specs.Division.{Division, better, divided_by, sizes_of}

-- the classes of p, and those of d behind them
abbrev pub behind : Division → Division → Division
behind p d = record { widths = p.widths ++ d.widths; sizes = p.sizes ++ d.sizes; cost = p.cost + d.cost }

-- the best of `best` and of the divisions of these counts by these fronts, behind p
unfoldable pub best_among : Division → Division → List ℕ → List (List ℕ) → Division
best_among best p counts all = fold better best (map (λ front. behind p (divided_by counts (sizes_of front (length counts)))) all)
