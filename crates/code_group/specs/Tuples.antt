-- Tuples of codes and of places of keys. Source: after Raman et al., ICDE 2008 (aggregation on codes).
use Rattle.std.specs.Prelude.{ℕ, Bool, List, nat_eq}
use Rattle.std.specs.Cmp.Lexicographic.{pointwise}

-- whether two tuples are one, entry by entry
abbrev pub same_tuple : List ℕ → List ℕ → Bool
same_tuple = pointwise nat_eq
