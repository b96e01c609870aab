-- Groups where a tuple has one, be it without rows. Source: this project's own.
use Rattle.std.specs.Prelude.{ℕ, List, [], ◌∷◌, ◌++◌, Option, Some, None, position}
use Rattle.std.specs.Map.{keys_of}
use Rattle.late_decode.specs.declared.plan.Measure.{Measure}
use Rattle.late_decode.specs.Groups.{Grouped}
use Rattle.late_decode.specs.Parts.{no_parts}
use Rattle.code_group.specs.Tuples.{same_tuple}

-- the groups, and behind them one without rows where none is found
abbrev pub with_group_if : Option ℕ → List Measure → List ℕ → Grouped (List ℕ) → Grouped (List ℕ)
with_group_if (Some at) measures tuple groups = groups
with_group_if None measures tuple groups = groups ++ (tuple, no_parts measures) ∷ []

-- the groups, with one of this tuple
abbrev pub with_group : List Measure → List ℕ → Grouped (List ℕ) → Grouped (List ℕ)
with_group measures tuple groups = with_group_if (position (same_tuple tuple) (keys_of groups)) measures tuple groups
