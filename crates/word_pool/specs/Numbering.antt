-- The numbers of blocks: which are live, which are free. Source: this project's own.
use Rattle.std.specs.Prelude.{ℕ, zero, suc, ◌+◌, eqb, cond, List, [], ◌∷◌, Option, Some, None}

-- the tags of the numbers used so far, none where a number is free, and how many may be live with no further room
pub record Numbering : Type 0 where
  pub tags : List (Option ℕ)
  pub room : ℕ

-- how often a number stands in a list
abbrev pub times : ℕ → List ℕ → ℕ
times x [] = 0
times x (y ∷ ys) = cond (eqb x y) 1 0 + times x ys

-- 1 for a number that was used and is free, and else 0
abbrev pub free_mark : List (Option ℕ) → ℕ → ℕ
free_mark [] x = 0
free_mark (None ∷ tags) zero = 1
free_mark (Some tag ∷ tags) zero = 0
free_mark (tag ∷ tags) (suc x) = free_mark tags x
