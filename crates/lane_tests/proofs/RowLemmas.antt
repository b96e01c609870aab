-- Codes within the widths of their fields.
use Rattle.std.proofs.Common.{ℕ, zero, suc, ◌+◌, ◌^◌, ◌≡◌, ◌≤◌, ◌<◌, refl, arith, List, [], ◌∷◌, length, get_or, All, inl, inr}
use Rattle.std.proofs.lemmas.Bool.{cases_lt}
use Rattle.masked_compare.specs.Words.{IsRow}

-- the first so many codes are within the widths of their fields
abbrev pub AreWithin : List ℕ → List ℕ → ℕ → Type 0
AreWithin ws cs n = (k : ℕ) → k < n → get_or cs k 0 < 2 ^ get_or ws k 0

pub row_of : (ws cs : List ℕ) → length cs ≡ length ws → AreWithin ws cs (length ws) → IsRow ws cs
row_of [] [] long each = refl
row_of [] (c ∷ cs) long each = absurd (omega (arith, long))
row_of (w ∷ ws) [] long each = absurd (omega (arith, long))
row_of (w ∷ ws) (c ∷ cs) long each = (each 0 (omega arith), row_of ws cs (omega (arith, long)) (λ k lt. each (suc k) (omega (arith, lt))))

pub one_more : (ws cs : List ℕ) (n : ℕ) → AreWithin ws cs n → get_or cs n 0 < 2 ^ get_or ws n 0 → AreWithin ws cs (n + 1)
one_more ws cs n before here k lt = elim (cases_lt k n) [
  | inl front ↦ before k front
  | inr behind ↦ (let e : k ≡ n = omega (arith, lt, behind) in rw e here)
]
