-- Numbers of conjunctions, counted no further than one past the most. Source: this project's own.
use Rattle.std.specs.Prelude.{◌≡◌, ◌+◌, ◌*◌, ℕ, min}
use Rattle.star_bind.specs.declared.limits.TheConstants.{MOST_CONJUNCTIONS}

-- a number, and one more than the most where it is more than that
abbrev pub capped : ℕ → ℕ
capped n = min (MOST_CONJUNCTIONS + 1) n

-- The law that sums and products may be capped at each step.
abbrev pub CapsCompose : Type 0
CapsCompose = (a b : ℕ) → (capped (a + b) ≡ capped (capped a + capped b)) × (capped (a * b) ≡ capped (capped a * capped b))
