-- Laws of how large the sums of groups may be. Source: this project's own.
use Rattle.std.specs.Prelude.{◌≤◌, ◌*◌, ◌^◌, ℕ, ℤ, List, length, nat_abs}
use Rattle.std.specs.List.{All}
use Rattle.blink_base.specs.Lines.{sum_of}
use Rattle.late_decode.specs.declared.plan.Formula.{Formula}
use Rattle.late_decode.specs.declared.plan.Pick.{Pick}
use Rattle.late_decode.specs.Parts.{Picked, formula_number}
use Rattle.blink_base.specs.Values.{number_in}

-- The law that a sum of numbers of at most a size is at most their count times that size.
abbrev pub SumsBounded : Type 0
SumsBounded = (size : ℕ) (numbers : List ℤ) → All (λ n. nat_abs n ≤ size) numbers → nat_abs (sum_of numbers) ≤ size * length numbers

-- The law that a formula over numbers of at most fifteen digits is at most 10^30 in size.
abbrev pub FormulasBounded : Type 0
FormulasBounded = (f : Formula) (at : Picked) → ((p : Pick) → nat_abs (number_in (at p)) ≤ 10 ^ 15) → nat_abs (formula_number f at) ≤ 10 ^ 30
