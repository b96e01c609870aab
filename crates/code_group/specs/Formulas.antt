-- Formulas over the numbers of their picks. Source: ISO/IEC 9075 (numeric value expressions), in this project's own profile.
use Rattle.std.specs.Prelude.{ℤ, ◌+ℤ◌, ◌-ℤ◌, ◌*ℤ◌}
use Rattle.late_decode.specs.declared.plan.Formula.{Formula}
use Rattle.late_decode.specs.declared.plan.Formula.TheVariants.{One, Times, Plus, Minus}
use Rattle.late_decode.specs.declared.plan.Pick.{Pick}

-- the pick that comes first, and the one that comes last
abbrev pub first_pick : Formula → Pick
first_pick (One a) = a
first_pick (Times a b) = a
first_pick (Plus a b) = a
first_pick (Minus a b) = a

abbrev pub last_pick : Formula → Pick
last_pick (One a) = a
last_pick (Times a b) = b
last_pick (Plus a b) = b
last_pick (Minus a b) = b

-- the number that a formula makes of two
abbrev pub combined : Formula → ℤ → ℤ → ℤ
combined (One a) x y = x
combined (Times a b) x y = x *ℤ y
combined (Plus a b) x y = x +ℤ y
combined (Minus a b) x y = x -ℤ y
