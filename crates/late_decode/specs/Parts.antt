-- What is known of a group while it is merged: counts, sums, least and greatest values. Source: ISO/IEC 9075 (set functions); the parts are this project's own.
use Rattle.std.specs.Prelude.{ℤ, pos, ◌+◌, ◌+ℤ◌, ◌-ℤ◌, ◌*ℤ◌, Bool, true, false, List, [], ◌∷◌, map, length, Option, Some, None}
use Rattle.std.specs.declared.cmp.Ordering.{Ordering}
use Rattle.std.specs.Ordering.{is_le, flip_args}
use Rattle.blink_base.specs.declared.value.Value.{Value}
use Rattle.blink_base.specs.Values.{value_cmp, number_in}
use Rattle.blink_base.specs.Lines.{sum_of}
use Rattle.blink_lists.specs.Lists.{in_order, first_of}
use Rattle.late_decode.specs.declared.plan.Pick.{Pick}
use Rattle.late_decode.specs.declared.plan.Formula.{Formula}
use Rattle.late_decode.specs.declared.plan.Formula.TheVariants.{One, Times, Plus, Minus}
use Rattle.late_decode.specs.declared.plan.Measure.{Measure}
use Rattle.late_decode.specs.declared.plan.Measure.TheVariants.{Count, Sum, Average, Least, Greatest}
use Rattle.late_decode.specs.declared.plan.Part.{Part}

-- the values that picks have beside one row of the fact
abbrev pub Picked : Type 0
Picked = Pick → Value

-- the number of a formula
abbrev pub formula_number : Formula → Picked → ℤ
formula_number (One a) at = number_in (at a)
formula_number (Times a b) at = number_in (at a) *ℤ number_in (at b)
formula_number (Plus a b) at = number_in (at a) +ℤ number_in (at b)
formula_number (Minus a b) at = number_in (at a) -ℤ number_in (at b)

-- the first, or the second
abbrev pub either_of : {X : Type 0} → Bool → X → X → X
either_of true x y = x
either_of false x y = y

-- the lesser by an order, of two that may be there
abbrev pub lesser : {X : Type 0} → (X → X → Ordering) → Option X → Option X → Option X
lesser cmp None y = y
lesser cmp (Some x) None = Some x
lesser cmp (Some x) (Some y) = Some (either_of (is_le (cmp x y)) x y)

-- what has no row
abbrev pub no_part : Part
no_part = record { count = 0; sum = pos 0; bound = None }

-- the bound of two parts of a measure: none where the measure asks for none
abbrev pub merged_bound : Measure → Option Value → Option Value → Option Value
merged_bound Count x y = None
merged_bound (Sum f) x y = None
merged_bound (Average f) x y = None
merged_bound (Least a) x y = lesser value_cmp x y
merged_bound (Greatest a) x y = lesser (flip_args value_cmp) x y

-- two parts of a measure as one
abbrev pub merged_part : Measure → Part → Part → Part
merged_part measure x y = record { count = x.count + y.count; sum = x.sum +ℤ y.sum; bound = merged_bound measure x.bound y.bound }

-- the parts of two groups as those of one, measure by measure
abbrev pub merged_parts : List Measure → List Part → List Part → List Part
merged_parts (measure ∷ measures) (x ∷ xs) (y ∷ ys) = merged_part measure x y ∷ merged_parts measures xs ys
merged_parts measures xs ys = []

-- the parts of a group without rows
abbrev pub no_parts : List Measure → List Part
no_parts measures = map (λ measure. no_part) measures

-- the sum of a measure's numbers
abbrev pub measure_sum : Measure → List Picked → ℤ
measure_sum Count rows = pos 0
measure_sum (Sum f) rows = sum_of (map (formula_number f) rows)
measure_sum (Average f) rows = sum_of (map (formula_number f) rows)
measure_sum (Least a) rows = pos 0
measure_sum (Greatest a) rows = pos 0

-- the bound of a measure's values
abbrev pub measure_bound : Measure → List Picked → Option Value
measure_bound Count rows = None
measure_bound (Sum f) rows = None
measure_bound (Average f) rows = None
measure_bound (Least a) rows = first_of (in_order value_cmp (map (λ at. at a) rows))
measure_bound (Greatest a) rows = first_of (in_order (flip_args value_cmp) (map (λ at. at a) rows))

-- the part of a measure that some rows have
abbrev pub part_over : Measure → List Picked → Part
part_over measure rows = record { count = length rows; sum = measure_sum measure rows; bound = measure_bound measure rows }

-- the parts that some rows have, one per measure
abbrev pub parts_over : List Measure → List Picked → List Part
parts_over measures rows = map (λ measure. part_over measure rows) measures
