-- What the tests measure. Source: this project's own.
use Rattle.std.specs.Prelude.{◌≡◌, ◌≤◌, ℕ, true, List, [], ◌∷◌}
use Rattle.blink_base.specs.Values.{Row}
use Rattle.late_decode.specs.declared.plan.Formula.TheVariants.{One}
use Rattle.late_decode.specs.declared.plan.Measure.{Measure}
use Rattle.late_decode.specs.declared.plan.Measure.TheVariants.{Count, Sum, Average, Least, Greatest}
use Rattle.late_decode.specs.declared.plan.Part.{Part}
use Rattle.late_decode.specs.declared.plan.Pick.TheVariants.{Fact}
use Rattle.late_decode.specs.declared.plan.Slot.{Slot}
use Rattle.late_decode.specs.Bounds.{are_parts, combinations_in, combinations_of, slots_within}
use Rattle.late_decode.specs.Groups.{Grouped}

-- each measure, once
abbrev pub taken : List Measure
taken = Count ∷ Sum (One (Fact 0)) ∷ Average (One (Fact 0)) ∷ Least (Fact 0) ∷ Greatest (Fact 0) ∷ []

-- bounded parts of these, of at most so many combinations
abbrev pub ArePartsOf : ℕ → List Part → Type 0
ArePartsOf count parts = (are_parts taken parts ≡ true) × (combinations_of parts ≤ count)

-- groups of these, of at most so many combinations, in whose range the slots are
pub record AreGroupsOf (slots : List Slot) (used : ℕ) (groups : List Measure × Grouped Row) : Type 0 where
  pub measures : groups.0 ≡ taken
  pub few : combinations_in taken groups.1 ≤ used
  pub within : slots_within taken slots groups.1 ≡ true

-- groups of these, in whose range the slots are
pub record AreGroups (slots : List Slot) (groups : List Measure × Grouped Row) : Type 0 where
  pub measures : groups.0 ≡ taken
  pub within : slots_within taken slots groups.1 ≡ true
