-- The files of a store, by their names. Source: this project's own.
use Rattle.std.specs.Prelude.{◌≡◌, ◌≢◌, ◌≤◌, ◌<◌, ℕ, List, length, Option, Some, None}
use Rattle.std.specs.Ordering.{nat_cmp}
use Rattle.std.specs.Cmp.Lexicographic.{slice_cmp}
use Rattle.std.specs.FinMap.{FinMap, get}
use Rattle.blink_edge.specs.declared.store.Found.{Found}
use Rattle.blink_edge.specs.declared.store.Found.TheVariants.{Whole, Absent, Long}

-- a finite map from names to contents, both as bytes
abbrev pub Files : Type 0
Files = FinMap (slice_cmp nat_cmp) (List ℕ)

-- what a look for a file of at most so many bytes finds, and where it is whole, its bytes
abbrev pub IsFound : Option (List ℕ) → ℕ → List ℕ → Found → Type 0
IsFound None limit bytes found = found ≡ Absent
IsFound (Some file) limit bytes Whole = (length file ≤ limit) × (bytes ≡ file)
IsFound (Some file) limit bytes Absent = ⊥
IsFound (Some file) limit bytes Long = limit < length file

-- all files but that of this name stay
abbrev pub KeepsOthers : List ℕ → Files → Files → Type 0
KeepsOthers name old new = (other : List ℕ) → other ≢ name → get new other ≡ get old other
