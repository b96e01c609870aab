-- Rows that are only counted are added to the one group at once.
use Rattle.std.proofs.Common.{◌≡◌, ◌+◌, ◌+ℤ◌, ℕ, suc, pos, Bool, true, false, List, [], ◌∷◌, length, None, refl, ap, ◌∙◌, arith}
use Rattle.std.proofs.Math.IntN.{+ℤ_idr}
use Rattle.late_decode.specs.declared.plan.Measure.TheVariants.{Count}
use Rattle.late_decode.specs.declared.plan.Part.{Part}
use Rattle.late_decode.specs.Groups.{Grouped, added, rows_added}
use Rattle.late_decode.specs.Parts.{Picked, merged_parts, no_parts}
use Rattle.code_group.specs.RowParts.{rows_counted}
use Rattle.code_group.specs.Tuples.{same_tuple}

counted-twice : (n : ℕ) (xs : List Part) → merged_parts (Count ∷ []) (merged_parts (Count ∷ []) xs (rows_counted 1)) (rows_counted n) ≡ merged_parts (Count ∷ []) xs (rows_counted (suc n))
counted-twice n [] = refl
counted-twice n (x ∷ xs) =
    let count : x.count + 1 + n ≡ x.count + suc n = omega arith in
    λ i. record { count = count i; sum = +ℤ_idr (x.sum +ℤ pos 0) i; bound = None } ∷ []

added-twice : (n : ℕ) (groups : Grouped (List ℕ))
    → added same_tuple (Count ∷ []) [] (rows_counted n) (added same_tuple (Count ∷ []) [] (rows_counted 1) groups) ≡ added same_tuple (Count ∷ []) [] (rows_counted (suc n)) groups
added-twice n [] = ap (λ l. ([], l) ∷ []) (counted-twice n (no_parts (Count ∷ [])))
added-twice n (group ∷ groups) = by (same_tuple group.0 []) refl (added-twice n groups)
  where
    by : (b : Bool) → same_tuple group.0 [] ≡ b
        → added same_tuple (Count ∷ []) [] (rows_counted n) (added same_tuple (Count ∷ []) [] (rows_counted 1) groups) ≡ added same_tuple (Count ∷ []) [] (rows_counted (suc n)) groups
        → added same_tuple (Count ∷ []) [] (rows_counted n) (added same_tuple (Count ∷ []) [] (rows_counted 1) (group ∷ groups)) ≡ added same_tuple (Count ∷ []) [] (rows_counted (suc n)) (group ∷ groups)
    by true e rest = rw (added, e) (rw (added, e) (ap (λ l. (group.0, l) ∷ groups) (counted-twice n group.1)))
    by false e rest = rw (added, e) (rw (added, e) (ap (λ l. group ∷ l) rest))

pub counted : (key : List ℕ → List ℕ) (picked : List ℕ → Picked) → ((row : List ℕ) → key row ≡ []) → (row : List ℕ) (rows : List (List ℕ)) (groups : Grouped (List ℕ))
    → rows_added same_tuple (Count ∷ []) key picked (row ∷ rows) groups ≡ added same_tuple (Count ∷ []) [] (rows_counted (suc (length rows))) groups
counted key picked none row [] groups = ap (λ k. added same_tuple (Count ∷ []) k (rows_counted 1) groups) (none row)
counted key picked none row (next ∷ rows) groups =
    counted key picked none next rows (added same_tuple (Count ∷ []) (key row) (rows_counted 1) groups)
    ∙ ap (λ k. added same_tuple (Count ∷ []) [] (rows_counted (suc (length rows))) (added same_tuple (Count ∷ []) k (rows_counted 1) groups)) (none row)
    ∙ added-twice (suc (length rows)) groups
