-- The rows at the places of true values, from a place on.
use Rattle.std.proofs.Common.{◌≡◌, ◌<◌, ◌≤◌, ℕ, zero, suc, Bool, true, false, List, [], ◌∷◌, drop, slice_index_or, slice_get, Option, Some, None, refl, sym, ap, true≢false, arith}
use Rattle.std.specs.Option.{is_some}
use Rattle.blink_lists.specs.Lists.{any_true}
use Rattle.blink_lists.proofs.GroupLemmas.{neither}
use Rattle.cell_scan.specs.Match.{selected_rows}

-- the first true value that isn't below a place
pub next_selected : (bits : List Bool) (xs : List (List ℕ)) (from place : ℕ) (x : List ℕ) → from ≤ place → slice_index_or bits place false ≡ true → slice_get xs place ≡ Some x
    → ((k : ℕ) → from ≤ k → k < place → slice_index_or bits k false ≡ false) → selected_rows (drop from bits) (drop from xs) ≡ x ∷ selected_rows (drop (suc place) bits) (drop (suc place) xs)
next_selected [] xs from place x le set at gap = absurd (true≢false (sym set))
next_selected (b ∷ bits) [] from place x le set at gap = absurd (true≢false (sym (ap is_some at)))
next_selected (b ∷ bits) (y ∷ xs) zero zero x le set at gap = rw set (ap (λ o. some_or y o ∷ selected_rows bits xs) at)
  where
    some_or : List ℕ → Option (List ℕ) → List ℕ
    some_or z None = z
    some_or z (Some w) = w
next_selected (b ∷ bits) (y ∷ xs) zero (suc place) x le set at gap = rw (gap 0 (omega arith) (omega arith)) (next_selected bits xs zero place x (omega arith) set at (λ k low high. gap (suc k) (omega arith) (omega (arith, high))))
next_selected (b ∷ bits) (y ∷ xs) (suc from) zero x le set at gap = absurd (omega (arith, le))
next_selected (b ∷ bits) (y ∷ xs) (suc from) (suc place) x le set at gap = next_selected bits xs from place x (omega (arith, le)) set at (λ k low high. gap (suc k) (omega (arith, low)) (omega (arith, high)))

none-beside : (bits : List Bool) → selected_rows bits [] ≡ []
none-beside [] = refl
none-beside (b ∷ bits) = refl

-- no true value from a place on
pub none_selected : (bits : List Bool) (xs : List (List ℕ)) (from : ℕ) → ((k : ℕ) → from ≤ k → slice_index_or bits k false ≡ false) → selected_rows (drop from bits) (drop from xs) ≡ []
none_selected [] xs zero clear = refl
none_selected [] xs (suc from) clear = refl
none_selected (b ∷ bits) [] zero clear = refl
none_selected (b ∷ bits) [] (suc from) clear = none-beside (drop from bits)
none_selected (b ∷ bits) (x ∷ xs) zero clear = rw (clear 0 (omega arith)) (none_selected bits xs zero (λ k le. clear (suc k) (omega arith)))
none_selected (b ∷ bits) (x ∷ xs) (suc from) clear = none_selected bits xs from (λ k le. clear (suc k) (omega (arith, le)))

-- no value is true behind so many places
pub none_behind : (bits : List Bool) (n : ℕ) → any_true (drop n bits) ≡ false → (k : ℕ) → n ≤ k → slice_index_or bits k false ≡ false
none_behind [] n none k le = refl
none_behind (b ∷ bits) zero none zero le = (neither b (any_true bits) none).0
none_behind (b ∷ bits) zero none (suc k) le = none_behind bits zero (neither b (any_true bits) none).1 k (omega arith)
none_behind (b ∷ bits) (suc n) none zero le = absurd (omega (arith, le))
none_behind (b ∷ bits) (suc n) none (suc k) le = none_behind bits n none k (omega (arith, le))
