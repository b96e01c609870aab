-- The longest front of a list that passes a test.
use Rattle.std.proofs.Common.{◌≡◌, ◌≤◌, ◌<◌, ◌+◌, ℕ, zero, suc, Bool, true, false, List, [], ◌∷◌, length, take, cond, refl, arith}
use Rattle.std.specs.List.{list_all, prefix_len}

-- the front passes
pub all_within : {X : Type 0} (p : X → Bool) (xs : List X) → list_all p (take (prefix_len p xs) xs) ≡ true
all_within p [] = refl
all_within p (x ∷ xs) =
    elim (p x) as (λ t. p x ≡ t → list_all p (take (cond t (1 + prefix_len p xs) 0) (x ∷ xs)) ≡ true) [
      | true ↦ λ e. let more : 1 + prefix_len p xs ≡ suc (prefix_len p xs) = omega arith in rw (more, e) (all_within p xs)
      | false ↦ λ e. refl
    ] refl

-- no longer part passes
pub all_past : {X : Type 0} (p : X → Bool) (xs : List X) (m : ℕ) → prefix_len p xs < m → m ≤ length xs → list_all p (take m xs) ≡ false
all_past p xs zero h k = absurd (omega arith)
all_past p [] (suc m) h k = absurd (omega arith)
all_past p (x ∷ xs) (suc m) h k =
    elim (p x) as (λ t. p x ≡ t → cond t (1 + prefix_len p xs) 0 < suc m → list_all p (take (suc m) (x ∷ xs)) ≡ false) [
      | true ↦ λ e short. rw e (all_past p xs m (omega arith) (omega arith))
      | false ↦ λ e short. rw e refl
    ] refl h
