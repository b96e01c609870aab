-- A value put in its place in a short list.
use Rattle.std.proofs.Common.{ℕ, zero, suc, ◌+◌, ◌≤◌, ◌≡◌, ◌⊎◌, inl, inr, min, true, List, [], ◌∷◌, take, map, refl, ap, arith, Ordering, is_le}
use Rattle.std.proofs.lemmas.Bool.{cases_Bool}
use Rattle.blink_lists.specs.Lists.{put_in_order}

-- a value that stands first moves the others on
pub put_first : {X : Type 0} (cmp : X → X → Ordering) (x a b d : X) (n m : ℕ) → n ≤ 3 → m ≡ min (n + 1) 3 → (n ≡ 0) ⊎ (is_le (cmp x a) ≡ true) → take m (x ∷ a ∷ b ∷ []) ≡ take 3 (put_in_order cmp x (take n (a ∷ b ∷ d ∷ [])))
put_first cmp x a b d zero m few grown first = let e : m ≡ 1 = omega arith in rw e refl
put_first cmp x a b d (suc zero) m few grown (inl none) = absurd (omega arith)
put_first cmp x a b d (suc zero) m few grown (inr le) = let e : m ≡ 2 = omega arith in rw (e, le, put_in_order) refl
put_first cmp x a b d (suc (suc zero)) m few grown (inl none) = absurd (omega arith)
put_first cmp x a b d (suc (suc zero)) m few grown (inr le) = let e : m ≡ 3 = omega arith in rw (e, le, put_in_order) refl
put_first cmp x a b d (suc (suc (suc zero))) m few grown (inl none) = absurd (omega arith)
put_first cmp x a b d (suc (suc (suc zero))) m few grown (inr le) = let e : m ≡ 3 = omega arith in rw (e, le, put_in_order) refl
put_first cmp x a b d (suc (suc (suc (suc n)))) m few grown first = absurd (omega arith)

-- the front of a list is enough for the front of what it becomes
pub take-put : {X : Type 0} (cmp : X → X → Ordering) (x : X) (k : ℕ) (ys : List X) → take k (put_in_order cmp x (take k ys)) ≡ take k (put_in_order cmp x ys)
take-put cmp x zero ys = refl
take-put cmp x (suc k) [] = refl
take-put cmp x (suc k) (y ∷ ys) = elim (cases_Bool (is_le (cmp x y))) [
  | inl e ↦ rw (e, put_in_order) (ap (λ zs. x ∷ zs) (take-front k y ys))
  | inr e ↦ rw (e, put_in_order) (ap (λ zs. y ∷ zs) (take-put cmp x k ys))
]
  where
    take-front : {X : Type 0} (k : ℕ) (y : X) (ys : List X) → take k (y ∷ take k ys) ≡ take k (y ∷ ys)
    take-front zero y ys = refl
    take-front (suc k) y [] = refl
    take-front (suc k) y (z ∷ zs) = ap (λ ws. y ∷ ws) (take-front k z zs)

-- an order of what a function makes is the order of what it is made from
pub map-put : {X Y : Type 0} (f : X → Y) (cmp : X → X → Ordering) (by : Y → Y → Ordering) (same : (x y : X) → by (f x) (f y) ≡ cmp x y) (x : X) (ys : List X) → put_in_order by (f x) (map f ys) ≡ map f (put_in_order cmp x ys)
map-put f cmp by same x [] = refl
map-put f cmp by same x (y ∷ ys) = elim (cases_Bool (is_le (cmp x y))) [
  | inl e ↦ rw (same x y, put_in_order) (rw (e, put_in_order) refl)
  | inr e ↦ rw (same x y, put_in_order) (rw (e, put_in_order) (ap (λ zs. f y ∷ zs) (map-put f cmp by same x ys)))
]
