-- Free numbers and live ones.
use Rattle.std.proofs.Common.{ℕ, ◌+◌, ◌≡◌, ◌≢◌, ◌≤◌, ◌<◌, refl, sym, ◌∙◌, ap, arith, true, eqb, zero, suc, List, [], ◌∷◌, ◌++◌, length, get_or, Some, None, Option, eq-eqb, inl, inr}
use Rattle.std.proofs.lemmas.Bool.Decides.{eqb_tells}
use Rattle.std.proofs.Math.ListN.{set}
use Rattle.word_pool.specs.Region.{live_count}
use Rattle.word_pool.specs.Numbering.{times, free_mark}

eq_self : (x : ℕ) → eqb x x ≡ true
eq_self x = eq-eqb x x refl

pub times_snoc_same : (x : ℕ) (ys : List ℕ) → times x (ys ++ x ∷ []) ≡ times x ys + 1
times_snoc_same x [] = rw (eq_self x) (omega arith)
times_snoc_same x (z ∷ zs) = rw (times_snoc_same x zs) (omega arith)

pub times_snoc_other : (x : ℕ) (ys : List ℕ) (y : ℕ) → x ≢ y → times x (ys ++ y ∷ []) ≡ times x ys
times_snoc_other x [] y h = elim (eqb_tells x y) [ inl p ↦ absurd (h p.1) | inr p ↦ rw (p.0) refl ]
times_snoc_other x (z ∷ zs) y h = rw (times_snoc_other x zs y h) refl

pub mark_set_some : (ts : List (Option ℕ)) (n t : ℕ) → n < length ts → free_mark (set ts n (Some t)) n ≡ 0
mark_set_some [] n t h = absurd (omega arith)
mark_set_some (s ∷ ts) zero t h = refl
mark_set_some (None ∷ ts) (suc n) t h = mark_set_some ts n t (omega arith)
mark_set_some (Some s ∷ ts) (suc n) t h = mark_set_some ts n t (omega arith)

pub mark_set_none : (ts : List (Option ℕ)) (n : ℕ) → n < length ts → free_mark (set ts n None) n ≡ 1
mark_set_none [] n h = absurd (omega arith)
mark_set_none (s ∷ ts) zero h = refl
mark_set_none (None ∷ ts) (suc n) h = mark_set_none ts n (omega arith)
mark_set_none (Some s ∷ ts) (suc n) h = mark_set_none ts n (omega arith)

pub mark_set_other : (ts : List (Option ℕ)) (n : ℕ) (v : Option ℕ) (x : ℕ) → x ≢ n → free_mark (set ts n v) x ≡ free_mark ts x
mark_set_other [] n v x h = refl
mark_set_other (s ∷ ts) zero v zero h = absurd (h refl)
mark_set_other (None ∷ ts) zero None (suc x) h = refl
mark_set_other (Some s ∷ ts) zero None (suc x) h = refl
mark_set_other (None ∷ ts) zero (Some v) (suc x) h = refl
mark_set_other (Some s ∷ ts) zero (Some v) (suc x) h = refl
mark_set_other (None ∷ ts) (suc n) v zero h = refl
mark_set_other (Some s ∷ ts) (suc n) v zero h = refl
mark_set_other (None ∷ ts) (suc n) v (suc x) h = mark_set_other ts n v x (λ e. h (ap suc e))
mark_set_other (Some s ∷ ts) (suc n) v (suc x) h = mark_set_other ts n v x (λ e. h (ap suc e))

pub mark_snoc : (ts : List (Option ℕ)) (t x : ℕ) → free_mark (ts ++ Some t ∷ []) x ≡ free_mark ts x
mark_snoc [] t zero = refl
mark_snoc [] t (suc x) = refl
mark_snoc (None ∷ ts) t zero = refl
mark_snoc (Some s ∷ ts) t zero = refl
mark_snoc (None ∷ ts) t (suc x) = mark_snoc ts t x
mark_snoc (Some s ∷ ts) t (suc x) = mark_snoc ts t x

pub mark_tells : (ts : List (Option ℕ)) (x : ℕ) → 0 < free_mark ts x → (x < length ts) × (get_or ts x None ≡ None)
mark_tells [] x h = absurd (omega arith)
mark_tells (None ∷ ts) zero h = (omega arith, refl)
mark_tells (Some s ∷ ts) zero h = absurd (omega arith)
mark_tells (None ∷ ts) (suc x) h = let m = mark_tells ts x h in (omega (arith, m.0), m.1)
mark_tells (Some s ∷ ts) (suc x) h = let m = mark_tells ts x h in (omega (arith, m.0), m.1)

pub some_tells : (ts : List (Option ℕ)) (x t : ℕ) → get_or ts x None ≡ Some t → (x < length ts) × (free_mark ts x ≡ 0)
some_tells [] x t h = cc
some_tells (None ∷ ts) zero t h = cc
some_tells (Some s ∷ ts) zero t h = (omega arith, refl)
some_tells (None ∷ ts) (suc x) t h = let m = some_tells ts x t h in (omega (arith, m.0), m.1)
some_tells (Some s ∷ ts) (suc x) t h = let m = some_tells ts x t h in (omega (arith, m.0), m.1)

pub live_set_some : (ts : List (Option ℕ)) (n t : ℕ) → n < length ts → get_or ts n None ≡ None → live_count (set ts n (Some t)) ≡ live_count ts + 1
live_set_some [] n t h e = absurd (omega arith)
live_set_some (None ∷ ts) zero t h e = omega arith
live_set_some (Some s ∷ ts) zero t h e = cc
live_set_some (None ∷ ts) (suc n) t h e = live_set_some ts n t (omega arith) e
live_set_some (Some s ∷ ts) (suc n) t h e = rw (live_set_some ts n t (omega arith) e) (omega arith)

pub live_set_none : (ts : List (Option ℕ)) (n t : ℕ) → get_or ts n None ≡ Some t → live_count (set ts n None) + 1 ≡ live_count ts
live_set_none [] n t e = cc
live_set_none (None ∷ ts) zero t e = cc
live_set_none (Some s ∷ ts) zero t e = omega arith
live_set_none (None ∷ ts) (suc n) t e = live_set_none ts n t e
live_set_none (Some s ∷ ts) (suc n) t e = omega (arith, live_set_none ts n t e)

pub live_snoc : (ts : List (Option ℕ)) (t : ℕ) → live_count (ts ++ Some t ∷ []) ≡ live_count ts + 1
live_snoc [] t = refl
live_snoc (None ∷ ts) t = live_snoc ts t
live_snoc (Some s ∷ ts) t = rw (live_snoc ts t) (omega arith)

pub live_le : (ts : List (Option ℕ)) → live_count ts ≤ length ts
live_le [] = omega arith
live_le (None ∷ ts) = omega (arith, live_le ts)
live_le (Some s ∷ ts) = omega (arith, live_le ts)

-- the free list less its last, where that number is taken
pub once_taken : (ts : List (Option ℕ)) (old new : List ℕ) (n t : ℕ) → ((x : ℕ) → times x old ≡ free_mark ts x) → old ≡ new ++ n ∷ [] → (n < length ts) × (get_or ts n None ≡ None) × ((x : ℕ) → times x new ≡ free_mark (set ts n (Some t)) x)
once_taken ts old new n t once e =
    let here : times n new + 1 ≡ free_mark ts n = sym (times_snoc_same n new) ∙ (rw e at (once n)) in
    let m = mark_tells ts n (omega arith) in (
      m.0,
      m.1,
      λ x. elim (eqb_tells x n) [
        | inl p ↦ rw (p.1, mark_set_some ts n t m.0) (small ts n (times n new) here)
        | inr p ↦ rw (mark_set_other ts n (Some t) x p.1) (sym (times_snoc_other x new n p.1) ∙ (rw e at (once x)))
      ],
    )
  where
    small : (ts : List (Option ℕ)) (n a : ℕ) → a + 1 ≡ free_mark ts n → a ≡ 0
    small [] n a h = absurd (omega arith)
    small (None ∷ ts) zero a h = omega arith
    small (Some s ∷ ts) zero a h = absurd (omega arith)
    small (None ∷ ts) (suc n) a h = small ts n a h
    small (Some s ∷ ts) (suc n) a h = small ts n a h

-- the free list with a number more, where that number is given back
pub once_given : (ts : List (Option ℕ)) (old : List ℕ) (n t : ℕ) → ((x : ℕ) → times x old ≡ free_mark ts x) → get_or ts n None ≡ Some t → (x : ℕ) → times x (old ++ n ∷ []) ≡ free_mark (set ts n None) x
once_given ts old n t once e x =
    let m = some_tells ts n t e in
    elim (eqb_tells x n) [
      | inl p ↦ rw (p.1, times_snoc_same n old, mark_set_none ts n m.0, once n, m.1) refl
      | inr p ↦ times_snoc_other x old n p.1 ∙ (once x ∙ sym (mark_set_other ts n None x p.1))
    ]
