-- A list is its groups by key, one after another, in another order.
use Rattle.std.proofs.Common.{◌≡◌, Bool, true, false, not, ◌&&◌, ◌||◌, List, [], ◌∷◌, ◌++◌, map, filter, refl, sym, ap, ◌∙◌, subst, true≢false}
use Rattle.std.specs.List.{list_any, list_all, flat_map}
use Rattle.blink_lists.specs.Lists.{once_each, are_distinct}
use Rattle.blink_lists.specs.Rearrangement.{Rearranged}
use Rattle.blink_lists.specs.Rearrangement.Rearranged.{none, kept, followed}
use Rattle.blink_lists.proofs.RearrangementLemmas.{in_front, moved}
use Rattle.blink_lists.specs.Groups.{IsSame, with_key}

pub both : (a b : Bool) → (a && b) ≡ true → (a ≡ true) × (b ≡ true)
both true true e = (refl, refl)
both true false e = absurd (true≢false (sym e))
both false b e = absurd (true≢false (sym e))

pub and_both : (a b : Bool) → a ≡ true → b ≡ true → (a && b) ≡ true
and_both a b e k = rw (e, k) refl

pub not_true : (a : Bool) → not a ≡ true → a ≡ false
not_true true e = absurd (true≢false (sym e))
not_true false e = refl

pub neither : (a b : Bool) → (a || b) ≡ false → (a ≡ false) × (b ≡ false)
neither true b e = absurd (true≢false e)
neither false b e = (refl, e)

module _ {X : Type 0} where
  -- those that pass, and the others behind them
  pub parted : (p : X → Bool) (xs : List X) → Rearranged xs (filter p xs ++ filter (λ x. not (p x)) xs)
  parted p [] = none
  parted p (x ∷ xs) = by (p x) refl (parted p xs)
    where
      by : (b : Bool) → p x ≡ b → Rearranged xs (filter p xs ++ filter (λ y. not (p y)) xs) → Rearranged (x ∷ xs) (filter p (x ∷ xs) ++ filter (λ y. not (p y)) (x ∷ xs))
      by true e r = rw e (kept x r)
      by false e r = rw e (followed (kept x r) (moved x (filter p xs) (filter (λ y. not (p y)) xs)))

  pub filter-alike : (p q : X → Bool) → ((x : X) → p x ≡ q x) → (xs : List X) → filter p xs ≡ filter q xs
  filter-alike p q same [] = refl
  filter-alike p q same (x ∷ xs) = by (q x) refl (filter-alike p q same xs)
    where
      by : (b : Bool) → q x ≡ b → filter p xs ≡ filter q xs → filter p (x ∷ xs) ≡ filter q (x ∷ xs)
      by true e r = rw (same x, e) (ap (λ l. x ∷ l) r)
      by false e r = rw (same x, e) r

  -- those that pass a test that only others fail
  pub filter-others : (p q : X → Bool) → ((x : X) → q x ≡ true → p x ≡ true) → (xs : List X) → filter q (filter p xs) ≡ filter q xs
  filter-others p q step [] = refl
  filter-others p q step (x ∷ xs) = by (p x) (q x) refl refl (filter-others p q step xs)
    where
      by : (b c : Bool) → p x ≡ b → q x ≡ c → filter q (filter p xs) ≡ filter q xs → filter q (filter p (x ∷ xs)) ≡ filter q (x ∷ xs)
      by true true e k r = rw (e, k) (ap (λ l. x ∷ l) r)
      by true false e k r = rw (e, k) r
      by false true e k r = absurd (true≢false (sym (step x k) ∙ e))
      by false false e k r = rw (e, k) r

  pub all-imply : (p q : X → Bool) → ((x : X) → p x ≡ true → q x ≡ true) → (xs : List X) → list_all p xs ≡ true → list_all q xs ≡ true
  all-imply p q step [] e = refl
  all-imply p q step (x ∷ xs) e =
      let b = both (p x) (list_all p xs) e in
      and_both (q x) (list_all q xs) (step x b.0) (all-imply p q step xs b.1)

  pub any-filter : (p q : X → Bool) → ((x : X) → q x ≡ true → p x ≡ true) → (xs : List X) → list_any q (filter p xs) ≡ list_any q xs
  any-filter p q step [] = refl
  any-filter p q step (x ∷ xs) = by (p x) (q x) refl refl (any-filter p q step xs)
    where
      by : (b c : Bool) → p x ≡ b → q x ≡ c → list_any q (filter p xs) ≡ list_any q xs → list_any q (filter p (x ∷ xs)) ≡ list_any q (x ∷ xs)
      by true true e k r = rw (e, k) refl
      by true false e k r = rw (e, k) r
      by false true e k r = absurd (true≢false (sym (step x k) ∙ e))
      by false false e k r = rw (e, k) r

  -- no element of those that pass passes where none does
  any-fewer : (p q : X → Bool) (xs : List X) → list_any q xs ≡ false → list_any q (filter p xs) ≡ false
  any-fewer p q [] e = refl
  any-fewer p q (x ∷ xs) e =
      let n = neither (q x) (list_any q xs) e in
      by (p x) refl n.0 (any-fewer p q xs n.1)
    where
      by : (b : Bool) → p x ≡ b → q x ≡ false → list_any q (filter p xs) ≡ false → list_any q (filter p (x ∷ xs)) ≡ false
      by true k m r = rw (k, m) r
      by false k m r = rw k r

  none-left : (p : X → Bool) (xs : List X) → list_any p (filter (λ x. not (p x)) xs) ≡ false
  none-left p [] = refl
  none-left p (x ∷ xs) = by (p x) refl (none-left p xs)
    where
      by : (b : Bool) → p x ≡ b → list_any p (filter (λ y. not (p y)) xs) ≡ false → list_any p (filter (λ y. not (p y)) (x ∷ xs)) ≡ false
      by true e r = rw e r
      by false e r = rw (e, e) r

module _ {K : Type 0} (eq : K → K → Bool) where
  pub distinct-filter : (p : K → Bool) (ks : List K) → are_distinct eq ks ≡ true → are_distinct eq (filter p ks) ≡ true
  distinct-filter p [] d = refl
  distinct-filter p (k ∷ ks) d =
      let b = both (not (list_any (eq k) ks)) (are_distinct eq ks) d in
      by (p k) refl b.0 (distinct-filter p ks b.1)
    where
      by : (c : Bool) → p k ≡ c → not (list_any (eq k) ks) ≡ true → are_distinct eq (filter p ks) ≡ true → are_distinct eq (filter p (k ∷ ks)) ≡ true
      by true e n r = rw (e, any-fewer p (eq k) ks (not_true (list_any (eq k) ks) n)) r
      by false e n r = rw e r

module _ {K : Type 0} (eq : K → K → Bool) (s : IsSame eq) where
  pub once_each-distinct : (ks : List K) → are_distinct eq (once_each eq ks) ≡ true
  once_each-distinct [] = refl
  once_each-distinct (k ∷ ks) = rw (none-left (eq k) (once_each eq ks)) (distinct-filter eq (λ y. not (eq k y)) (once_each eq ks) (once_each-distinct ks))

  -- what is there once is there
  pub once_each-any : (a : K) (ks : List K) → list_any (λ k. eq k a) (once_each eq ks) ≡ list_any (λ k. eq k a) ks
  once_each-any a [] = refl
  once_each-any a (k ∷ ks) = by (eq k a) refl (once_each-any a ks)
    where
      by : (b : Bool) → eq k a ≡ b → list_any (λ z. eq z a) (once_each eq ks) ≡ list_any (λ z. eq z a) ks → list_any (λ z. eq z a) (once_each eq (k ∷ ks)) ≡ list_any (λ z. eq z a) (k ∷ ks)
      by true e r = rw e refl
      by false e r =
          rw e
          (any-filter (λ z. not (eq k z)) (λ z. eq z a)
          (λ z h. let other : eq k z ≡ false = ap (eq k) (s.one z a h) ∙ e in rw other refl) (once_each eq ks)
          ∙ r)

module _ {X K : Type 0} (eq : K → K → Bool) (s : IsSame eq) (key : X → K) where
  -- whether a key stands in a list
  abbrev stands : List K → X → Bool
  stands ks x = list_any (λ k. eq k (key x)) ks

  covers-rest : (k : K) (ks : List K) (xs : List X) → list_all (stands (k ∷ ks)) xs ≡ true → list_all (stands ks) (filter (λ x. not (eq k (key x))) xs) ≡ true
  covers-rest k ks [] h = refl
  covers-rest k ks (x ∷ xs) h =
      let b = both (stands (k ∷ ks) x) (list_all (stands (k ∷ ks)) xs) h in
      by (eq k (key x)) refl b.0 (covers-rest k ks xs b.1)
    where
      by : (c : Bool) → eq k (key x) ≡ c → stands (k ∷ ks) x ≡ true → list_all (stands ks) (filter (λ y. not (eq k (key y))) xs) ≡ true
          → list_all (stands ks) (filter (λ y. not (eq k (key y))) (x ∷ xs)) ≡ true
      by true e t r = rw e r
      by false e t r = rw e (and_both (stands ks x) (list_all (stands ks) (filter (λ y. not (eq k (key y))) xs)) (ap (λ (z : Bool). z || stands ks x) (sym e) ∙ t) r)

  same-groups : (k : K) (xs : List X) (ks : List K) → list_any (eq k) ks ≡ false
      → flat_map (with_key eq key (filter (λ x. not (eq k (key x))) xs)) ks ≡ flat_map (with_key eq key xs) ks
  same-groups k xs [] h = refl
  same-groups k xs (j ∷ ks) h =
      let n = neither (eq k j) (list_any (eq k) ks) h in
      let here = filter-others (λ x. not (eq k (key x))) (λ x. eq j (key x))
      (λ x m. let other : eq k (key x) ≡ false = ap (eq k) (sym (s.one j (key x) m)) ∙ n.0 in rw other refl) xs in
      λ i. here i ++ same-groups k xs ks n.1 i

  pub by_keys : (ks : List K) (xs : List X) → list_all (stands ks) xs ≡ true → are_distinct eq ks ≡ true → Rearranged xs (flat_map (with_key eq key xs) ks)
  by_keys [] [] h d = none
  by_keys [] (x ∷ xs) h d = absurd (true≢false (sym h))
  by_keys (k ∷ ks) xs h d =
      let b = both (not (list_any (eq k) ks)) (are_distinct eq ks) d in
      let rest = by_keys ks (filter (λ x. not (eq k (key x))) xs) (covers-rest k ks xs h) b.1 in
      let same = same-groups k xs ks (not_true (list_any (eq k) ks) b.0) in
      followed (parted (λ x. eq k (key x)) xs)
      (in_front (with_key eq key xs k) (subst (λ l. Rearranged (filter (λ x. not (eq k (key x))) xs) l) same rest))

  pub covers-self : (xs : List X) → list_all (stands (map key xs)) xs ≡ true
  covers-self [] = refl
  covers-self (x ∷ xs) =
      and_both (stands (map key (x ∷ xs)) x) (list_all (stands (map key (x ∷ xs))) xs) (rw (s.itself (key x)) refl)
      (all-imply (stands (map key xs)) (stands (map key (x ∷ xs))) (λ y e. either (eq (key x) (key y)) (stands (map key xs) y) e) xs (covers-self xs))
    where
      either : (a b : Bool) → b ≡ true → (a || b) ≡ true
      either true b e = refl
      either false b e = e

  pub covers_once : (xs : List X) → list_all (stands (once_each eq (map key xs))) xs ≡ true
  covers_once xs = all-imply (stands (map key xs)) (stands (once_each eq (map key xs))) (λ x e. once_each-any eq s (key x) (map key xs) ∙ e) xs (covers-self xs)

  pub groups_rearrange : (xs : List X) → Rearranged xs (flat_map (with_key eq key xs) (once_each eq (map key xs)))
  groups_rearrange xs = by_keys (once_each eq (map key xs)) xs (covers_once xs) (once_each-distinct eq s (map key xs))
