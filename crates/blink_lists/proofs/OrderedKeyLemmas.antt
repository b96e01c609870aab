-- Distinct keys in order, and one more key behind the list that they come from.
use Rattle.std.proofs.Common.{◌≡◌, Bool, true, false, not, ◌||◌, List, [], ◌∷◌, ◌++◌, filter, refl, sym, ap, ◌∙◌}
use Rattle.std.specs.List.{list_any}
use Rattle.std.specs.declared.cmp.Ordering.{Ordering}
use Rattle.std.specs.declared.cmp.Ordering.TheVariants.{Less, Equal, Greater}
use Rattle.std.specs.Ordering.{is_eq, is_le, ordering_reverse}
use Rattle.std.specs.Cmp.{IsTotalOrder, Equal-is}
use Rattle.std.proofs.lemmas.List.{append-nil}
use Rattle.std.proofs.lemmas.List.Elements.{filter-append}
use Rattle.std.proofs.lemmas.Map.Views.{any-filter_same}
use Rattle.blink_lists.specs.Lists.{put_in_order, in_order, once_each}
use Rattle.blink_lists.specs.Rearrangement.{Rearranged}
use Rattle.blink_lists.specs.Rearrangement.Rearranged.{kept, swapped, followed}
use Rattle.blink_lists.proofs.RearrangementLemmas.{itself}
use Rattle.blink_lists.proofs.BoolLemmas.{or-swap}
use Rattle.blink_lists.proofs.OrderLemmas.{in_order_rearranged}

is_eq-reverse : (r : Ordering) → is_eq (ordering_reverse r) ≡ is_eq r
is_eq-reverse Less = refl
is_eq-reverse Equal = refl
is_eq-reverse Greater = refl

module _ {K : Type 0} (cmp : K → K → Ordering) (o : IsTotalOrder cmp) (one : (x y : K) → cmp x y ≡ Equal → x ≡ y) where
  abbrev same : K → K → Bool
  same x y = is_eq (cmp x y)

  pub same-turned : (x y : K) → same x y ≡ same y x
  same-turned x y = sym (is_eq-reverse (cmp x y)) ∙ ap is_eq (sym (o.antisymm y x))

  abbrev others : K → K → Bool
  others x y = not (same x y)

  -- the key, where it is new
  abbrev pub added : Bool → K → List K
  added true k = []
  added false k = k ∷ []

  added-others : (k x : K) (m : Bool) → filter (others x) (added m k) ≡ added (same k x || m) k
  added-others k x m = by (same k x) m refl
    where
      by : (b m : Bool) → same k x ≡ b → filter (others x) (added m k) ≡ added (same k x || m) k
      by true true e = rw e refl
      by true false e = rw (same-turned x k, e) refl
      by false true e = rw e refl
      by false false e = rw (same-turned x k, e) refl

  once_more : (k : K) (ks : List K) → once_each same (ks ++ k ∷ []) ≡ once_each same ks ++ added (list_any (same k) ks) k
  once_more k [] = refl
  once_more k (x ∷ ks) =
      let rest = once_more k ks in
      ap (λ l. x ∷ filter (others x) l) rest
      ∙ ap (λ l. x ∷ l) (filter-append (others x) (once_each same ks) (added (list_any (same k) ks) k))
      ∙ ap (λ l. x ∷ (filter (others x) (once_each same ks) ++ l)) (added-others k x (list_any (same k) ks))

  to_front : (k : K) (xs : List K) → Rearranged (xs ++ k ∷ []) (k ∷ xs)
  to_front k [] = itself (k ∷ [])
  to_front k (x ∷ xs) = followed (kept x (to_front k xs)) (swapped x k xs)

  any-put : (p : K → Bool) (x : K) (ys : List K) → list_any p (put_in_order cmp x ys) ≡ (p x || list_any p ys)
  any-put p x [] = refl
  any-put p x (y ∷ ys) = by (is_le (cmp x y)) refl (any-put p x ys)
    where
      by : (b : Bool) → is_le (cmp x y) ≡ b → list_any p (put_in_order cmp x ys) ≡ (p x || list_any p ys) → list_any p (put_in_order cmp x (y ∷ ys)) ≡ (p x || list_any p (y ∷ ys))
      by true e rest = rw (put_in_order, e) refl
      by false e rest = rw (put_in_order, e) (ap (λ b. p y || b) rest ∙ or-swap (p y) (p x) (list_any p ys))

  any-in_order : (p : K → Bool) (xs : List K) → list_any p (in_order cmp xs) ≡ list_any p xs
  any-in_order p [] = refl
  any-in_order p (x ∷ xs) = any-put p x (in_order cmp xs) ∙ ap (λ b. p x || b) (any-in_order p xs)

  any-once : (k : K) (xs : List K) → list_any (same k) (once_each same xs) ≡ list_any (same k) xs
  any-once k [] = refl
  any-once k (x ∷ xs) = by (same k x) refl (any-once k xs)
    where
      by : (b : Bool) → same k x ≡ b → list_any (same k) (once_each same xs) ≡ list_any (same k) xs → list_any (same k) (once_each same (x ∷ xs)) ≡ list_any (same k) (x ∷ xs)
      by true e rest = rw e refl
      by false e rest =
          let kept : (y : K) → same k y ≡ true → others x y ≡ true = λ y h. ap not (sym (ap (same x) (one k y ((Equal-is (cmp k y)).0 h))) ∙ same-turned x k ∙ e) in
          rw e (any-filter_same (same k) (others x) true kept (once_each same xs) ∙ rest)

  -- the distinct keys in order
  abbrev pub keys_of : List K → List K
  keys_of ks = in_order cmp (once_each same ks)

  pub any-keys : (k : K) (ks : List K) → list_any (same k) (keys_of ks) ≡ list_any (same k) ks
  any-keys k ks = any-in_order (same k) (once_each same ks) ∙ any-once k ks

  pub keys-known : (k : K) (ks : List K) → list_any (same k) ks ≡ true → keys_of (ks ++ k ∷ []) ≡ keys_of ks
  keys-known k ks known = ap (in_order cmp) (once_more k ks ∙ ap (λ b. once_each same ks ++ added b k) known ∙ append-nil (once_each same ks))

  pub keys-new : (k : K) (ks : List K) → list_any (same k) ks ≡ false → keys_of (ks ++ k ∷ []) ≡ put_in_order cmp k (keys_of ks)
  keys-new k ks new =
      ap (in_order cmp) (once_more k ks ∙ ap (λ b. once_each same ks ++ added b k) new)
      ∙ in_order_rearranged cmp o one (once_each same ks ++ k ∷ []) (k ∷ once_each same ks) (to_front k (once_each same ks))
