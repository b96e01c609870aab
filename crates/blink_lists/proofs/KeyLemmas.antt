-- One element of a key: what passes of a list whose keys are distinct is the one that is found.
use Rattle.std.proofs.Common.{◌≡◌, Bool, true, false, not, ◌&&◌, List, [], ◌∷◌, map, filter, refl, sym, ap, ◌∙◌, true≢false, find}
use Rattle.std.specs.List.{list_any}
use Rattle.std.specs.Option.{option_to_list}
use Rattle.blink_lists.specs.Lists.{are_distinct}
use Rattle.blink_lists.proofs.GroupLemmas.{both, neither, not_true}

module _ {X K : Type 0} (eq : K → K → Bool) (joins : (a b v : K) → eq a v ≡ true → eq b v ≡ true → eq a b ≡ true) (key : X → K) (own : X → Bool) (v : K) where
  none_else : (k : K) (xs : List X) → eq k v ≡ true → list_any (eq k) (map key xs) ≡ false → filter (λ y. own y && eq (key y) v) xs ≡ []
  none_else k [] e h = refl
  none_else k (x ∷ xs) e h = by (none_else k xs e (neither (eq k (key x)) (list_any (eq k) (map key xs)) h).1) (own x) (eq (key x) v) refl refl
    where
      by : filter (λ y. own y && eq (key y) v) xs ≡ [] → (b c : Bool) → own x ≡ b → eq (key x) v ≡ c → filter (λ y. own y && eq (key y) v) (x ∷ xs) ≡ []
      by rest true true f g = absurd (true≢false (sym (joins k (key x) v e g) ∙ (neither (eq k (key x)) (list_any (eq k) (map key xs)) h).0))
      by rest true false f g = rw (f, g) rest
      by rest false c f g = rw f rest

  pub found : (xs : List X) → are_distinct eq (map key xs) ≡ true → filter (λ x. own x && eq (key x) v) xs ≡ option_to_list (find (λ x. eq (key x) v) (filter own xs))
  found [] h = refl
  found (x ∷ xs) h = by (found xs (both (not (list_any (eq (key x)) (map key xs))) (are_distinct eq (map key xs)) h).1) (own x) (eq (key x) v) refl refl
    where
      others : list_any (eq (key x)) (map key xs) ≡ false
      others = not_true (list_any (eq (key x)) (map key xs)) (both (not (list_any (eq (key x)) (map key xs))) (are_distinct eq (map key xs)) h).0

      by : filter (λ x. own x && eq (key x) v) xs ≡ option_to_list (find (λ x. eq (key x) v) (filter own xs)) → (b c : Bool) → own x ≡ b → eq (key x) v ≡ c → filter (λ x. own x && eq (key x) v) (x ∷ xs) ≡ option_to_list (find (λ x. eq (key x) v) (filter own (x ∷ xs)))
      by rest true true f g = rw (f, g) (ap (λ l. x ∷ l) (none_else (key x) xs g others))
      by rest true false f g = rw (f, g) rest
      by rest false c f g = rw f rest
