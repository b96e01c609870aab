-- Parts of a list, which keep the order; parts of a list of distinct elements are distinct.
use Rattle.std.proofs.Common.{◌≡◌, ℕ, zero, suc, Bool, true, false, not, List, [], ◌∷◌, ◌++◌, map, filter, take, cond, refl, sym, ap, true≢false}
use Rattle.std.specs.List.{list_any, zip}
use Rattle.std.proofs.lemmas.Bool.{and_parts, and_from}
use Rattle.blink_lists.specs.Lists.{are_distinct}
use Rattle.blink_lists.proofs.GroupLemmas.{neither}
use Rattle.cell_scan.specs.Match.{selected_rows}

pub data Part {X : Type 0} : List X → List X → Type 0 where
  none : Part [] []
  kept : (x : X) {xs ys : List X} → Part xs ys → Part (x ∷ xs) (x ∷ ys)
  left : (y : X) {xs ys : List X} → Part xs ys → Part xs (y ∷ ys)

module _ {X : Type 0} where
  pub no-part : (ys : List X) → Part [] ys
  no-part [] = none
  no-part (y ∷ ys) = left y (no-part ys)

  pub both : {xs ys us vs : List X} → Part xs ys → Part us vs → Part (xs ++ us) (ys ++ vs)
  both none q = q
  both (kept x p) q = kept x (both p q)
  both (left y p) q = left y (both p q)

  pub in-front : (more : List X) {xs ys : List X} → Part xs ys → Part xs (ys ++ more)
  in-front more none = no-part more
  in-front more (kept x p) = kept x (in-front more p)
  in-front more (left y p) = left y (in-front more p)

  any-part : (p : X → Bool) {xs ys : List X} → Part xs ys → list_any p ys ≡ false → list_any p xs ≡ false
  any-part p none h = h
  any-part p (kept x {xs} {ys} q) h = let n = neither (p x) (list_any p ys) h in rw n.0 (any-part p q n.1)
  any-part p (left y {xs} {ys} q) h = any-part p q (neither (p y) (list_any p ys) h).1

  pub distinct-part : (eq : X → X → Bool) {xs ys : List X} → Part xs ys → are_distinct eq ys ≡ true → are_distinct eq xs ≡ true
  distinct-part eq none h = h
  distinct-part eq (kept x {xs} {ys} q) h =
      let n = and_parts (not (list_any (eq x) ys)) (are_distinct eq ys) h in
      and_from (not (list_any (eq x) xs)) (are_distinct eq xs) (ap not (any-part (eq x) q (not-true (list_any (eq x) ys) n.0))) (distinct-part eq q n.1)
    where
      not-true : (b : Bool) → not b ≡ true → b ≡ false
      not-true true e = absurd (true≢false (sym e))
      not-true false e = refl
  distinct-part eq (left y {xs} {ys} q) h = distinct-part eq q (and_parts (not (list_any (eq y) ys)) (are_distinct eq ys) h).1

pub mapped : {X Y : Type 0} (f : X → Y) {xs ys : List X} → Part xs ys → Part (map f xs) (map f ys)
mapped f none = none
mapped f (kept x p) = kept (f x) (mapped f p)
mapped f (left y p) = left (f y) (mapped f p)

-- what true values choose of the front
pub chosen : (bits : List Bool) (n : ℕ) (xs : List (List ℕ)) → Part (selected_rows bits (take n xs)) xs
chosen [] n xs = no-part xs
chosen (b ∷ bits) zero xs = no-part xs
chosen (b ∷ bits) (suc n) [] = none
chosen (b ∷ bits) (suc n) (x ∷ xs) = by b (chosen bits n xs)
  where
    by : (c : Bool) → Part (selected_rows bits (take n xs)) xs → Part (map (λ p. p.1) (cond c ((c, x) ∷ filter (λ p. p.0) (zip bits (take n xs))) (filter (λ p. p.0) (zip bits (take n xs))))) (x ∷ xs)
    by true p = kept x p
    by false p = left x p
