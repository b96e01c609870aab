-- The places of a row's values, column by column.
use Rattle.std.proofs.Common.{◌≡◌, ◌≤◌, ◌<◌, ℕ, zero, suc, ◌+◌, true, false, ◌&&◌, List, [], ◌∷◌, ◌++◌, pos, map, filter_map, take, length, get_or, Option, Some, None, is_some, refl, sym, ap, subst, ◌∙◌, arith, inl, inr, ◌⊎◌}
use Rattle.std.specs.List.{list_all}
use Rattle.std.proofs.Math.Seq.{get_or-append_seam}
use Rattle.std.proofs.lemmas.Bool.{cases_lt}
use Rattle.std.proofs.lemmas.List.{take_more, take_all, map-append, get_or_append_left, length-append}
use Rattle.std.proofs.lemmas.List.Elements.{filter_map-append}
use Rattle.std.proofs.lemmas.List.Folds.{list_all-append, list_all_at}
use Rattle.blink_base.specs.declared.value.Value.{Value}
use Rattle.blink_base.specs.declared.value.Value.TheVariants.{Int}
use Rattle.blink_base.specs.Values.{Row}
use Rattle.order_codes.specs.declared.place.CodePlace.{CodePlace}
use Rattle.order_codes.specs.Dictionary.{Classes, place_of_value, class_at}
use Rattle.cell_layout.specs.Image.{places_of, is_coded}
use Rattle.cell_layout.specs.CellIndex.{AreWithin}

-- the class numbers of places, and their codes
abbrev pub classes_in : List (Option CodePlace) → List ℕ
classes_in places = map (λ (p : CodePlace). p.class) (filter_map (λ (o : Option CodePlace). o) places)

abbrev pub codes_in : List (Option CodePlace) → List ℕ
codes_in places = map (λ (p : CodePlace). p.code) (filter_map (λ (o : Option CodePlace). o) places)

length-places : (columns : List Classes) (row : Row) → length row ≡ length columns → length (places_of columns row) ≡ length columns
length-places [] row e = refl
length-places (c ∷ columns) [] e = absurd (omega arith)
length-places (c ∷ columns) (v ∷ row) e = let rest = length-places columns row (omega arith) in omega arith

places-at : (columns : List Classes) (row : Row) (k : ℕ) (values : Classes) (v : Value) → length row ≡ length columns → k < length columns
    → get_or (places_of columns row) k None ≡ place_of_value (get_or columns k values) (get_or row k v)
places-at [] row k values v e lt = absurd (omega arith)
places-at (c ∷ columns) [] k values v e lt = absurd (omega arith)
places-at (c ∷ columns) (w ∷ row) zero values v e lt = refl
places-at (c ∷ columns) (w ∷ row) (suc k) values v e lt = places-at columns row k values v (omega arith) (omega arith)

module _ (columns : List Classes) (row : Row) (k : ℕ) (full : length row ≡ length columns) where
  -- the place of one more value, as calls say it
  pub place_here : (o : Option CodePlace) → k < length columns → ((v : Value) → o ≡ place_of_value (get_or columns k []) (get_or row k v)) → get_or (places_of columns row) k None ≡ o
  place_here o lt found = places-at columns row k [] (Int (pos 0)) full lt ∙ sym (found (Int (pos 0)))

  more : (o : Option CodePlace) → k < length columns → get_or (places_of columns row) k None ≡ o → take (k + 1) (places_of columns row) ≡ take k (places_of columns row) ++ o ∷ []
  more o lt here =
      let within : k < length (places_of columns row) = rw (length-places columns row full) lt in
      take_more (places_of columns row) k None within ∙ ap (λ o. take k (places_of columns row) ++ o ∷ []) here

  pub classes_more : (p : CodePlace) (so_far next : List ℕ) → k < length columns → get_or (places_of columns row) k None ≡ Some p → so_far ≡ classes_in (take k (places_of columns row))
      → next ≡ so_far ++ p.class ∷ [] → next ≡ classes_in (take (k + 1) (places_of columns row))
  classes_more p so_far next lt here front pushed =
      pushed ∙ ap (λ l. l ++ p.class ∷ []) front
      ∙ sym (map-append (λ (q : CodePlace). q.class) (filter_map (λ (o : Option CodePlace). o) (take k (places_of columns row))) (p ∷ []))
      ∙ ap (map (λ (q : CodePlace). q.class)) (sym (filter_map-append (λ (o : Option CodePlace). o) (take k (places_of columns row)) (Some p ∷ [])))
      ∙ ap classes_in (sym (more (Some p) lt here))

  pub codes_more : (p : CodePlace) (so_far next : List ℕ) → k < length columns → get_or (places_of columns row) k None ≡ Some p → so_far ≡ codes_in (take k (places_of columns row))
      → next ≡ so_far ++ p.code ∷ [] → next ≡ codes_in (take (k + 1) (places_of columns row))
  codes_more p so_far next lt here front pushed =
      pushed ∙ ap (λ l. l ++ p.code ∷ []) front
      ∙ sym (map-append (λ (q : CodePlace). q.code) (filter_map (λ (o : Option CodePlace). o) (take k (places_of columns row))) (p ∷ []))
      ∙ ap (map (λ (q : CodePlace). q.code)) (sym (filter_map-append (λ (o : Option CodePlace). o) (take k (places_of columns row)) (Some p ∷ [])))
      ∙ ap codes_in (sym (more (Some p) lt here))

  pub some_more : (p : CodePlace) → k < length columns → get_or (places_of columns row) k None ≡ Some p → list_all is_some (take k (places_of columns row)) ≡ true
      → list_all is_some (take (k + 1) (places_of columns row)) ≡ true
  some_more p lt here front = ap (list_all is_some) (more (Some p) lt here) ∙ list_all-append is_some (take k (places_of columns row)) (Some p ∷ []) ∙ ap (λ b. b && true) front

  pub none_here : k < length columns → get_or (places_of columns row) k None ≡ None → is_coded columns row ≡ false
  none_here lt here =
      let within : k < length (places_of columns row) = rw (length-places columns row full) lt in
      list_all_at is_some (places_of columns row) k None within (ap is_some here)

  pub taken_all : length columns ≤ k → take k (places_of columns row) ≡ places_of columns row
  taken_all le = take_all k (places_of columns row) (rw (length-places columns row full) le)

-- one more class number and code
pub within_more : (columns : List Classes) (classes codes : List ℕ) (n : ℕ) (p : CodePlace) → AreWithin columns classes codes n → n < length columns
    → (p.class < length (get_or columns n [])) × (p.code < length (class_at (get_or columns n []) p.class)) → AreWithin columns (classes ++ p.class ∷ []) (codes ++ p.code ∷ []) (n + 1)
within_more columns classes codes n p w lt fits = record {
  class_count = length-append classes (p.class ∷ []) ∙ ap (λ m. m + 1) w.class_count;
  code_count = length-append codes (p.code ∷ []) ∙ ap (λ m. m + 1) w.code_count;
  numbers = λ k le. numbers k (cases_lt k n) le;
  below = λ k le. below k (cases_lt k n) le;
}
  where
    last : (xs : List ℕ) (y : ℕ) → length xs ≡ n → get_or (xs ++ y ∷ []) n 0 ≡ y
    last xs y e = ap (λ i. get_or (xs ++ y ∷ []) i 0) (sym e) ∙ get_or-append_seam xs y [] 0

    front : (xs : List ℕ) (y k : ℕ) → length xs ≡ n → k < n → get_or (xs ++ y ∷ []) k 0 ≡ get_or xs k 0
    front xs y k e less = get_or_append_left xs (y ∷ []) 0 k (omega arith)

    numbers : (k : ℕ) → (k < n) ⊎ (n ≤ k) → k < n + 1 → get_or (classes ++ p.class ∷ []) k 0 < length (get_or columns k [])
    numbers k (inl less) le = rw (front classes p.class k w.class_count less) (w.numbers k less)
    numbers k (inr more) le =
        let same : k ≡ n = omega arith in
        rw (same, last classes p.class w.class_count) fits.0

    below : (k : ℕ) → (k < n) ⊎ (n ≤ k) → k < n + 1 → get_or (codes ++ p.code ∷ []) k 0 < length (class_at (get_or columns k []) (get_or (classes ++ p.class ∷ []) k 0))
    below k (inl less) le = rw (front classes p.class k w.class_count less, front codes p.code k w.code_count less) (w.below k less)
    below k (inr more) le =
        let same : k ≡ n = omega arith in
        rw (same, last classes p.class w.class_count, last codes p.code w.code_count) fits.1

pub within_all : (columns : List Classes) (classes codes : List ℕ) (n : ℕ) → AreWithin columns classes codes n → length columns ≤ n → n ≤ length columns → AreWithin columns classes codes (length columns)
within_all columns classes codes n w le ge = let same : n ≡ length columns = omega arith in subst (AreWithin columns classes codes) same w
