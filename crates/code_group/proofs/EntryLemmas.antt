-- An entry stands for the value that its pick has beside the row.
use Rattle.std.proofs.Common.{◌≡◌, ℕ, zero, suc, pos, ◌<◌, ◌==◌, Bool, true, List, [], ◌∷◌, map, length, nat_lt, Option, Some, None, unwrap_or, slice_index_or, slice_get, get_or, refl, sym, ap, ◌∙◌, subst, arith, true≢false}
use Rattle.std.specs.List.{list_all, zip}
use Rattle.std.specs.Option.{option_and_then, is_some}
use Rattle.std.specs.Map.{keys_of, values_of}
use Rattle.std.proofs.lemmas.Bool.{eqb-true, ltb-true, lt-ltb}
use Rattle.std.proofs.lemmas.Option.{slice_get-get_or}
use Rattle.blink_base.specs.declared.value.Value.{Value}
use Rattle.blink_base.specs.declared.value.Value.TheVariants.{Int}
use Rattle.blink_base.specs.Values.{Row, same_value}
use Rattle.blink_lists.proofs.FindLemmas.{place_is}
use Rattle.blink_lists.proofs.GroupLemmas.{both, and_both}
use Rattle.cell_layout.specs.Image.{decoded_row}
use Rattle.cell_layout.specs.Valid.{are_codes}
use Rattle.cell_scan.specs.ValueTests.{cell_class}
use Rattle.code_join.specs.Keys.{Keyed, place_of_key, is_key, entry_at, payload_of}
use Rattle.code_join.specs.KeyLaws.{EntriesByPlace, PlacesByCode}
use Rattle.late_decode.specs.declared.plan.Pick.{Pick}
use Rattle.late_decode.specs.declared.plan.Pick.TheVariants.{Fact, Dimension}
use Rattle.late_decode.specs.PlannedRows.{key_of}
use Rattle.order_codes.specs.Dictionary.{Classes, class_at, decoded}
use Rattle.code_group.specs.Entries.{value_at, picked_beside, has_keys, maps_in, entry_in, size_in, sizes_in, value_of_code, value_of_entry, entries_of, key_of_entries}
use Rattle.code_group.specs.Plans.{pick_there}
use Rattle.code_group.specs.Slots.{is_within}

-- ---- places in lists

-- what stands at a place that is there, whatever is given for those that aren't
pub there-at : {X : Type 0} (xs : List X) (k : ℕ) (x d : X) → k < length xs → x ≡ get_or xs k x → x ≡ get_or xs k d
there-at [] k x d lt e = absurd (omega (arith, lt))
there-at (y ∷ ys) zero x d lt e = e
there-at (y ∷ ys) (suc k) x d lt e = there-at ys k x d (omega (arith, lt)) e

pub pair-at : {X Y : Type 0} (xs : List X) (ys : List Y) (k : ℕ) (x : X) (y : Y) → k < length xs → length ys ≡ length xs → slice_get (zip xs ys) k ≡ Some (get_or xs k x, get_or ys k y)
pair-at [] ys k x y lt e = absurd (omega (arith, lt))
pair-at (x1 ∷ xs) [] k x y lt e = absurd (omega (arith, e))
pair-at (x1 ∷ xs) (y1 ∷ ys) zero x y lt e = refl
pair-at (x1 ∷ xs) (y1 ∷ ys) (suc k) x y lt e = pair-at xs ys k x y (omega (arith, lt)) (omega (arith, e))

pub length-zip : {X Y : Type 0} (xs : List X) (ys : List Y) → length ys ≡ length xs → length (zip xs ys) ≡ length xs
length-zip [] ys e = refl
length-zip (x ∷ xs) [] e = absurd (omega (arith, e))
length-zip (x ∷ xs) (y ∷ ys) e = let l = length-zip xs ys (omega (arith, e)) in omega (arith, l)

-- the value at a place of a decoded row is that of the code there
at-place : (columns : List (Classes × ℕ)) (codes : List ℕ) (k : ℕ) → length codes ≡ length columns
    → slice_index_or (map (λ (p : (Classes × ℕ) × ℕ). unwrap_or (decoded p.0.0 p.0.1 p.1) (Int (pos 0))) (zip columns codes)) k (Int (pos 0)) ≡ value_of_code (slice_get columns k) (slice_index_or codes k 0)
at-place [] [] k e = refl
at-place [] (c ∷ cs) k e = absurd (omega (arith, e))
at-place (x ∷ xs) [] k e = absurd (omega (arith, e))
at-place (x ∷ xs) (c ∷ cs) zero e = refl
at-place (x ∷ xs) (c ∷ cs) (suc k) e = at-place xs cs k (omega (arith, e))

-- ---- payloads

payload-at : (keys : Keyed) (place : ℕ) → payload_of (slice_get keys place) ≡ slice_index_or (values_of keys) place []
payload-at [] place = refl
payload-at (e ∷ es) zero = refl
payload-at (e ∷ es) (suc place) = payload-at es place

-- a payload has a value at each place that all have
pub payload-long : (keys : Keyed) (at place : ℕ) (payload : Row) → list_all (λ entry. nat_lt place (length entry.1)) keys ≡ true → slice_get (values_of keys) at ≡ Some payload → place < length payload
payload-long [] at place payload h e = cc
payload-long (k ∷ ks) zero place payload h e =
    let b = both (nat_lt place (length k.1)) (list_all (λ entry. nat_lt place (length entry.1)) ks) h in
    let same : k.1 ≡ payload = cc in
    omega (arith, ltb-true place (length k.1) b.0, ap length same)
payload-long (k ∷ ks) (suc at) place payload h e = payload-long ks at place payload (both (nat_lt place (length k.1)) (list_all (λ entry. nat_lt place (length entry.1)) ks) h).1 e

-- ---- the code of a column

-- the code of a column has the value of the decoded row there
pub class-value : (columns : List Classes) (classes codes : List ℕ) (k : ℕ) → length classes ≡ length columns → length codes ≡ length columns
    → list_all (λ (p : (Classes × ℕ) × ℕ). nat_lt p.1 (length (class_at p.0.0 p.0.1))) (zip (zip columns classes) codes) ≡ true → k < length columns
    → slice_get (cell_class columns classes k) (slice_index_or codes k 0) ≡ Some (value_at (decoded_row columns classes codes) k)
class-value [] classes codes k e f h w = absurd (omega (arith, w))
class-value (c ∷ cs) [] codes k e f h w = absurd (omega (arith, e))
class-value (c ∷ cs) (n ∷ ns) [] k e f h w = absurd (omega (arith, f))
class-value (c ∷ cs) (n ∷ ns) (x ∷ xs) zero e f h w =
    let b = both (nat_lt x (length (class_at c n))) (list_all (λ (p : (Classes × ℕ) × ℕ). nat_lt p.1 (length (class_at p.0.0 p.0.1))) (zip (zip cs ns) xs)) h in
    let there = slice_get-get_or (class_at c n) x (Int (pos 0)) (ltb-true x (length (class_at c n)) b.0) in
    there ∙ ap Some (sym (ap (λ (o : Option Value). unwrap_or o (Int (pos 0))) there))
class-value (c ∷ cs) (n ∷ ns) (x ∷ xs) (suc k) e f h w =
    class-value cs ns xs k (omega (arith, e)) (omega (arith, f)) (both (nat_lt x (length (class_at c n))) (list_all (λ (p : (Classes × ℕ) × ℕ). nat_lt p.1 (length (class_at p.0.0 p.0.1))) (zip (zip cs ns) xs)) h).1 (omega (arith, w))

-- and is below the size of its class
code-below : (columns : List Classes) (classes codes : List ℕ) (k : ℕ) → length classes ≡ length columns → length codes ≡ length columns
    → list_all (λ (p : (Classes × ℕ) × ℕ). nat_lt p.1 (length (class_at p.0.0 p.0.1))) (zip (zip columns classes) codes) ≡ true → k < length columns
    → slice_index_or codes k 0 < length (cell_class columns classes k)
code-below [] classes codes k e f h w = absurd (omega (arith, w))
code-below (c ∷ cs) [] codes k e f h w = absurd (omega (arith, e))
code-below (c ∷ cs) (n ∷ ns) [] k e f h w = absurd (omega (arith, f))
code-below (c ∷ cs) (n ∷ ns) (x ∷ xs) zero e f h w =
    ltb-true x (length (class_at c n)) (both (nat_lt x (length (class_at c n))) (list_all (λ (p : (Classes × ℕ) × ℕ). nat_lt p.1 (length (class_at p.0.0 p.0.1))) (zip (zip cs ns) xs)) h).0
code-below (c ∷ cs) (n ∷ ns) (x ∷ xs) (suc k) e f h w =
    code-below cs ns xs k (omega (arith, e)) (omega (arith, f)) (both (nat_lt x (length (class_at c n))) (list_all (λ (p : (Classes × ℕ) × ℕ). nat_lt p.1 (length (class_at p.0.0 p.0.1))) (zip (zip cs ns) xs)) h).1 (omega (arith, w))

-- ---- a row of codes

module _ (by_place : EntriesByPlace) (by_code : PlacesByCode) where
  payload-found : (keys : Keyed) (v : Value) → is_key keys v ≡ true → payload_of (entry_at keys v) ≡ slice_index_or (values_of keys) (unwrap_or (place_of_key keys v) 0) []
  payload-found keys v there = ap payload_of (by_place keys v) ∙ by (place_of_key keys v) there
    where
      by : (o : Option ℕ) → is_some o ≡ true → payload_of (option_and_then (slice_get keys) o) ≡ slice_index_or (values_of keys) (unwrap_or o 0) []
      by None h = absurd (true≢false (sym h))
      by (Some place) h = payload-at keys place

  module _ (columns : List Classes) (classes : List ℕ) (full : length classes ≡ length columns) (codes : List ℕ) (good : are_codes columns classes codes ≡ true) where
    abbrev row : Row
    row = decoded_row columns classes codes

    abbrev below : (Classes × ℕ) × ℕ → Bool
    below p = nat_lt p.1 (length (class_at p.0.0 p.0.1))

    parts : (length codes ≡ length columns) × (list_all below (zip (zip columns classes) codes) ≡ true)
    parts =
        let b = both (length codes == length columns) (list_all below (zip (zip columns classes) codes)) good in
        (eqb-true (length codes) (length columns) b.0, b.1)

    abbrev tied : ℕ × Keyed → Bool
    tied p = is_key p.1 (value_at row p.0)

    abbrev in_columns : ℕ → Bool
    in_columns k = nat_lt k (length columns)

    -- the place of a tied value, where a map tells it
    tie-place : (k : Keyed) (t : ℕ) → in_columns t ≡ true → slice_index_or (map (place_of_key k) (cell_class columns classes t)) (slice_index_or codes t 0) None ≡ place_of_key k (value_at row t)
    tie-place k t w = by_code k (cell_class columns classes t) (slice_index_or codes t 0) (value_at row t) (class-value columns classes codes t full parts.0 parts.1 (ltb-true t (length columns) w))

    tie-at : (place : ℕ) (ties : List ℕ) (keys : List Keyed) (tie : ℕ) → length keys ≡ length ties → list_all in_columns ties ≡ true → list_all tied (zip ties keys) ≡ true
        → picked_beside ties keys row (Dimension tie place) ≡ value_of_entry columns classes keys (Dimension tie place) (entry_in ties (maps_in columns classes ties keys) codes (Dimension tie place))
    tie-at place [] [] tie e w h = refl
    tie-at place [] (k ∷ keys) tie e w h = absurd (omega (arith, e))
    tie-at place (t ∷ ties) [] tie e w h = absurd (omega (arith, e))
    tie-at place (t ∷ ties) (k ∷ keys) zero e w h =
        let here = tie-place k t (both (in_columns t) (list_all in_columns ties) w).0 in
        let there = (both (tied (t, k)) (list_all tied (zip ties keys)) h).0 in
        ap (λ (r : Row). value_at r place) (payload-found k (value_at row t) there ∙ ap (λ (o : Option ℕ). slice_index_or (values_of k) (unwrap_or o 0) []) (sym here))
    tie-at place (t ∷ ties) (k ∷ keys) (suc tie) e w h =
        tie-at place ties keys tie (omega (arith, e)) (both (in_columns t) (list_all in_columns ties) w).1 (both (tied (t, k)) (list_all tied (zip ties keys)) h).1

    tie-below : (place : ℕ) (ties : List ℕ) (keys : List Keyed) (tie : ℕ) → length keys ≡ length ties → list_all in_columns ties ≡ true → list_all tied (zip ties keys) ≡ true → tie < length keys
        → entry_in ties (maps_in columns classes ties keys) codes (Dimension tie place) < length (slice_index_or keys tie [])
    tie-below place [] [] tie e w h lt = absurd (omega (arith, lt))
    tie-below place [] (k ∷ keys) tie e w h lt = absurd (omega (arith, e))
    tie-below place (t ∷ ties) [] tie e w h lt = absurd (omega (arith, e))
    tie-below place (t ∷ ties) (k ∷ keys) zero e w h lt =
        let here = tie-place k t (both (in_columns t) (list_all in_columns ties) w).0 in
        let there = (both (tied (t, k)) (list_all tied (zip ties keys)) h).0 in
        subst (λ (o : Option ℕ). unwrap_or o 0 < length k) (sym here) (by (place_of_key k (value_at row t)) refl there)
      where
        by : (o : Option ℕ) → place_of_key k (value_at row t) ≡ o → is_some o ≡ true → unwrap_or o 0 < length k
        by None e h = absurd (true≢false (sym h))
        by (Some at) e h = let within = (place_is (same_value (value_at row t)) (keys_of k) at e).1 in omega (arith, within, many k)
          where
            many : (es : Keyed) → length (keys_of es) ≡ length es
            many [] = refl
            many (e ∷ es) = ap suc (many es)
    tie-below place (t ∷ ties) (k ∷ keys) (suc tie) e w h lt =
        tie-below place ties keys tie (omega (arith, e)) (both (in_columns t) (list_all in_columns ties) w).1 (both (tied (t, k)) (list_all tied (zip ties keys)) h).1 (omega (arith, lt))

    module _ (ties : List ℕ) (keys : List Keyed) (many : length keys ≡ length ties) (within : list_all (λ k. nat_lt k (length columns)) ties ≡ true) (joined : has_keys ties keys row ≡ true) where
      pub pick-is : (p : Pick) → picked_beside ties keys row p ≡ value_of_entry columns classes keys p (entry_in ties (maps_in columns classes ties keys) codes p)
      pick-is (Fact k) = at-place (zip columns classes) codes k (parts.0 ∙ sym (length-zip columns classes full))
      pick-is (Dimension tie place) = tie-at place ties keys tie many within joined

      pub key-is : (picks : List Pick) → key_of picks (picked_beside ties keys row) ≡ key_of_entries columns classes keys picks (entries_of columns classes ties keys picks codes)
      key-is [] = refl
      key-is (p ∷ picks) = λ i. pick-is p i ∷ key-is picks i

      pub entry-below : (p : Pick) → pick_there (length columns) keys p ≡ true → entry_in ties (maps_in columns classes ties keys) codes p < size_in columns classes keys p
      entry-below (Fact k) h = code-below columns classes codes k full parts.0 parts.1 (ltb-true k (length columns) h)
      entry-below (Dimension tie place) h =
          let b = both (nat_lt tie (length keys)) (list_all (λ entry. nat_lt place (length entry.1)) (slice_index_or keys tie [])) h in
          tie-below place ties keys tie many within joined (ltb-true tie (length keys) b.0)

      pub entries-within : (picks : List Pick) → list_all (pick_there (length columns) keys) picks ≡ true → is_within (sizes_in columns classes keys picks) (entries_of columns classes ties keys picks codes) ≡ true
      entries-within [] h = refl
      entries-within (p ∷ picks) h =
          let b = both (pick_there (length columns) keys p) (list_all (pick_there (length columns) keys) picks) h in
          and_both (nat_lt (entry_in ties (maps_in columns classes ties keys) codes p) (size_in columns classes keys p)) (is_within (sizes_in columns classes keys picks) (entries_of columns classes ties keys picks codes))
          (lt-ltb (entry_in ties (maps_in columns classes ties keys) codes p) (size_in columns classes keys p) (entry-below p b.0)) (entries-within picks b.1)
