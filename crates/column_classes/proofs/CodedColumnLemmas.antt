-- The places of a column's values, written class by class.
use Rattle.std.proofs.Common.{◌≡◌, ◌≢◌, ◌<◌, ◌≤◌, ◌⊎◌, ◌||◌, inl, inr, ℕ, zero, suc, ◌+◌, Bool, true, false, map, IsTrue, List, [], ◌∷◌, ◌++◌, Option, Some, None, length, slice_get, get_or, position, drop, All, refl, sym, ap, subst, ◌∙◌, arith, is_some, unwrap_or, true≢false}
use Rattle.std.specs.Map.{keys_of}
use Rattle.std.specs.List.{list_any, position_or_len}
use Rattle.std.proofs.lemmas.Bool.{cases_lt}
use Rattle.std.proofs.lemmas.List.{length-map, length-append, get_or_append_left}
use Rattle.std.proofs.Math.Seq.{get_or-append_seam}
use Rattle.std.proofs.lemmas.List.Quantifiers.{position-Some}
use Rattle.std.proofs.lemmas.Option.{slice_get-get_or, slice_get_within}
use Rattle.blink_base.specs.declared.value.Value.{Value}
use Rattle.blink_base.specs.Values.{Row, same_value}
use Rattle.blink_base.specs.ValueHash.{one_value, value_equiv}
use Rattle.blink_lists.specs.Lists.{joined}
use Rattle.blink_lists.proofs.AnyLemmas.{any_joined}
use Rattle.blink_lists.proofs.FindLemmas.{no_place}
use Rattle.blink_histogram.specs.Ranks.{Counted}
use Rattle.order_codes.specs.declared.place.CodePlace.{CodePlace}
use Rattle.order_codes.specs.Codes.{DecodesFound, FindsDecoded}
use Rattle.order_codes.specs.Dictionary.{Classes, are_classes, class_at, class_of, decoded, place_of_value}
use Rattle.column_classes.specs.CodedColumn.{IsBefore, HavePlaces, first_place, places_by, ArePlacesIn, ArePlacesOf}
use Rattle.column_classes.specs.ColumnClasses.{column_values}

pub none-some : {A : Type 0} {x : A} → None ≡ Some x → ⊥
none-some e = true≢false (sym (ap is_some e))

pub some-one : {A : Type 0} {x y : A} → Some x ≡ Some y → x ≡ y
some-one {A} {x} e = ap (λ r. unwrap_or r x) e

-- what stands at the first place of a value is the value
pub value_there : (keys : List Value) (v : Value) (n : ℕ) → position (same_value v) keys ≡ Some n → slice_get keys n ≡ Some v
value_there keys v n at =
    let found = position-Some (same_value v) keys n v at in
    slice_get-get_or keys n v found.0 ∙ ap (λ k. Some k) (sym (one_value v (get_or keys n v) found.1))

-- a value's number is below the number of all
pub number_within : (counts : List Counted) (v : Value) (n : ℕ) → position (same_value v) (keys_of counts) ≡ Some n → n < length counts
number_within counts v n at = let found = (position-Some (same_value v) (keys_of counts) n v at).0 in let long = length-map counts (λ (c : Counted). c.0) in omega arith

-- the value of a code, as calls say it
pub decoded_here : (classes : Classes) (class code : ℕ) (values : List Value) (w : Value) → class < length classes → values ≡ get_or classes class values → code < length values → w ≡ get_or values code w → decoded classes class code ≡ Some w
decoded_here classes class code values w lt is less here =
    let same : get_or classes class [] ≡ values = some-one (sym (slice_get-get_or classes class [] lt) ∙ slice_get-get_or classes class values lt ∙ ap (λ x. Some x) (sym is)) in
    ap (λ x. slice_get x code) same ∙ slice_get-get_or values code w less ∙ ap (λ x. Some x) (sym here)

-- before the next code, or at it
before_or_at : (k j class code : ℕ) → IsBefore k j class (code + 1) → IsBefore k j class code ⊎ ((k ≡ class) × (j ≡ code))
before_or_at k j class code (inl less) = inl (inl less)
before_or_at k j class code (inr same) = by (cases_lt j code)
  where
    by : (j < code) ⊎ (code ≤ j) → IsBefore k j class code ⊎ ((k ≡ class) × (j ≡ code))
    by (inl less) = inl (inr (same.0, less))
    by (inr more) = let most = same.1 in inr (same.0, omega arith)

decoded_at : (classes : Classes) (k j class code : ℕ) → k ≡ class → j ≡ code → decoded classes k j ≡ decoded classes class code
decoded_at classes k j class code e f = ap (λ x. slice_get (class_at classes x) j) e ∙ ap (λ x. slice_get (class_at classes class) x) f

module _ (counts : List Counted) (classes : Classes) (places : List CodePlace) (class code : ℕ) (w : Value) (is : decoded classes class code ≡ Some w) (before : HavePlaces counts classes places class code) where
  -- a value that was not numbered has no place
  pub place_of_none : ((n : ℕ) → slice_get (keys_of counts) n ≡ Some w → ⊥) → HavePlaces counts classes places class (code + 1)
  place_of_none none n v d k j at upto dec = by (before_or_at k j class code upto)
    where
      by : IsBefore k j class code ⊎ ((k ≡ class) × (j ≡ code)) → decoded classes (get_or places n d).class (get_or places n d).code ≡ Some v
      by (inl old) = before n v d k j at old dec
      by (inr here) = absurd (none n (at ∙ sym dec ∙ decoded_at classes k j class code here.0 here.1 ∙ is))

  -- and one that was has its place written at its number
  pub place_of_one : (new : List CodePlace) (m : ℕ) (p : CodePlace) → position (same_value w) (keys_of counts) ≡ Some m
      → ((n : ℕ) → slice_get (keys_of counts) n ≡ Some w → n ≡ m)
      → decoded classes p.class p.code ≡ Some w
      → ((d : CodePlace) → get_or new m d ≡ p) → ((i : ℕ) (d : CodePlace) → i ≢ m → get_or new i d ≡ get_or places i d)
      → HavePlaces counts classes new class (code + 1)
  place_of_one new m p at_m only says here others n v d k j at upto dec = by (cases_lt n m) (cases_lt m n)
    where
      one : n ≡ m → decoded classes (get_or new n d).class (get_or new n d).code ≡ Some v
      one e =
          let there = value_there (keys_of counts) w m at_m in
          ap (λ i. decoded classes (get_or new i d).class (get_or new i d).code) e ∙ ap (λ q. decoded classes q.class q.code) (here d) ∙ says ∙ sym there ∙ ap (slice_get (keys_of counts)) (sym e) ∙ at

      other : n ≢ m → IsBefore k j class code ⊎ ((k ≡ class) × (j ≡ code)) → decoded classes (get_or new n d).class (get_or new n d).code ≡ Some v
      other ne (inl old) = ap (λ q. decoded classes q.class q.code) (others n d ne) ∙ before n v d k j at old dec
      other ne (inr now) = absurd (ne (only n (at ∙ sym dec ∙ decoded_at classes k j class code now.0 now.1 ∙ is)))

      by : (n < m) ⊎ (m ≤ n) → (m < n) ⊎ (n ≤ m) → decoded classes (get_or new n d).class (get_or new n d).code ≡ Some v
      by (inl less) b = other (λ e. omega (arith, e)) (before_or_at k j class code upto)
      by (inr more) (inl less) = other (λ e. omega (arith, e)) (before_or_at k j class code upto)
      by (inr more) (inr most) = one (omega arith)

-- all codes of a class are before the next class
pub places_behind : (counts : List Counted) (classes : Classes) (places : List CodePlace) (class : ℕ) → HavePlaces counts classes places class (length (class_at classes class)) → HavePlaces counts classes places (class + 1) 0
places_behind counts classes places class have n v d k j at (inl less) dec = by (cases_lt k class)
  where
    by : (k < class) ⊎ (class ≤ k) → decoded classes (get_or places n d).class (get_or places n d).code ≡ Some v
    by (inl lower) = have n v d k j at (inl lower) dec
    by (inr more) =
        let same : k ≡ class = omega arith in
        let within = slice_get_within (class_at classes k) j v dec in
        have n v d k j at (inr (same, subst (λ x. j < length (class_at classes x)) same within)) dec
places_behind counts classes places class have n v d k j at (inr same) dec = absurd (let none = same.1 in omega arith)

-- the places of all classes, under another name of the counts
pub all_placed : (known counts : List Counted) (classes : Classes) (places : List CodePlace) (class : ℕ) → known ≡ counts → class ≡ length classes → HavePlaces known classes places class 0
    → HavePlaces counts classes places (length classes) 0
all_placed known counts classes places class is end placed = subst (λ l. HavePlaces l classes places (length classes) 0) is (subst (λ n. HavePlaces known classes places n 0) end placed)

pub any_at : {X : Type 0} (p : X → Bool) (xs : List X) (n : ℕ) (x : X) → slice_get xs n ≡ Some x → p x ≡ true → list_any p xs ≡ true
any_at p [] n x at is = absurd (none-some at)
any_at p (y ∷ ys) zero x at is = rw (ap p (some-one at) ∙ is) refl
any_at p (y ∷ ys) (suc n) x at is = ap (λ b. p y || b) (any_at p ys n x at is) ∙ or-true (p y)
  where
    or-true : (b : Bool) → (b || true) ≡ true
    or-true true = refl
    or-true false = refl

any_none : {X : Type 0} (p : X → Bool) (xs : List X) → length xs ≤ position_or_len p xs → list_any p xs ≡ false
any_none p [] le = refl
any_none p (x ∷ xs) le = by (p x) refl (any_none p xs)
  where
    by : (b : Bool) → p x ≡ b → (length xs ≤ position_or_len p xs → list_any p xs ≡ false) → list_any p (x ∷ xs) ≡ false
    by true e more = let at : position_or_len p (x ∷ xs) ≡ 0 = rw e refl in absurd (omega (arith, le, at))
    by false e more =
        let at : position_or_len p (x ∷ xs) ≡ suc (position_or_len p xs) = rw e (omega arith) in
        rw e (more (omega (arith, le, at)))

-- a value has a place where it is in some class
place_of_some : (classes : Classes) (v : Value) → is_some (place_of_value classes v) ≡ list_any (same_value v) (joined classes)
place_of_some classes v = by (class_of classes v) refl ∙ sym (any_joined (same_value v) classes)
  where
    holds : List Value → Bool
    holds values = list_any (same_value v) values

    by : (o : Option ℕ) → class_of classes v ≡ o → is_some (place_of_value classes v) ≡ list_any (list_any (same_value v)) classes
    by None e = rw e (sym (any_none holds classes (no_place holds classes e)))
    by (Some k) e =
        let at = position-Some holds classes k [] e in
        rw e (sym (any_at holds classes k (get_or classes k []) (slice_get-get_or classes k [] at.0) at.1))

class_past : (classes : Classes) (k : ℕ) → length classes ≤ k → class_at classes k ≡ []
class_past [] k le = refl
class_past (class ∷ classes) zero le = absurd (omega arith)
class_past (class ∷ classes) (suc k) le = class_past classes k (omega arith)

-- what is decoded stands in one of the classes
class_within : (classes : Classes) (k code : ℕ) (v : Value) → decoded classes k code ≡ Some v → k < length classes
class_within classes k code v dec = by (cases_lt k (length classes))
  where
    by : (k < length classes) ⊎ (length classes ≤ k) → k < length classes
    by (inl lt) = lt
    by (inr le) =
        absurd (none-some (ap (λ l. slice_get l code) (sym (class_past classes k le)) ∙ dec))

module _ (counts : List Counted) (classes : Classes) (places : List CodePlace) (decodes : DecodesFound) (finds : FindsDecoded) (valid : IsTrue (are_classes classes))
    (all : (v : Value) → list_any (same_value v) (joined classes) ≡ list_any (same_value v) (keys_of counts)) (have : HavePlaces counts classes places (length classes) 0) where
  -- what stands at a value's number is its place
  place_made : (n : ℕ) (v : Value) (d : CodePlace) → slice_get (keys_of counts) n ≡ Some v → Some (get_or places n d) ≡ place_of_value classes v
  place_made n v d at = by (place_of_value classes v) refl
    where
      by : (o : Option CodePlace) → place_of_value classes v ≡ o → Some (get_or places n d) ≡ o
      by None f =
          let any = any_at (same_value v) (keys_of counts) n v at (value_equiv.refl v) in
          absurd (true≢false (sym any ∙ sym (all v) ∙ sym (place_of_some classes v) ∙ ap is_some f))
      by (Some q) f =
          let dec = decodes classes v q f valid in
          let here = have n v d q.class q.code at (inl (class_within classes q.class q.code v dec)) dec in
          sym (finds classes (get_or places n d).class (get_or places n d).code v here valid) ∙ f

  -- so the numbers of a column give its places
  pub places_made : (numbers : List ℕ) (column : List Value) → map (slice_get (keys_of counts)) numbers ≡ map (λ v. Some v) column → ArePlacesIn classes column (places_by places numbers)
  places_made [] [] e = refl
  places_made [] (v ∷ vs) e = let long = ap length e in absurd (omega (arith, long))
  places_made (n ∷ ns) [] e = let long = ap length e in absurd (omega (arith, long))
  places_made (n ∷ ns) (v ∷ vs) e =
      let here = place_made n v first_place (ap (λ l. get_or l 0 None) e) in
      let rest = places_made ns vs (ap (drop 1) e) in
      rw (here, rest) refl

  -- and each is that of a place
  pub numbers_within : length places ≡ length counts → (numbers : List ℕ) (column : List Value) → map (slice_get (keys_of counts)) numbers ≡ map (λ v. Some v) column → All (λ n. n < length places) numbers
  numbers_within long numbers column e = λ k d lt.
      let count = ap length e ∙ length-map column (λ (v : Value). Some v) in
      let many = length-map numbers (slice_get (keys_of counts)) in
      let keys = length-map counts (λ (c : Counted). c.0) in
      let at = number_at numbers column k d e lt in
      let within = slice_get_within (keys_of counts) (get_or numbers k d) at.0 at.1 in
      omega (arith, within, keys, long)
    where
      number_at : (numbers : List ℕ) (column : List Value) (k d : ℕ) → map (slice_get (keys_of counts)) numbers ≡ map (λ v. Some v) column → k < length numbers → (v : Value) × (slice_get (keys_of counts) (get_or numbers k d) ≡ Some v)
      number_at [] column k d e lt = absurd (omega (arith, lt))
      number_at (n ∷ ns) [] k d e lt = let long = ap length e in absurd (omega (arith, long))
      number_at (n ∷ ns) (v ∷ vs) zero d e lt = (v, ap (λ l. get_or l 0 None) e)
      number_at (n ∷ ns) (v ∷ vs) (suc k) d e lt = number_at ns vs k d (ap (drop 1) e) (omega arith)

-- no column, and no places
pub no_places : (rows : List Row) → ArePlacesOf rows [] []
no_places rows = (refl, λ k c p lt. absurd (omega (arith, lt)))

-- one more column with its places
pub places_more : (rows : List Row) (columns more : List Classes) (places longer : List (List CodePlace)) (classes : Classes) (column : List Value) (here : List CodePlace) → column ≡ column_values rows (length columns)
    → ArePlacesOf rows columns places → ArePlacesIn classes column here → more ≡ columns ++ classes ∷ [] → longer ≡ places ++ here ∷ [] → ArePlacesOf rows more longer
places_more rows columns more places longer classes column here of are is pushed behind = subst (λ l. ArePlacesOf rows l longer) (sym pushed) (subst (ArePlacesOf rows (columns ++ classes ∷ [])) (sym behind) (
  length-append places (here ∷ []) ∙ ap (λ n. n + 1) are.0 ∙ sym (length-append columns (classes ∷ [])),
  λ k c p lt. by k c p (cases_lt k (length columns)) lt,
))
  where
    by : (k : ℕ) (c : Classes) (p : List CodePlace) → (k < length columns) ⊎ (length columns ≤ k) → k < length (columns ++ classes ∷ []) → ArePlacesIn (get_or (columns ++ classes ∷ []) k c) (column_values rows k) (get_or (places ++ here ∷ []) k p)
    by k c p (inl less) lt =
        let same = are.0 in
        subst (λ x. ArePlacesIn x (column_values rows k) (get_or (places ++ here ∷ []) k p)) (sym (get_or_append_left columns (classes ∷ []) c k (omega arith)))
        (subst (ArePlacesIn (get_or columns k c) (column_values rows k)) (sym (get_or_append_left places (here ∷ []) p k (omega arith))) (are.1 k c p less))
    by k c p (inr above) lt =
        let same = are.0 in
        let long = length-append columns (classes ∷ []) in
        let at : k ≡ length columns = omega arith in
        let there : k ≡ length places = omega arith in
        subst (λ x. ArePlacesIn x (column_values rows k) (get_or (places ++ here ∷ []) k p)) (sym (ap (λ j. get_or (columns ++ classes ∷ []) j c) at ∙ get_or-append_seam columns classes [] c))
        (subst (ArePlacesIn classes (column_values rows k)) (sym (ap (λ j. get_or (places ++ here ∷ []) j p) there ∙ get_or-append_seam places here [] p))
        (subst (λ l. ArePlacesIn classes l here) (of ∙ ap (column_values rows) (sym at)) is))
