-- The line that a group gives is that of its combinations.
use Rattle.std.proofs.Common.{◌≡◌, ℕ, suc, pos, ◌+◌, ◌==◌, Bool, true, false, ◌&&◌, List, [], ◌∷◌, ◌++◌, map, length, slice_index_or, Some, refl, sym, ap, ◌∙◌, true≢false, arith, append_assoc, length-append, ◌⊎◌, inl, inr}
use Rattle.std.specs.Option.{option_map_or}
use Rattle.std.specs.List.{list_any, list_all, position_or_len}
use Rattle.std.specs.Ordering.{is_le}
use Rattle.std.specs.declared.cmp.Ordering.{Ordering}
use Rattle.std.proofs.Math.Seq.{get_or-append_seam}
use Rattle.std.proofs.lemmas.Bool.{eqb-true}
use Rattle.blink_base.specs.declared.value.Value.{Value}
use Rattle.blink_base.specs.declared.value.Value.TheVariants.{Int}
use Rattle.blink_base.specs.declared.answer.Field.{Field}
use Rattle.blink_base.specs.Values.{Row, value_cmp, same_row}
use Rattle.blink_base.specs.Lines.{field_of, field_if_some, least_field, TellsRows}
use Rattle.blink_lists.specs.Lists.{numbered_from, put_in_order, in_order, first_of}
use Rattle.blink_lists.proofs.BoolLemmas.{all_both}
use Rattle.blink_lists.proofs.GroupLemmas.{both}
use Rattle.star_meaning.specs.Names.{Combination}
use Rattle.star_bind.specs.declared.query.ColumnRef.{ColumnRef}
use Rattle.star_bind.specs.declared.query.BoundItem.{BoundItem}
use Rattle.star_bind.specs.declared.query.BoundItem.TheVariants.{Column, Count, Sum, Average, Least, Greatest}
use Rattle.star_bind.specs.declared.query.Query.{Query}
use Rattle.star_bind.specs.BoundAnswer.{ref_value, bound_value, bound_line, is_total}
use Rattle.late_decode.specs.declared.plan.Measure.{Measure}
use Rattle.late_decode.specs.declared.plan.Measure.TheVariants as measure
use Rattle.late_decode.specs.declared.plan.Part.{Part}
use Rattle.late_decode.specs.GroupLines.{measure_field, slot_field, group_line}
use Rattle.late_decode.specs.Parts.{Picked, no_part, part_over, parts_over}
use Rattle.star_select.specs.GroupAnswer.{stands_in}
use Rattle.star_select.specs.Picks.{item_refs, same_ref, pick_of}
use Rattle.star_select.specs.QueryPlan.{measure_of, measures_if, group_place, slot_of, slots_if}
use Rattle.star_select.proofs.ItemLemmas.{measured}

-- ---- lists

pub map-map : {X Y Z : Type 0} (f : Y → Z) (g : X → Y) (xs : List X) → map f (map g xs) ≡ map (λ x. f (g x)) xs
map-map f g [] = refl
map-map f g (x ∷ xs) = ap (λ l. f (g x) ∷ l) (map-map f g xs)

pub map-alike : {X Y : Type 0} (f g : X → Y) → ((x : X) → f x ≡ g x) → (xs : List X) → map f xs ≡ map g xs
map-alike f g same [] = refl
map-alike f g same (x ∷ xs) = λ i. same x i ∷ map-alike f g same xs i

-- two functions that agree where a test passes
pub map-where : {X Y : Type 0} (p : X → Bool) (f g : X → Y) → ((x : X) → p x ≡ true → f x ≡ g x) → (xs : List X) → list_all p xs ≡ true → map f xs ≡ map g xs
map-where p f g same [] h = refl
map-where p f g same (x ∷ xs) h = let b = both (p x) (list_all p xs) h in λ i. same x b.0 i ∷ map-where p f g same xs b.1 i

pub seam : {X : Type 0} (xs : List X) (y : X) (ys : List X) (d : X) (n : ℕ) → length xs ≡ n → slice_index_or (xs ++ y ∷ ys) n d ≡ y
seam xs y ys d n e = ap (λ k. slice_index_or (xs ++ y ∷ ys) k d) (sym e) ∙ get_or-append_seam xs y ys d

-- elements by their places in two lists that hold what is made of each
module _ {A M P F : Type 0} (g : A → M) (q : A → P) (h : M → P → A → F) (dm : M) (dp : P) where
  at-places : (xs : List A) (ms : List M) (ps : List P) (n : ℕ) → length ms ≡ n → length ps ≡ n
      → map (λ p. h (slice_index_or (ms ++ map g xs) p.0 dm) (slice_index_or (ps ++ map q xs) p.0 dp) p.1) (numbered_from n xs) ≡ map (λ x. h (g x) (q x) x) xs
  at-places [] ms ps n e k = refl
  at-places (x ∷ xs) ms ps n e k =
      let longer : length (ms ++ g x ∷ []) ≡ n + 1 = length-append ms (g x ∷ []) ∙ ap (λ j. j + 1) e in
      let further : length (ps ++ q x ∷ []) ≡ n + 1 = length-append ps (q x ∷ []) ∙ ap (λ j. j + 1) k in
      let rest = at-places xs (ms ++ g x ∷ []) (ps ++ q x ∷ []) (n + 1) longer further in
      let moved : map (λ p. h (slice_index_or (ms ++ g x ∷ map g xs) p.0 dm) (slice_index_or (ps ++ q x ∷ map q xs) p.0 dp) p.1) (numbered_from (n + 1) xs)
      ≡ map (λ p. h (slice_index_or ((ms ++ g x ∷ []) ++ map g xs) p.0 dm) (slice_index_or ((ps ++ q x ∷ []) ++ map q xs) p.0 dp) p.1) (numbered_from (n + 1) xs)
      = λ i. map (λ (p : ℕ × A). h (slice_index_or (sym (append_assoc ms (g x ∷ []) (map g xs)) i) p.0 dm) (slice_index_or (sym (append_assoc ps (q x ∷ []) (map q xs)) i) p.0 dp) p.1) (numbered_from (n + 1) xs) in
      let first : h (slice_index_or (ms ++ g x ∷ map g xs) n dm) (slice_index_or (ps ++ q x ∷ map q xs) n dp) x ≡ h (g x) (q x) x
      = λ i. h (seam ms (g x) (map g xs) dm n e i) (seam ps (q x) (map q xs) dp n k i) x in
      let whole = moved ∙ rest in
      λ i. first i ∷ whole i

next : {X : Type 0} (x : X) (xs : List X) (n m : ℕ) (d : X) → m ≡ suc n → slice_index_or (x ∷ xs) m d ≡ slice_index_or xs n d
next x xs n m d e = ap (λ k. slice_index_or (x ∷ xs) k d) e

-- what is made of the first element that passes
looked-up : {A Y : Type 0} (p : A → Bool) (f : A → Y) (d : Y) (xs : List A) → list_any p xs ≡ true → (a : A) × (p a ≡ true) × (slice_index_or (map f xs) (position_or_len p xs) d ≡ f a)
looked-up p f d [] h = absurd (true≢false (sym h))
looked-up {A} {Y} p f d (x ∷ xs) h = by (p x) refl h (looked-up p f d xs)
  where
    by : (b : Bool) → p x ≡ b → list_any p (x ∷ xs) ≡ true → (list_any p xs ≡ true → (a : A) × (p a ≡ true) × (slice_index_or (map f xs) (position_or_len p xs) d ≡ f a))
        → (a : A) × (p a ≡ true) × (slice_index_or (map f (x ∷ xs)) (position_or_len p (x ∷ xs)) d ≡ f a)
    by true e k r = (x, e, rw e refl)
    by false e k r =
        let found = r (rw e at k) in
        (found.0, found.1, rw e (next (f x) (map f xs) (position_or_len p xs) (1 + position_or_len p xs) d (omega arith) ∙ found.2))

-- ---- values that are all one

put-first : (cmp : Value → Value → Ordering) (v x : Value) (ys : List Value) → x ≡ v → ((y : Value) → first_of ys ≡ Some y → y ≡ v) → first_of (put_in_order cmp x ys) ≡ Some v
put-first cmp v x [] e h = ap (λ z. Some z) e
put-first cmp v x (y ∷ ys) e h = by (is_le (cmp x y)) refl
  where
    by : (b : Bool) → is_le (cmp x y) ≡ b → first_of (put_in_order cmp x (y ∷ ys)) ≡ Some v
    by true k = rw (put_in_order, k) (ap (λ z. Some z) e)
    by false k = rw (put_in_order, k) (ap (λ z. Some z) (h y refl))

-- values of elements that pass, where these have one value
least-first : {X : Type 0} (p : X → Bool) (f : X → Value) (v : Value) → ((x : X) → p x ≡ true → f x ≡ v) → (x : X) (xs : List X) → list_all p (x ∷ xs) ≡ true → first_of (in_order value_cmp (map f (x ∷ xs))) ≡ Some v
least-first p f v same x [] h = ap (λ z. Some z) (same x (both (p x) true h).0)
least-first p f v same x (y ∷ ys) h =
    let b = both (p x) (list_all p (y ∷ ys)) h in
    put-first value_cmp v (f x) (in_order value_cmp (map f (y ∷ ys))) (same x b.0) (λ z e. ap (λ o. option_map_or (λ w. w) o v) (sym e ∙ least-first p f v same y ys b.1))

-- ---- columns

pub same_ref-one : (a b : ColumnRef) → same_ref a b ≡ true → a ≡ b
same_ref-one a b e = let k = both (a.table == b.table) (a.column == b.column) e in λ i. record { table = eqb-true a.table b.table k.0 i; column = eqb-true a.column b.column k.1 i }

-- what an item shows, over a group of this key
abbrev shown : List ColumnRef → Row → Measure → Part → BoundItem → Field
shown groups key m part (Column r) = field_of (slice_index_or key (group_place groups r) (Int (pos 0)))
shown groups key m part Count = measure_field m part
shown groups key m part (Sum e) = measure_field m part
shown groups key m part (Average e) = measure_field m part
shown groups key m part (Least r) = measure_field m part
shown groups key m part (Greatest r) = measure_field m part

slot-shown : (groups : List ColumnRef) (measures : List Measure) (key : Row) (parts : List Part) (n : ℕ) (i : BoundItem)
    → slot_field measures (key, parts) (slot_of groups n i) ≡ shown groups key (slice_index_or measures n measure.Count) (slice_index_or parts n no_part) i
slot-shown groups measures key parts n (Column r) = refl
slot-shown groups measures key parts n Count = refl
slot-shown groups measures key parts n (Sum e) = refl
slot-shown groups measures key parts n (Average e) = refl
slot-shown groups measures key parts n (Least r) = refl
slot-shown groups measures key parts n (Greatest r) = refl

-- the line of a group with these rows, item by item
line-shown : (query : Query) (key : Row) (rows : List Picked)
    → group_line (measures_if false query) (slots_if false query) (key, parts_over (measures_if false query) rows)
    ≡ map (λ i. shown query.groups key (measure_of query i) (part_over (measure_of query i) rows) i) query.items
line-shown query key rows =
    let measures : List Measure = measures_if false query in
    map-map (slot_field measures (key, parts_over measures rows)) (λ (p : ℕ × BoundItem). slot_of query.groups p.0 p.1) (numbered_from 1 query.items)
    ∙ map-alike (λ (p : ℕ × BoundItem). slot_field measures (key, parts_over measures rows) (slot_of query.groups p.0 p.1))
    (λ p. shown query.groups key (slice_index_or measures p.0 measure.Count) (slice_index_or (parts_over measures rows) p.0 no_part) p.1)
    (λ p. slot-shown query.groups measures key (parts_over measures rows) p.0 p.1) (numbered_from 1 query.items)
    ∙ ap (λ (ps : List Part). map (λ (p : ℕ × BoundItem). shown query.groups key (slice_index_or measures p.0 measure.Count) (slice_index_or (part_over measure.Count rows ∷ ps) p.0 no_part) p.1) (numbered_from 1 query.items))
    (map-map (λ m. part_over m rows) (measure_of query) query.items)
    ∙ at-places (measure_of query) (λ i. part_over (measure_of query i) rows) (shown query.groups key) measure.Count no_part query.items (measure.Count ∷ []) (part_over measure.Count rows ∷ []) 1 refl refl

-- by columns whose picks are their values
module _ {X : Type 0} (query : Query) (combination : X → Combination) (picked : X → Picked) (named : ColumnRef → Bool)
    (value-is : (r : ColumnRef) → named r ≡ true → (x : X) → picked x (pick_of query r) ≡ ref_value r (combination x)) (tells : TellsRows) where
  -- the key of a row
  abbrev pub key : X → Row
  key x = map (picked x) (map (pick_of query) query.groups)

  -- whether a row is of a group
  abbrev pub is_of : Row → X → Bool
  is_of k x = same_row k (key x)

  -- a grouping column is found in the key
  in-key : (r : ColumnRef) → named r ≡ true → list_any (same_ref r) query.groups ≡ true → (x : X) → slice_index_or (key x) (group_place query.groups r) (Int (pos 0)) ≡ ref_value r (combination x)
  in-key r known among x =
      let found = looked-up (same_ref r) (λ q. picked x (pick_of query q)) (Int (pos 0)) query.groups among in
      ap (λ l. slice_index_or l (group_place query.groups r) (Int (pos 0))) (map-map (picked x) (pick_of query) query.groups)
      ∙ found.2 ∙ ap (λ q. picked x (pick_of query q)) (sym (same_ref-one r found.0 found.1)) ∙ value-is r known x

  -- its value in rows of one key
  column-is : (r : ColumnRef) → named r ≡ true → list_any (same_ref r) query.groups ≡ true → (k : Row) (xs : List X) → list_all (is_of k) xs ≡ true → (xs ≡ [] → ⊥)
      → field_of (slice_index_or k (group_place query.groups r) (Int (pos 0))) ≡ least_field (map (ref_value r) (map combination xs))
  column-is r known among k [] h some = absurd (some refl)
  column-is r known among k (x ∷ xs) h some =
      let v : Value = slice_index_or k (group_place query.groups r) (Int (pos 0)) in
      sym (ap (λ vs. least_field vs) (map-map (ref_value r) combination (x ∷ xs))
      ∙ ap field_if_some (least-first (is_of k) (λ y. ref_value r (combination y)) v
      (λ y e. sym (in-key r known among y) ∙ ap (λ l. slice_index_or l (group_place query.groups r) (Int (pos 0))) (sym (tells.one k (key y) e))) x xs h))

  -- what an item shows over rows of one key is its value: an aggregate, or a grouping column where there is a row
  shown-is : (i : BoundItem) → list_all named (item_refs i) ≡ true → stands_in query.groups i ≡ true → (k : Row) (xs : List X) → list_all (is_of k) xs ≡ true → (is_total i ≡ false → xs ≡ [] → ⊥)
      → shown query.groups k (measure_of query i) (part_over (measure_of query i) (map picked xs)) i ≡ bound_value i (map combination xs)
  shown-is (Column r) known stand k xs same some = column-is r (both (named r) true known).0 stand k xs same (some refl)
  shown-is Count known stand k xs same some = measured query combination picked named value-is Count refl known xs
  shown-is (Sum e) known stand k xs same some = measured query combination picked named value-is (Sum e) refl known xs
  shown-is (Average e) known stand k xs same some = measured query combination picked named value-is (Average e) refl known xs
  shown-is (Least r) known stand k xs same some = measured query combination picked named value-is (Least r) refl known xs
  shown-is (Greatest r) known stand k xs same some = measured query combination picked named value-is (Greatest r) refl known xs

  -- whether an item names such columns, and may stand where rows are grouped
  abbrev pub is_right : BoundItem → Bool
  is_right i = list_all named (item_refs i) && stands_in query.groups i

  -- the line of a group is that of its rows
  pub group-line : list_all is_right query.items ≡ true → (k : Row) (xs : List X) → list_all (is_of k) xs ≡ true → (list_all is_total query.items ≡ true) ⊎ (xs ≡ [] → ⊥)
      → group_line (measures_if false query) (slots_if false query) (k, parts_over (measures_if false query) (map picked xs)) ≡ bound_line query.items (map combination xs)
  group-line right k xs same some = line-shown query k (map picked xs) ∙ from some
    where
      from : (list_all is_total query.items ≡ true) ⊎ (xs ≡ [] → ⊥)
          → map (λ i. shown query.groups k (measure_of query i) (part_over (measure_of query i) (map picked xs)) i) query.items ≡ bound_line query.items (map combination xs)
      from (inr ne) =
          map-where is_right (λ i. shown query.groups k (measure_of query i) (part_over (measure_of query i) (map picked xs)) i) (λ i. bound_value i (map combination xs))
          (λ i r. let b = both (list_all named (item_refs i)) (stands_in query.groups i) r in shown-is i b.0 b.1 k xs same (λ n. ne)) query.items right
      from (inl totals) =
          map-where (λ i. is_right i && is_total i) (λ i. shown query.groups k (measure_of query i) (part_over (measure_of query i) (map picked xs)) i) (λ i. bound_value i (map combination xs))
          (λ i r.
          let c = both (is_right i) (is_total i) r in
          let b = both (list_all named (item_refs i)) (stands_in query.groups i) c.0 in
          shown-is i b.0 b.1 k xs same (λ n e. true≢false (sym c.1 ∙ n))) query.items (all_both is_right is_total query.items right totals)
