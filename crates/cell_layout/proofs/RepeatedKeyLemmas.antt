-- Keys that stand before.
use Rattle.std.proofs.Common.{◌≡◌, ◌≤◌, ◌<◌, ℕ, zero, suc, ◌+◌, Bool, true, false, ◌||◌, cond, pos, List, [], ◌∷◌, ◌++◌, map, take, drop, length, get_or, slice_get, Some, None, find, count_by, unwrap_or, refl, sym, ap, ◌∙◌, arith}
use Rattle.std.specs.List.{list_any}
use Rattle.std.specs.Option.{option_or}
use Rattle.std.specs.Map.{keys_of, values_of}
use Rattle.std.proofs.lemmas.Bool.{or_parts}
use Rattle.std.proofs.lemmas.List.{append_assoc, take_all, take_more, take-append-drop, get_or-map, get_or_default, length-map, map-append}
use Rattle.std.proofs.lemmas.List.Folds.{find-append, list_any-append}
use Rattle.std.proofs.lemmas.List.Sums.{sum_by-cons, sum_by-append}
use Rattle.blink_lists.specs.Lists.{numbered}
use Rattle.blink_base.specs.declared.value.Value.{Value}
use Rattle.blink_base.specs.declared.value.Value.TheVariants.{Int}
use Rattle.blink_base.specs.Values.{Row, same_value}
use Rattle.blink_base.specs.ValueHash.{value_equiv}
use Rattle.blink_histogram.specs.Ranks.{Counted, counted, count_of, distinct_values}
use Rattle.order_codes.specs.Dictionary.{Classes, decoded}
use Rattle.cell_layout.specs.declared.cell.Cell.{Cell}
use Rattle.cell_layout.specs.declared.fault.LayoutError.TheVariants.{DuplicateKey}
use Rattle.cell_layout.specs.Image.{decoded_row}
use Rattle.column_classes.specs.ColumnClasses.{column_values}
use Rattle.cell_layout.specs.CellRepr.{IsCellRepr, row_of_codes, rows_of_codes, rows_in}
use Rattle.cell_layout.specs.Refusals.{repeated_key, duplicate_of}
use Rattle.cell_layout.proofs.CellReprLemmas.{has_codes, decoded_at, length-rows, row_at}
use Rattle.blink_lists.proofs.NumberLemmas.{numbered-at, length-numbered}
use Rattle.blink_lists.proofs.AnyLemmas.{some-count}

-- whether a key stands before its place
abbrev pub stands_before : List Value → List Value → ℕ × Value → Bool
stands_before held keys p = list_any (same_value p.1) (held ++ take p.0 keys)

module _ (held keys : List Value) where
  -- none of the first k keys stands before its place
  abbrev pub NoneOf : ℕ → Type 0
  NoneOf k = find (stands_before held keys) (take k (numbered keys)) ≡ None

  one_more : (k : ℕ) (d : Value) → k < length keys → take (k + 1) (numbered keys) ≡ take k (numbered keys) ++ (k, get_or keys k d) ∷ []
  one_more k d lt =
      let long = length-numbered 0 keys in
      let zero_k : 0 + k ≡ k = omega arith in
      take_more (numbered keys) k (0, d) (omega arith) ∙ ap (λ p. take k (numbered keys) ++ p ∷ []) (numbered-at 0 keys k d lt ∙ ap (λ j. (j, get_or keys k d)) zero_k)

  pub none_more : (k : ℕ) (d : Value) → k < length keys → NoneOf k → stands_before held keys (k, get_or keys k d) ≡ false → NoneOf (k + 1)
  none_more k d lt none new =
      let last : find (stands_before held keys) ((k, get_or keys k d) ∷ []) ≡ None = rw new refl in
      ap (find (stands_before held keys)) (one_more k d lt) ∙ find-append (stands_before held keys) (take k (numbered keys)) ((k, get_or keys k d) ∷ []) ∙ (λ i. option_or (none i) (last i))

  pub none_all : (k : ℕ) → length keys ≤ k → NoneOf k → repeated_key held keys ≡ None
  none_all k le none =
      let long = length-numbered 0 keys in
      sym (ap (find (stands_before held keys)) (take_all k (numbered keys) (omega arith))) ∙ none

  pub first_twice : (k : ℕ) (d : Value) → k < length keys → NoneOf k → stands_before held keys (k, get_or keys k d) ≡ true → repeated_key held keys ≡ Some (k, get_or keys k d)
  first_twice k d lt none twice =
      let long = length-numbered 0 keys in
      let front : find (stands_before held keys) (take (k + 1) (numbered keys)) ≡ Some (k, get_or keys k d) =
      (let last : find (stands_before held keys) ((k, get_or keys k d) ∷ []) ≡ Some (k, get_or keys k d) = rw twice refl in
      ap (find (stands_before held keys)) (one_more k d lt) ∙ find-append (stands_before held keys) (take k (numbered keys)) ((k, get_or keys k d) ∷ []) ∙ (λ i. option_or (none i) (last i))) in
      sym (ap (find (stands_before held keys)) (take-append-drop (k + 1) (numbered keys)))
      ∙ find-append (stands_before held keys) (take (k + 1) (numbered keys)) (drop (k + 1) (numbered keys))
      ∙ ap (λ o. option_or o (find (stands_before held keys) (drop (k + 1) (numbered keys)))) front

-- how often a value stands, and whether it does
none-count : {X : Type 0} (p : X → Bool) (xs : List X) → list_any p xs ≡ false → count_by p xs ≡ 0
none-count p [] none = refl
none-count p (x ∷ xs) none =
    let parts = or_parts (p x) (list_any p xs) none in
    let rest = none-count p xs parts.1 in
    sum_by-cons (λ y. cond (p y) 1 0) x xs ∙ rw parts.0 (omega arith)

pub seldom : {X : Type 0} (p : X → Bool) (xs : List X) → count_by p xs + 1 ≤ 1 → list_any p xs ≡ false
seldom p xs few = by (list_any p xs) refl
  where
    by : (b : Bool) → list_any p xs ≡ b → list_any p xs ≡ false
    by true e = let some = some-count p xs e in absurd (omega arith)
    by false e = e

pub often : {X : Type 0} (p : X → Bool) (xs : List X) → 1 < count_by p xs + 1 → list_any p xs ≡ true
often p xs many = by (list_any p xs) refl
  where
    by : (b : Bool) → list_any p xs ≡ b → list_any p xs ≡ true
    by true e = e
    by false e = let none = none-count p xs e in absurd (omega arith)

-- the count at a value's number
entry : (f : Value → ℕ) (xs : List Value) (n c : ℕ) (v : Value) → slice_get (keys_of (map (λ x. (x, f x)) xs)) n ≡ Some v → slice_get (values_of (map (λ x. (x, f x)) xs)) n ≡ Some c → c ≡ f v
entry f [] n c v key count = absurd (some_none v key)
  where
    some_none : (w : Value) → slice_get (keys_of (map (λ x. (x, f x)) [])) n ≡ Some w → ⊥
    some_none w e = cc
entry f (x ∷ xs) zero c v key count =
    let value : x ≡ v = ap (λ o. unwrap_or o x) key in
    let number : f x ≡ c = ap (λ o. unwrap_or o 0) count in
    sym number ∙ ap f value
entry f (x ∷ xs) (suc n) c v key count = entry f xs n c v key count

-- how often the key that was numbered last was numbered
pub counted_last : (column : List Value) (new : List Counted) (n c : ℕ) (v : Value) → new ≡ counted (column ++ v ∷ []) → slice_get (keys_of new) n ≡ Some v → slice_get (values_of new) n ≡ Some c → c ≡ count_by (same_value v) column + 1
counted_last column new n c v is key count =
    let key_there : slice_get (keys_of (counted (column ++ v ∷ []))) n ≡ Some v = sym (ap (λ l. slice_get (keys_of l) n) is) ∙ key in
    let count_there : slice_get (values_of (counted (column ++ v ∷ []))) n ≡ Some c = sym (ap (λ l. slice_get (values_of l) n) is) ∙ count in
    let last : count_by (same_value v) (v ∷ []) ≡ 1 = sum_by-cons (λ y. cond (same_value v y) 1 0) v [] ∙ ap (λ b. cond b 1 0 + 0) (value_equiv.refl v) in
    entry (count_of (column ++ v ∷ [])) (distinct_values (column ++ v ∷ [])) n c v key_there count_there
    ∙ sum_by-append (λ y. cond (same_value v y) 1 0) column (v ∷ []) ∙ ap (λ m. count_by (same_value v) column + m) last

-- a key of a batch, as a loop reads it
pub key_at : (batch : List Row) (key row : ℕ) (item slice : Row) (v : Value) → row < length batch → key < length (get_or batch row item) → item ≡ get_or batch row item → slice ≡ item → v ≡ get_or slice key v
    → get_or (column_values batch key) row (Int (pos 0)) ≡ v
key_at batch key row item slice v lt within is seen here =
    let same : get_or batch row item ≡ slice = sym is ∙ sym seen in
    let inside : key < length slice = rw (← same) within in
    get_or-map (λ (r : Row). get_or r key (Int (pos 0))) batch row item (Int (pos 0)) lt
    ∙ ap (λ (r : Row). get_or r key (Int (pos 0))) same ∙ get_or_default slice key (Int (pos 0)) v inside ∙ sym here

-- one more key behind those so far
pub keys_more : (held keys : List Value) (row : ℕ) (v : Value) → row < length keys → get_or keys row (Int (pos 0)) ≡ v → held ++ take (row + 1) keys ≡ (held ++ take row keys) ++ v ∷ []
keys_more held keys row v lt is =
    ap (λ l. held ++ l) (take_more keys row (Int (pos 0)) lt ∙ ap (λ x. take row keys ++ x ∷ []) is) ∙ sym (append_assoc held (take row keys) (v ∷ []))

-- a key stands before where it does among the keys of cells, or among those that are numbered
module _ (front held keys : List Value) (row : ℕ) (v : Value) (lt : row < length keys) (is : get_or keys row (Int (pos 0)) ≡ v) where
  stands_split : stands_before (front ++ held) keys (row, get_or keys row (Int (pos 0))) ≡ (list_any (same_value v) front || list_any (same_value v) (held ++ take row keys))
  stands_split =
      ap (λ w. list_any (same_value w) ((front ++ held) ++ take row keys)) is ∙ ap (list_any (same_value v)) (append_assoc front held (take row keys)) ∙ list_any-append (same_value v) front (held ++ take row keys)

  -- one that stands among the first
  pub held_here : NoneOf (front ++ held) keys row → list_any (same_value v) front ≡ true → duplicate_of (repeated_key (front ++ held) keys) ≡ Some (DuplicateKey (row + 1))
  held_here none there = ap duplicate_of (first_twice (front ++ held) keys row (Int (pos 0)) lt none (stands_split ∙ ap (λ b. b || list_any (same_value v) (held ++ take row keys)) there))

  module _ (n count : ℕ) (new : List Counted) (counts : new ≡ counted ((held ++ take row keys) ++ v ∷ [])) (key : slice_get (keys_of new) n ≡ Some v) (number : slice_get (values_of new) n ≡ Some count) where
    -- one that was numbered once is new
    pub once_here : NoneOf (front ++ held) keys row → list_any (same_value v) front ≡ false → count ≤ 1 → NoneOf (front ++ held) keys (row + 1)
    once_here none absent few =
        let last = counted_last (held ++ take row keys) new n count v counts key number in
        let seldom_here = seldom (same_value v) (held ++ take row keys) (omega arith) in
        none_more (front ++ held) keys row (Int (pos 0)) lt none (stands_split ∙ ap (λ b. b || list_any (same_value v) (held ++ take row keys)) absent ∙ seldom_here)

    -- one that was numbered before stands twice
    pub twice_here : NoneOf (front ++ held) keys row → list_any (same_value v) front ≡ false → 1 < count → duplicate_of (repeated_key (front ++ held) keys) ≡ Some (DuplicateKey (row + 1))
    twice_here none absent many =
        let last = counted_last (held ++ take row keys) new n count v counts key number in
        let often_here = often (same_value v) (held ++ take row keys) (omega arith) in
        ap duplicate_of (first_twice (front ++ held) keys row (Int (pos 0)) lt none (stands_split ∙ ap (λ b. b || list_any (same_value v) (held ++ take row keys)) absent ∙ often_here))

-- the keys of a cell, as a loop reads them
pub cell_key : (columns : List Classes) (cell : Cell) (row key : ℕ) (values : Classes) (classes : List ℕ) (code : ℕ) (v : Value) → IsCellRepr columns cell → row < cell.rows → key < length columns
    → values ≡ get_or columns key values → classes ≡ cell.classes → code ≡ get_or (row_of_codes cell.codes row) key 0 → decoded values (get_or classes key 0) code ≡ Some v
    → get_or (column_values (rows_in columns cell) key) row (Int (pos 0)) ≡ v
cell_key columns cell row key values classes code v repr row_in lt is at here found =
    let has = has_codes columns cell row repr row_in in
    let one : values ≡ get_or columns key [] = is ∙ get_or_default columns key values [] lt in
    let value = decoded_at columns cell row key v (Int (pos 0)) has lt (rw (one, at, here) at found) in
    let long = length-rows cell.codes cell.rows in
    let all = length-map (rows_of_codes cell.codes cell.rows) (decoded_row columns cell.classes) in
    get_or-map (λ (r : Row). get_or r key (Int (pos 0))) (rows_in columns cell) row [] (Int (pos 0)) (omega arith)
    ∙ ap (λ (r : Row). get_or r key (Int (pos 0)))
    (get_or-map (decoded_row columns cell.classes) (rows_of_codes cell.codes cell.rows) row [] [] (omega arith) ∙ ap (decoded_row columns cell.classes) (row_at cell.codes cell.rows row [] row_in))
    ∙ value

pub length-keys : (rows : List Row) (key : ℕ) → length (column_values rows key) ≡ length rows
length-keys rows key = length-map rows (λ (r : Row). get_or r key (Int (pos 0)))

-- the keys of rows, and those of others behind them
pub keys-append : (rows more : List Row) (key : ℕ) → column_values (rows ++ more) key ≡ column_values rows key ++ column_values more key
keys-append rows more key = map-append (λ (r : Row). get_or r key (Int (pos 0))) rows more
