-- Keys stay distinct behind others where none stands before its place.
use Rattle.std.proofs.Common.{◌≡◌, ℕ, ◌+◌, pos, get_or, Bool, true, false, not, ◌||◌, List, [], ◌∷◌, ◌++◌, take, length, Option, Some, None, find, refl, sym, ap, ◌∙◌}
use Rattle.std.specs.List.{list_any}
use Rattle.std.proofs.Math.Seq.{take-append_seam}
use Rattle.std.proofs.lemmas.Bool.{and_parts, and_from, not-true}
use Rattle.std.proofs.lemmas.List.{append_assoc, append-nil, map-append, length-append}
use Rattle.std.proofs.lemmas.List.Folds.{list_any-append}
use Rattle.blink_lists.specs.Lists.{are_distinct, numbered_from}
use Rattle.blink_base.specs.declared.value.Value.{Value}
use Rattle.blink_base.specs.declared.value.Value.TheVariants.{Int}
use Rattle.blink_base.specs.Values.{Row, same_value}
use Rattle.blink_base.specs.ValueHash.{value_equiv}
use Rattle.column_classes.specs.ColumnClasses.{column_values}
use Rattle.cell_layout.specs.Refusals.{repeated_key, duplicate_in, duplicate_of}
use Rattle.cell_layout.specs.Valid.{are_keyed}

one_behind : (xs : List Value) (y : Value) → are_distinct same_value xs ≡ true → list_any (same_value y) xs ≡ false → are_distinct same_value (xs ++ y ∷ []) ≡ true
one_behind [] y each new = refl
one_behind (x ∷ xs) y each new =
    let apart = and_parts (not (list_any (same_value x) xs)) (are_distinct same_value xs) each in
    let no_x = not-true (list_any (same_value x) xs) apart.0 in
    by (same_value y x) refl new no_x (one_behind xs y apart.1)
  where
    by : (b : Bool) → same_value y x ≡ b → (same_value y x || list_any (same_value y) xs) ≡ false → list_any (same_value x) xs ≡ false → (list_any (same_value y) xs ≡ false → are_distinct same_value (xs ++ y ∷ []) ≡ true) → are_distinct same_value ((x ∷ xs) ++ y ∷ []) ≡ true
    by true e new no_x rest = let h : true ≡ false = sym (ap (λ b. b || list_any (same_value y) xs) e) ∙ new in cc
    by false e new no_x rest =
        let other : list_any (same_value y) xs ≡ false = sym (ap (λ b. b || list_any (same_value y) xs) e) ∙ new in
        let turned : same_value x y ≡ false = value_equiv.symm x y ∙ e in
        let none : list_any (same_value x) (xs ++ y ∷ []) ≡ false = list_any-append (same_value x) xs (y ∷ []) ∙ rw (no_x, turned) refl in
        and_from (not (list_any (same_value x) (xs ++ y ∷ []))) (are_distinct same_value (xs ++ y ∷ [])) (ap not none) (rest other)

distinct_behind : (held front keys : List Value) → are_distinct same_value (held ++ front) ≡ true
    → find (λ (p : ℕ × Value). list_any (same_value p.1) (held ++ take p.0 (front ++ keys))) (numbered_from (length front) keys) ≡ None → are_distinct same_value (held ++ (front ++ keys)) ≡ true
distinct_behind held front [] each none = ap (λ l. are_distinct same_value (held ++ l)) (append-nil front) ∙ each
distinct_behind held front (k ∷ keys) each none = by (list_any (same_value k) (held ++ take (length front) (front ++ k ∷ keys))) refl (distinct_behind held (front ++ k ∷ []) keys)
  where
    by : (b : Bool) → list_any (same_value k) (held ++ take (length front) (front ++ k ∷ keys)) ≡ b
        → (are_distinct same_value (held ++ (front ++ k ∷ [])) ≡ true → find (λ (p : ℕ × Value). list_any (same_value p.1) (held ++ take p.0 ((front ++ k ∷ []) ++ keys))) (numbered_from (length (front ++ k ∷ [])) keys) ≡ None
        → are_distinct same_value (held ++ ((front ++ k ∷ []) ++ keys)) ≡ true) → are_distinct same_value (held ++ (front ++ k ∷ keys)) ≡ true
    by true e rest =
        let hit : find (λ (p : ℕ × Value). list_any (same_value p.1) (held ++ take p.0 (front ++ k ∷ keys))) (numbered_from (length front) (k ∷ keys)) ≡ Some (length front, k) = rw e refl in
        let no : Some (length front, k) ≡ None = sym hit ∙ none in
        cc
    by false e rest =
        let later : find (λ (p : ℕ × Value). list_any (same_value p.1) (held ++ take p.0 (front ++ k ∷ keys))) (numbered_from (length front + 1) keys) ≡ None =
        sym (let miss : find (λ (p : ℕ × Value). list_any (same_value p.1) (held ++ take p.0 (front ++ k ∷ keys))) (numbered_from (length front) (k ∷ keys)) ≡ find (λ (p : ℕ × Value). list_any (same_value p.1) (held ++ take p.0 (front ++ k ∷ keys))) (numbered_from (length front + 1) keys) = rw e refl in miss) ∙ none in
        let new : list_any (same_value k) (held ++ front) ≡ false = sym (ap (λ l. list_any (same_value k) (held ++ l)) (take-append_seam front (k ∷ keys))) ∙ e in
        let more : are_distinct same_value (held ++ (front ++ k ∷ [])) ≡ true = ap (are_distinct same_value) (sym (append_assoc held front (k ∷ []))) ∙ one_behind (held ++ front) k each new in
        let whole : (front ++ k ∷ []) ++ keys ≡ front ++ k ∷ keys = append_assoc front (k ∷ []) keys in
        let long : length (front ++ k ∷ []) ≡ length front + 1 = length-append front (k ∷ []) in
        let left : find (λ (p : ℕ × Value). list_any (same_value p.1) (held ++ take p.0 ((front ++ k ∷ []) ++ keys))) (numbered_from (length (front ++ k ∷ [])) keys) ≡ None =
        (λ i. find (λ (p : ℕ × Value). list_any (same_value p.1) (held ++ take p.0 (whole i))) (numbered_from (long i) keys)) ∙ later in
        ap (λ l. are_distinct same_value (held ++ l)) (sym whole) ∙ rest more left

-- rows stay keyed behind others where none is refused
pub keyed_behind : (key : Option ℕ) (held batch : List Row) → are_keyed key held ≡ true → duplicate_in key held batch ≡ None → are_keyed key (held ++ batch) ≡ true
keyed_behind None held batch keyed none = refl
keyed_behind (Some key) held batch keyed none =
    let keys = column_values held key in
    let nothing = ap (are_distinct same_value) (append-nil (column_values held key)) ∙ keyed in
    ap (are_distinct same_value) (map-append (λ (row : Row). get_or row key (Int (pos 0))) held batch)
    ∙ distinct_behind (column_values held key) [] (column_values batch key) nothing (not_told (repeated_key (column_values held key) (column_values batch key)) none)
  where
    not_told : (found : Option (ℕ × Value)) → duplicate_of found ≡ None → found ≡ None
    not_told None e = refl
    not_told (Some p) e = cc
