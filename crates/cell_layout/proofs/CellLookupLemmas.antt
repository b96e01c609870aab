-- The rows of cells by their class numbers.
use Rattle.std.proofs.Common.{◌≡◌, ◌<◌, ℕ, zero, suc, Bool, true, false, ◌||◌, List, [], ◌∷◌, ◌++◌, map, filter, length, get_or, set, insert, take, drop, cond, nat_le, refl, sym, ap, subst, ◌∙◌, true≢false, append_assoc, arith}
use Rattle.std.specs.List.{list_all, list_any}
use Rattle.std.specs.declared.cmp.Ordering.{Ordering}
use Rattle.std.specs.declared.cmp.Ordering.TheVariants.{Less, Equal, Greater}
use Rattle.std.specs.Ordering.{is_eq}
use Rattle.std.proofs.lemmas.Bool.{and_parts, or_from, or_parts}
use Rattle.std.proofs.lemmas.Cmp.{nat_list_cmp_total}
use Rattle.std.proofs.lemmas.Map.Lookups.{exact_bytes}
use Rattle.std.proofs.lemmas.List.{append-nil, length-map, take-append-drop}
use Rattle.std.proofs.lemmas.List.Concat.{flat_map-append}
use Rattle.std.proofs.lemmas.List.Folds.{list_all-map}
use Rattle.cell_layout.specs.Image.{CellImage, CodedRow}
use Rattle.cell_layout.specs.Layout.{cell_cmp, same_cell, cell_of, cells_of}
use Rattle.cell_layout.specs.InsertRow.{keys_in, Above, Rising}
use Rattle.cell_layout.specs.MergeCells.{rows_under, lookup}
use Rattle.blink_lists.proofs.OrderedKeyLemmas.{any-keys}
use Rattle.blink_lists.proofs.GroupLemmas.{all-imply}
use Rattle.blink_lists.proofs.AnyLemmas.{some_passing}
use Rattle.cell_layout.proofs.CellLemmas.{same_is, same_itself, cell_keys}
use Rattle.cell_layout.proofs.InsertRowLemmas.{turned, Above-below, none-above, none-there, keys-cells}
use Rattle.cell_layout.proofs.PlacedImageLemmas.{cells_rise, filled_cells}
use Rattle.cell_layout.proofs.CellIndexLemmas.{rising-from}

-- no cell has these class numbers
pub lookup-none : (k : List ℕ) (cells : List CellImage) → list_any (same_cell k) (keys_in cells) ≡ false → lookup k cells ≡ []
lookup-none k [] none = refl
lookup-none k (c ∷ cells) none =
    let parts = or_parts (same_cell k c.classes) (list_any (same_cell k) (keys_in cells)) none in
    rw parts.0 (lookup-none k cells parts.1)

lookup-other : (k : List ℕ) (c : CellImage) (cells : List CellImage) → same_cell k c.classes ≡ false → lookup k (c ∷ cells) ≡ lookup k cells
lookup-other k c cells e = rw e refl

lookup-first : (c : CellImage) (cells : List CellImage) → Above c.classes (keys_in cells) → lookup c.classes (c ∷ cells) ≡ c.rows
lookup-first c cells above = rw (same_itself c.classes, lookup-none c.classes cells (none-above c.classes (keys_in cells) above)) (append-nil c.rows)

-- each cell has a row
abbrev pub are_filled : List CellImage → Bool
are_filled cells = list_all (λ cell. nat_le 1 (length cell.rows)) cells

no_rows : (rows : List (List ℕ)) → nat_le 1 (length rows) ≡ true → rows ≡ [] → ⊥
no_rows rows some none = true≢false (sym some ∙ ap (λ (l : List (List ℕ)). nat_le 1 (length l)) none)

-- cells in order are known by the rows of all class numbers
pub same_lookups : (xs ys : List CellImage) → Rising (keys_in xs) → Rising (keys_in ys) → are_filled xs ≡ true → are_filled ys ≡ true → ((k : List ℕ) → lookup k xs ≡ lookup k ys) → xs ≡ ys
same_lookups [] [] sx sy fx fy same = refl
same_lookups [] (y ∷ ys) sx sy fx fy same =
    absurd (no_rows y.rows (and_parts (nat_le 1 (length y.rows)) (are_filled ys) fy).0 (sym (lookup-first y ys sy.0) ∙ sym (same y.classes)))
same_lookups (x ∷ xs) [] sx sy fx fy same =
    absurd (no_rows x.rows (and_parts (nat_le 1 (length x.rows)) (are_filled xs) fx).0 (sym (lookup-first x xs sx.0) ∙ same x.classes))
same_lookups (x ∷ xs) (y ∷ ys) sx sy fx fy same =
    by (cell_cmp x.classes y.classes) refl (same_lookups xs ys sx.1 sy.1 (and_parts (nat_le 1 (length x.rows)) (are_filled xs) fx).1 (and_parts (nat_le 1 (length y.rows)) (are_filled ys) fy).1)
  where
    before : (a b : CellImage) (bs : List CellImage) → cell_cmp a.classes b.classes ≡ Less → Above b.classes (keys_in bs) → lookup a.classes (b ∷ bs) ≡ []
    before a b bs less above =
        lookup-none a.classes (b ∷ bs) (or_from (same_cell a.classes b.classes) (list_any (same_cell a.classes) (keys_in bs)) (ap is_eq less) (none-above a.classes (keys_in bs) (Above-below a.classes b.classes (keys_in bs) less above)))

    by : (c : Ordering) → cell_cmp x.classes y.classes ≡ c → (((k : List ℕ) → lookup k xs ≡ lookup k ys) → xs ≡ ys) → x ∷ xs ≡ y ∷ ys
    by Less e rest = absurd (no_rows x.rows (and_parts (nat_le 1 (length x.rows)) (are_filled xs) fx).0 (sym (lookup-first x xs sx.0) ∙ same x.classes ∙ before x y ys e sy.0))
    by Greater e rest =
        absurd (no_rows y.rows (and_parts (nat_le 1 (length y.rows)) (are_filled ys) fy).0 (sym (lookup-first y ys sy.0) ∙ sym (same y.classes) ∙ before y x xs (turned x.classes y.classes Greater e) sx.0))
    by Equal e rest =
        let one : x.classes ≡ y.classes = exact_bytes x.classes y.classes e in
        let rows : x.rows ≡ y.rows = sym (lookup-first x xs sx.0) ∙ same x.classes ∙ ap (λ k. lookup k (y ∷ ys)) one ∙ lookup-first y ys sy.0 in
        let tail = rest (λ k. behind one k (same_cell k x.classes) refl) in
        λ i. let cell : CellImage = record { classes = one i; rows = rows i } in cell ∷ tail i
      where
        behind : x.classes ≡ y.classes → (k : List ℕ) (b : Bool) → same_cell k x.classes ≡ b → lookup k xs ≡ lookup k ys
        behind one k true e =
            let here = same_is k x.classes e in
            let first = none-above x.classes (keys_in xs) sx.0 in
            let second = none-above y.classes (keys_in ys) sy.0 in
            lookup-none k xs (ap (λ j. list_any (same_cell j) (keys_in xs)) here ∙ first)
            ∙ sym (lookup-none k ys (ap (λ j. list_any (same_cell j) (keys_in ys)) (here ∙ one) ∙ second))
        behind one k false e = sym (lookup-other k x xs e) ∙ same k ∙ lookup-other k y ys (ap (same_cell k) (sym one) ∙ e)

-- the codes of the rows of these class numbers
abbrev pub own_codes : List ℕ → List CodedRow → List (List ℕ)
own_codes k rows = map (λ r. r.codes) (filter (λ r. same_cell k r.classes) rows)

lookup-own : (rows : List CodedRow) (k : List ℕ) (ts : List (List ℕ)) → Rising ts → list_any (same_cell k) ts ≡ true → lookup k (map (cell_of rows) ts) ≡ own_codes k rows
lookup-own rows k [] s any = absurd (true≢false (sym any))
lookup-own rows k (y ∷ ts) s any = by (same_cell k y) refl (lookup-own rows k ts s.1)
  where
    by : (b : Bool) → same_cell k y ≡ b → (list_any (same_cell k) ts ≡ true → lookup k (map (cell_of rows) ts) ≡ own_codes k rows) → lookup k (map (cell_of rows) (y ∷ ts)) ≡ own_codes k rows
    by true e rest =
        let here = same_is k y e in
        let none = ap (list_any (same_cell y)) (keys-cells rows ts) ∙ none-above y ts s.0 in
        ap (λ j. lookup j (map (cell_of rows) (y ∷ ts))) here
        ∙ rw (same_itself y, lookup-none y (map (cell_of rows) ts) none) (append-nil (own_codes y rows)) ∙ ap (λ j. own_codes j rows) (sym here)
    by false e rest = lookup-other k (cell_of rows y) (map (cell_of rows) ts) e ∙ rest (ap (λ b. b || list_any (same_cell k) ts) (sym e) ∙ any)

pub lookup-cells : (k : List ℕ) (rows : List CodedRow) → lookup k (cells_of rows) ≡ own_codes k rows
lookup-cells k rows = by (list_any (same_cell k) (map (λ (r : CodedRow). r.classes) rows)) refl
  where
    there : list_any (same_cell k) (cell_keys rows) ≡ list_any (same_cell k) (map (λ (r : CodedRow). r.classes) rows)
    there = any-keys cell_cmp nat_list_cmp_total exact_bytes k (map (λ (r : CodedRow). r.classes) rows)

    rising : Rising (cell_keys rows)
    rising = subst Rising (keys-cells rows (cell_keys rows)) (rising-from (keys_in (cells_of rows)) (cells_rise rows))

    by : (b : Bool) → list_any (same_cell k) (map (λ (r : CodedRow). r.classes) rows) ≡ b → lookup k (cells_of rows) ≡ own_codes k rows
    by true e = lookup-own rows k (cell_keys rows) rising (there ∙ e)
    by false e =
        lookup-none k (cells_of rows) (ap (list_any (same_cell k)) (keys-cells rows (cell_keys rows)) ∙ there ∙ e)
        ∙ sym (ap (map (λ (r : CodedRow). r.codes)) (none-there k rows e))

-- each cell of rows has a row
pub cells_filled : (rows : List CodedRow) → are_filled (cells_of rows) ≡ true
cells_filled rows =
    list_all-map (λ (cell : CellImage). nat_le 1 (length cell.rows)) (cell_of rows) (cell_keys rows)
    ∙ all-imply (λ k. list_any (λ (r : CodedRow). same_cell k r.classes) rows) (λ k. nat_le 1 (length (own_codes k rows)))
    (λ k h. ap (nat_le 1) (length-map (filter (λ (r : CodedRow). same_cell k r.classes) rows) (λ (r : CodedRow). r.codes)) ∙ some_passing (λ (r : CodedRow). same_cell k r.classes) rows h)
    (cell_keys rows) (filled_cells rows)

-- further rows in a cell that is there
pub lookup-set : (k : List ℕ) (cells : List CellImage) (i : ℕ) (d new : CellImage) (more : List (List ℕ)) → Rising (keys_in cells) → i < length cells → new.classes ≡ (get_or cells i d).classes → new.rows ≡ (get_or cells i d).rows ++ more
    → lookup k (set cells i new) ≡ lookup k cells ++ cond (same_cell k new.classes) more []
lookup-set k [] i d new more s lt same rows = absurd (omega arith)
lookup-set k (c ∷ cells) zero d new more s lt same rows = by (same_cell k c.classes) refl
  where
    by : (b : Bool) → same_cell k c.classes ≡ b → lookup k (new ∷ cells) ≡ lookup k (c ∷ cells) ++ cond (same_cell k new.classes) more []
    by true e =
        let here = same_is k c.classes e in
        let new_same : same_cell k new.classes ≡ true = ap (same_cell k) same ∙ e in
        let none = lookup-none k cells (ap (λ j. list_any (same_cell j) (keys_in cells)) here ∙ none-above c.classes (keys_in cells) s.0) in
        rw (new_same, e, none) (append-nil new.rows ∙ rows ∙ ap (λ l. l ++ more) (sym (append-nil c.rows)))
    by false e =
        let new_other : same_cell k new.classes ≡ false = ap (same_cell k) same ∙ e in
        rw (new_other, e) (sym (append-nil (lookup k cells)))
lookup-set k (c ∷ cells) (suc i) d new more s lt same rows =
    ap (λ l. rows_under k c ++ l) (lookup-set k cells i d new more s.1 (omega arith) same rows)
    ∙ sym (append_assoc (rows_under k c) (lookup k cells) (cond (same_cell k new.classes) more []))

left_nil : {X : Type 0} (xs ys : List X) → xs ++ ys ≡ [] → xs ≡ []
left_nil [] ys e = refl
left_nil (x ∷ xs) ys e = cc

right_nil : {X : Type 0} (xs ys : List X) → xs ++ ys ≡ [] → ys ≡ []
right_nil [] ys e = e
right_nil (x ∷ xs) ys e = cc

any-none : (k : List ℕ) (ks : List (List ℕ)) → ((i : ℕ) → i < length ks → same_cell k (get_or ks i []) ≡ false) → list_any (same_cell k) ks ≡ false
any-none k [] none = refl
any-none k (x ∷ ks) none = or_from (same_cell k x) (list_any (same_cell k) ks) (none 0 (omega arith)) (any-none k ks (λ i lt. none (suc i) (omega arith)))

-- a cell of other class numbers
pub lookup-insert : (k : List ℕ) (cells : List CellImage) (i : ℕ) (new : CellImage) → ((j : ℕ) → j < length cells → same_cell new.classes (get_or (keys_in cells) j []) ≡ false)
    → lookup k (insert cells i new) ≡ lookup k cells ++ rows_under k new
lookup-insert k cells i new other = by (same_cell k new.classes) refl
  where
    none : list_any (same_cell new.classes) (keys_in cells) ≡ false
    none = any-none new.classes (keys_in cells) (λ j lt. other j (let n = length-map cells (λ (c : CellImage). c.classes) in omega arith))

    whole : lookup k (take i cells) ++ lookup k (drop i cells) ≡ lookup k cells
    whole = sym (flat_map-append (rows_under k) (take i cells) (drop i cells)) ∙ ap (lookup k) (take-append-drop i cells)

    split : lookup k (insert cells i new) ≡ lookup k (take i cells) ++ (rows_under k new ++ lookup k (drop i cells))
    split = flat_map-append (rows_under k) (take i cells) (new ∷ drop i cells)

    by : (b : Bool) → same_cell k new.classes ≡ b → lookup k (insert cells i new) ≡ lookup k cells ++ rows_under k new
    by true e =
        let all : lookup k cells ≡ [] = lookup-none k cells (ap (λ j. list_any (same_cell j) (keys_in cells)) (same_is k new.classes e) ∙ none) in
        let front : lookup k (take i cells) ≡ [] = left_nil (lookup k (take i cells)) (lookup k (drop i cells)) (whole ∙ all) in
        let back : lookup k (drop i cells) ≡ [] = right_nil (lookup k (take i cells)) (lookup k (drop i cells)) (whole ∙ all) in
        split ∙ rw (front, back, all) (append-nil (rows_under k new))
    by false e = split ∙ rw e (whole ∙ sym (append-nil (lookup k cells)))
