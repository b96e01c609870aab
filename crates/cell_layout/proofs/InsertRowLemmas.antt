-- What one more row adds to the cells of the rows before it.
use Rattle.std.proofs.Common.{◌≡◌, ℕ, Bool, true, false, ◌||◌, List, [], ◌∷◌, ◌++◌, map, filter, cond, refl, sym, ap, ◌∙◌, true≢false}
use Rattle.std.specs.List.{list_any}
use Rattle.std.specs.declared.cmp.Ordering.{Ordering}
use Rattle.std.specs.declared.cmp.Ordering.TheVariants.{Less, Equal, Greater}
use Rattle.std.specs.Ordering.{is_eq, ordering_reverse}
use Rattle.std.proofs.lemmas.Bool.{or_from, or_parts}
use Rattle.std.proofs.lemmas.Cmp.{nat_list_cmp_total, tied_itself}
use Rattle.std.proofs.lemmas.Map.Lookups.{exact_bytes}
use Rattle.std.proofs.lemmas.List.{append-nil, map-append}
use Rattle.std.proofs.lemmas.List.Elements.{filter-append}
use Rattle.blink_lists.specs.Lists.{put_in_order, in_order, once_each}
use Rattle.cell_layout.specs.Image.{CellImage, CodedRow}
use Rattle.cell_layout.specs.Layout.{cell_cmp, same_cell, cell_of, cells_of}
use Rattle.cell_layout.specs.InsertRow.{one_row, with_row, put_row, keys_in, Above, Rising}
use Rattle.blink_lists.proofs.OrderedKeyLemmas.{any-keys, keys-known, keys-new, same-turned}

pub turned : (x y : List ℕ) (c : Ordering) → cell_cmp x y ≡ c → cell_cmp y x ≡ ordering_reverse c
turned x y c e = nat_list_cmp_total.antisymm y x ∙ ap ordering_reverse e

pub Above-below : (x y : List ℕ) (zs : List (List ℕ)) → cell_cmp x y ≡ Less → Above y zs → Above x zs
Above-below x y [] less a = tt
Above-below x y (z ∷ zs) less a = (nat_list_cmp_total.trans x y z less a.0, Above-below x y zs less a.1)

pub none-above : (x : List ℕ) (zs : List (List ℕ)) → Above x zs → list_any (same_cell x) zs ≡ false
none-above x [] a = refl
none-above x (z ∷ zs) a = or_from (same_cell x z) (list_any (same_cell x) zs) (ap is_eq a.0) (none-above x zs a.1)

-- one more row in the cell of a key
cell-more : (rows : List CodedRow) (r : CodedRow) (y : List ℕ)
    → cell_of (rows ++ r ∷ []) y ≡ record { classes = y; rows = (cell_of rows y).rows ++ cond (same_cell y r.classes) (r.codes ∷ []) [] }
cell-more rows r y = ap cell (ap (map codes) (filter-append here rows (r ∷ [])) ∙ map-append codes (filter here rows) (filter here (r ∷ [])) ∙ ap (λ l. map codes (filter here rows) ++ l) (last (same_cell y r.classes) refl))
  where
    here : CodedRow → Bool
    here x = same_cell y x.classes

    codes : CodedRow → List ℕ
    codes x = x.codes

    cell : List (List ℕ) → CellImage
    cell l = record { classes = y; rows = l }

    last : (b : Bool) → same_cell y r.classes ≡ b → map codes (filter here (r ∷ [])) ≡ cond (same_cell y r.classes) (r.codes ∷ []) []
    last true e = rw e refl
    last false e = rw e refl

cell-other : (rows : List CodedRow) (r : CodedRow) (y : List ℕ) → same_cell y r.classes ≡ false → cell_of (rows ++ r ∷ []) y ≡ cell_of rows y
cell-other rows r y e = cell-more rows r y ∙ ap (λ b. record { classes = y; rows = (cell_of rows y).rows ++ cond b (r.codes ∷ []) [] }) e
    ∙ ap (λ l. record { classes = y; rows = l }) (append-nil (cell_of rows y).rows)

cell-own : (rows : List CodedRow) (r : CodedRow) (y : List ℕ) → same_cell y r.classes ≡ true → cell_of (rows ++ r ∷ []) y ≡ with_row (cell_of rows y) r
cell-own rows r y e = cell-more rows r y ∙ ap (λ b. record { classes = y; rows = (cell_of rows y).rows ++ cond b (r.codes ∷ []) [] }) e

pub none-there : (y : List ℕ) (rows : List CodedRow) → list_any (same_cell y) (map (λ r. r.classes) rows) ≡ false → filter (λ r. same_cell y r.classes) rows ≡ []
none-there y [] none = refl
none-there y (r ∷ rows) none =
    let parts = or_parts (same_cell y r.classes) (list_any (same_cell y) (map (λ (r : CodedRow). r.classes) rows)) none in
    rw parts.0 (none-there y rows parts.1)

module _ (rows : List CodedRow) (r : CodedRow) where
  cells-other : (ts : List (List ℕ)) → list_any (same_cell r.classes) ts ≡ false → map (cell_of (rows ++ r ∷ [])) ts ≡ map (cell_of rows) ts
  cells-other [] none = refl
  cells-other (y ∷ ts) none =
      let parts = or_parts (same_cell r.classes y) (list_any (same_cell r.classes) ts) none in
      let head = cell-other rows r y (same-turned cell_cmp nat_list_cmp_total exact_bytes y r.classes ∙ parts.0) in
      let rest = cells-other ts parts.1 in
      λ i. head i ∷ rest i

  pub put-less : (c : CellImage) (cells : List CellImage) → cell_cmp r.classes c.classes ≡ Less → put_row r (c ∷ cells) ≡ one_row r ∷ c ∷ cells
  put-less c cells e = rw (put_row, e) refl

  pub put-equal : (c : CellImage) (cells : List CellImage) → cell_cmp r.classes c.classes ≡ Equal → put_row r (c ∷ cells) ≡ with_row c r ∷ cells
  put-equal c cells e = rw (put_row, e) refl

  pub put-greater : (c : CellImage) (cells : List CellImage) → cell_cmp r.classes c.classes ≡ Greater → put_row r (c ∷ cells) ≡ c ∷ put_row r cells
  put-greater c cells e = rw (put_row, e) refl

  known : (ts : List (List ℕ)) → Rising ts → list_any (same_cell r.classes) ts ≡ true → map (cell_of (rows ++ r ∷ [])) ts ≡ put_row r (map (cell_of rows) ts)
  known [] s any = absurd (true≢false (sym any))
  known (y ∷ ts) s any = by (cell_cmp r.classes y) refl (known ts s.1)
    where
      by : (c : Ordering) → cell_cmp r.classes y ≡ c → (list_any (same_cell r.classes) ts ≡ true → map (cell_of (rows ++ r ∷ [])) ts ≡ put_row r (map (cell_of rows) ts))
          → map (cell_of (rows ++ r ∷ [])) (y ∷ ts) ≡ put_row r (map (cell_of rows) (y ∷ ts))
      by Less e rest =
          let none : list_any (same_cell r.classes) (y ∷ ts) ≡ false = or_from (same_cell r.classes y) (list_any (same_cell r.classes) ts) (ap is_eq e) (none-above r.classes ts (Above-below r.classes y ts e s.0)) in
          absurd (true≢false (sym any ∙ none))
      by Equal e rest =
          let one : r.classes ≡ y = exact_bytes r.classes y e in
          let head = cell-own rows r y (ap is_eq (turned r.classes y Equal e)) in
          let tail = cells-other ts (ap (λ k. list_any (same_cell k) ts) one ∙ none-above y ts s.0) in
          (λ i. head i ∷ tail i) ∙ sym (put-equal (cell_of rows y) (map (cell_of rows) ts) e)
      by Greater e rest =
          let head = cell-other rows r y (ap is_eq (turned r.classes y Greater e)) in
          let later : list_any (same_cell r.classes) ts ≡ true = ap (λ b. b || list_any (same_cell r.classes) ts) (sym (ap is_eq e)) ∙ any in
          let tail = rest later in
          (λ i. head i ∷ tail i) ∙ sym (put-greater (cell_of rows y) (map (cell_of rows) ts) e)

  module _ (new : list_any (same_cell r.classes) (map (λ (x : CodedRow). x.classes) rows) ≡ false) where
    first-row : cell_of (rows ++ r ∷ []) r.classes ≡ one_row r
    first-row = cell-own rows r r.classes (ap is_eq (tied_itself nat_list_cmp_total r.classes))
        ∙ ap (λ (l : List CodedRow). record { classes = r.classes; rows = map (λ (x : CodedRow). x.codes) l ++ r.codes ∷ [] }) (none-there r.classes rows new)

    unknown : (ts : List (List ℕ)) → list_any (same_cell r.classes) ts ≡ false → map (cell_of (rows ++ r ∷ [])) (put_in_order cell_cmp r.classes ts) ≡ put_row r (map (cell_of rows) ts)
    unknown [] none = λ i. first-row i ∷ []
    unknown (y ∷ ts) none = by (cell_cmp r.classes y) refl (unknown ts)
      where
        by : (c : Ordering) → cell_cmp r.classes y ≡ c → (list_any (same_cell r.classes) ts ≡ false → map (cell_of (rows ++ r ∷ [])) (put_in_order cell_cmp r.classes ts) ≡ put_row r (map (cell_of rows) ts))
            → map (cell_of (rows ++ r ∷ [])) (put_in_order cell_cmp r.classes (y ∷ ts)) ≡ put_row r (map (cell_of rows) (y ∷ ts))
        by Less e rest =
            let others = cells-other (y ∷ ts) none in
            let before : put_in_order cell_cmp r.classes (y ∷ ts) ≡ r.classes ∷ y ∷ ts = rw (put_in_order, e) refl in
            ap (map (cell_of (rows ++ r ∷ []))) before ∙ (λ i. first-row i ∷ others i) ∙ sym (put-less (cell_of rows y) (map (cell_of rows) ts) e)
        by Equal e rest = absurd (true≢false (sym (ap (λ b. b || list_any (same_cell r.classes) ts) (ap is_eq e)) ∙ none))
        by Greater e rest =
            let head = cell-other rows r y (ap is_eq (turned r.classes y Greater e)) in
            let parts = or_parts (same_cell r.classes y) (list_any (same_cell r.classes) ts) none in
            let tail = rest parts.1 in
            let behind : put_in_order cell_cmp r.classes (y ∷ ts) ≡ y ∷ put_in_order cell_cmp r.classes ts = rw (put_in_order, e) refl in
            ap (map (cell_of (rows ++ r ∷ []))) behind ∙ (λ i. head i ∷ tail i) ∙ sym (put-greater (cell_of rows y) (map (cell_of rows) ts) e)

pub keys-cells : (rows : List CodedRow) (ts : List (List ℕ)) → keys_in (map (cell_of rows) ts) ≡ ts
keys-cells rows [] = refl
keys-cells rows (y ∷ ts) = ap (λ l. y ∷ l) (keys-cells rows ts)

-- one more row, by the cells of the rows before it
pub row_placed : (rows : List CodedRow) (r : CodedRow) → Rising (keys_in (cells_of rows)) → cells_of (rows ++ r ∷ []) ≡ put_row r (cells_of rows)
row_placed rows r rising = by (list_any (same_cell r.classes) classes) refl
  where
    classes : List (List ℕ)
    classes = map (λ x. x.classes) rows

    keys : List (List ℕ)
    keys = in_order cell_cmp (once_each same_cell classes)

    more : map (λ (x : CodedRow). x.classes) (rows ++ r ∷ []) ≡ classes ++ r.classes ∷ []
    more = map-append (λ (x : CodedRow). x.classes) rows (r ∷ [])

    there : list_any (same_cell r.classes) keys ≡ list_any (same_cell r.classes) classes
    there = any-keys cell_cmp nat_list_cmp_total exact_bytes r.classes classes

    cells : List (List ℕ) → List CellImage
    cells l = map (cell_of (rows ++ r ∷ [])) (in_order cell_cmp (once_each same_cell l))

    by : (b : Bool) → list_any (same_cell r.classes) classes ≡ b → cells_of (rows ++ r ∷ []) ≡ put_row r (cells_of rows)
    by true e =
        ap cells more
        ∙ ap (map (cell_of (rows ++ r ∷ []))) (keys-known cell_cmp nat_list_cmp_total exact_bytes r.classes classes e)
        ∙ known rows r keys (rw (keys-cells rows keys) at rising) (there ∙ e)
    by false e =
        ap cells more
        ∙ ap (map (cell_of (rows ++ r ∷ []))) (keys-new cell_cmp nat_list_cmp_total exact_bytes r.classes classes e)
        ∙ unknown rows r e keys (there ∙ e)

-- cells stay in order
Above-put : (y : List ℕ) (r : CodedRow) (cells : List CellImage) → cell_cmp y r.classes ≡ Less → Above y (keys_in cells) → Above y (keys_in (put_row r cells))
Above-put y r [] less a = (less, tt)
Above-put y r (c ∷ cells) less a = by (cell_cmp r.classes c.classes) refl (Above-put y r cells less a.1)
  where
    by : (d : Ordering) → cell_cmp r.classes c.classes ≡ d → Above y (keys_in (put_row r cells)) → Above y (keys_in (put_row r (c ∷ cells)))
    by Less e rest = rw (put-less [] r c cells e) (less, a)
    by Equal e rest = rw (put-equal [] r c cells e) a
    by Greater e rest = rw (put-greater [] r c cells e) (a.0, rest)

pub Rising-put : (r : CodedRow) (cells : List CellImage) → Rising (keys_in cells) → Rising (keys_in (put_row r cells))
Rising-put r [] s = (tt, tt)
Rising-put r (c ∷ cells) s = by (cell_cmp r.classes c.classes) refl (Rising-put r cells s.1)
  where
    by : (d : Ordering) → cell_cmp r.classes c.classes ≡ d → Rising (keys_in (put_row r cells)) → Rising (keys_in (put_row r (c ∷ cells)))
    by Less e rest = rw (put-less [] r c cells e) ((e, Above-below r.classes c.classes (keys_in cells) e s.0), s)
    by Equal e rest = rw (put-equal [] r c cells e) s
    by Greater e rest = rw (put-greater [] r c cells e) (Above-put c.classes r cells (turned r.classes c.classes Greater e) s.0, rest)
