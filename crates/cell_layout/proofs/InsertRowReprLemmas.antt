-- One more row among cells in memory.
use Rattle.std.proofs.Common.{◌≡◌, ◌≢◌, ◌≤◌, ◌<◌, ℕ, zero, suc, ◌+◌, ◌&&◌, ◌==◌, nat_lt, nat_le, Bool, true, List, [], ◌∷◌, ◌++◌, map, length, get_or, set, insert, take, drop, All, refl, sym, ap, subst, ◌∙◌, arith, inl, inr, ◌⊎◌}
use Rattle.std.specs.List.{list_all, zip}
use Rattle.std.specs.declared.cmp.Ordering.TheVariants.{Less, Greater}
use Rattle.std.proofs.lemmas.Bool.{and_parts, and_from, le-leb, lt-ltb, eq-eqb, cases_order}
use Rattle.std.proofs.lemmas.Cmp.{nat_list_cmp_total, tied_itself}
use Rattle.std.proofs.lemmas.List.{ext_get_or, get_or-set_same, get_or-set_other, get_or-map, map-set, length-set, length-map, length-append}
use Rattle.std.proofs.lemmas.List.Elements.{All-set, All-append, All-cons, All-take, All-drop}
use Rattle.std.proofs.lemmas.List.Folds.{list_all-append}
use Rattle.std.proofs.lemmas.List.Sums.{sum_by-set, sum_by-insert, sum_by_more_le}
use Rattle.blink_lists.specs.Lists.{rises}
use Rattle.blink_base.specs.declared.value.Value.{Value}
use Rattle.order_codes.specs.Dictionary.{Classes, class_at}
use Rattle.cell_layout.specs.declared.cell.Cell.{Cell}
use Rattle.cell_layout.specs.Image.{CellImage, CodedRow}
use Rattle.cell_layout.specs.Layout.{cell_cmp}
use Rattle.std.proofs.Math.Seq.{get_or-append_seam}
use Rattle.cell_layout.specs.Blocks.{banks_for}
use Rattle.cell_layout.specs.Valid.{is_cell, is_row_count, are_codes, most_cell_rows}
use Rattle.blink_lists.specs.declared.limits.TheConstants.{MOST_ROWS}
use Rattle.cell_layout.specs.CellRepr.{IsCellRepr, cell_image, row_of_codes, rows_of_codes}
use Rattle.cell_layout.specs.CellIndex.{AreWithin, HasPushed, IsFound, IsMissing, keys_of_cells, key_at}
use Rattle.cell_layout.specs.InsertRow.{one_row, with_row, put_row, keys_in, Rising}
use Rattle.cell_layout.specs.InsertRowRepr.{IsGrown, IsPushed, IsFirst, IsPut, rows_in_all}
use Rattle.cell_layout.proofs.InsertRowLemmas.{turned, put-less, put-equal, put-greater}
use Rattle.cell_layout.proofs.CellIndexLemmas.{rising-from, above-at, empty_cell}
use Rattle.cell_layout.proofs.CellReprLemmas.{length-rows, rows_stand}
use Rattle.blink_lists.proofs.SliceLemmas.{map-insert}
use Rattle.blink_lists.proofs.ZipLemmas.{zip-all, pair-all}
use Rattle.blink_lists.proofs.NumberLemmas.{numbers-push, same-numbers}

-- a row in its cell, among cells in order
put-found : (r : CodedRow) (cells : List CellImage) (i : ℕ) (d : CellImage) → Rising (keys_in cells) → i < length cells → (get_or cells i d).classes ≡ r.classes → put_row r cells ≡ set cells i (with_row (get_or cells i d) r)
put-found r [] i d s lt e = absurd (omega arith)
put-found r (c ∷ cells) zero d s lt e =
    put-equal [] r c cells (ap (λ k. cell_cmp k c.classes) (sym e) ∙ tied_itself nat_list_cmp_total c.classes)
put-found r (c ∷ cells) (suc i) d s lt e =
    let n = length-map cells (λ (x : CellImage). x.classes) in
    let here : get_or (keys_in cells) i [] ≡ r.classes = get_or-map (λ (x : CellImage). x.classes) cells i d [] (omega arith) ∙ e in
    let less : cell_cmp c.classes r.classes ≡ Less = ap (cell_cmp c.classes) (sym here) ∙ above-at c.classes (keys_in cells) i [] s.0 (omega arith) in
    put-greater [] r c cells (turned c.classes r.classes Less less) ∙ ap (λ l. c ∷ l) (put-found r cells i d s.1 (omega arith) e)

-- and a row in a new cell
pub put-missing : (r : CodedRow) (cells : List CellImage) (i : ℕ) (d : CellImage) → i ≤ length cells → ((k : ℕ) → k < i → cell_cmp (get_or cells k d).classes r.classes ≡ Less)
    → ((k : ℕ) → i ≤ k → k < length cells → cell_cmp (get_or cells k d).classes r.classes ≡ Greater) → put_row r cells ≡ insert cells i (one_row r)
put-missing r [] zero d le before behind = refl
put-missing r [] (suc i) d le before behind = absurd (omega arith)
put-missing r (c ∷ cells) zero d le before behind = put-less [] r c cells (turned c.classes r.classes Greater (behind 0 (omega arith) (omega arith)))
put-missing r (c ∷ cells) (suc i) d le before behind =
    put-greater [] r c cells (turned c.classes r.classes Less (before 0 (omega arith)))
    ∙ ap (λ l. c ∷ l) (put-missing r cells i d (omega arith) (λ k lt. before (suc k) (omega arith)) (λ k low lt. behind (suc k) (omega arith) (omega arith)))

module _ (old new : List (List ℕ × ℕ)) (codes : List ℕ) (rows : ℕ) (full : All (λ (c : List ℕ × ℕ). length c.0 ≡ rows) old) (width : length codes ≡ length old) (pushed : HasPushed old new codes) where
  none : List ℕ × ℕ
  none = ([], 0)

  row-old : (row : ℕ) → row < rows → row_of_codes new row ≡ row_of_codes old row
  row-old row lt = rows_stand old new (λ k. get_or codes k 0 ∷ []) rows row pushed.count full (λ k within. pushed.each k ([], 0) within) lt

  row-new : row_of_codes new rows ≡ codes
  row-new = ext_get_or 0 (row_of_codes new rows) codes
      (length-map new (λ (c : List ℕ × ℕ). get_or c.0 rows 0) ∙ pushed.count ∙ sym width)
      (λ k within.
      let n = length-map new (λ (c : List ℕ × ℕ). get_or c.0 rows 0) in
      let count = pushed.count in
      let size : length (get_or old k none).0 ≡ rows = full k none (omega arith) in
      get_or-map (λ (c : List ℕ × ℕ). get_or c.0 rows 0) new k none 0 (omega arith)
      ∙ ap (λ l. get_or l rows 0) (pushed.each k none (omega arith))
      ∙ ap (λ i. get_or ((get_or old k none).0 ++ get_or codes k 0 ∷ []) i 0) (sym size)
      ∙ get_or-append_seam (get_or old k none).0 (get_or codes k 0) [] 0)

  rows-pushed : rows_of_codes new (rows + 1) ≡ rows_of_codes old rows ++ codes ∷ []
  rows-pushed =
      let zero : 0 + rows ≡ rows = omega arith in
      numbers-push (row_of_codes new) 0 rows
      ∙ ap (λ l. l ++ row_of_codes new (0 + rows) ∷ []) (same-numbers (row_of_codes new) (row_of_codes old) 0 rows (λ k lt. row-old k (omega arith)))
      ∙ ap (λ r. rows_of_codes old rows ++ r ∷ []) (ap (row_of_codes new) zero ∙ row-new)

  full-pushed : All (λ (c : List ℕ × ℕ). length c.0 ≡ rows + 1) new
  full-pushed k d lt =
      let count = pushed.count in
      let size = full k d (omega arith) in
      ap length (pushed.each k d (omega arith)) ∙ length-append (get_or old k d).0 (get_or codes k 0 ∷ []) ∙ ap (λ n. n + 1) size

codes_within : (columns : List Classes) (classes codes : List ℕ) → AreWithin columns classes codes (length columns) → are_codes columns classes codes ≡ true
codes_within columns classes codes w =
    and_from (length codes == length columns) (list_all (λ (p : (List (List Value) × ℕ) × ℕ). nat_lt p.1 (length (class_at p.0.0 p.0.1))) (zip (zip columns classes) codes))
    (eq-eqb (length codes) (length columns) w.code_count)
    (zip-all (λ (p : (List (List Value) × ℕ) × ℕ). nat_lt p.1 (length (class_at p.0.0 p.0.1))) columns classes codes [] 0 0 w.class_count w.code_count (λ k lt. lt-ltb _ _ (w.below k lt)))

pub row_count : (rows : List (List ℕ)) → 1 ≤ length rows → length rows ≤ most_cell_rows → is_row_count rows ≡ true
row_count rows some few = and_from (nat_le 1 (length rows)) (nat_le (length rows) most_cell_rows) (le-leb 1 (length rows) some) (le-leb (length rows) most_cell_rows few)

cell_with : (columns : List Classes) (cell : CellImage) (r : CodedRow) → is_cell columns cell ≡ true → length cell.rows < most_cell_rows → are_codes columns cell.classes r.codes ≡ true → is_cell columns (with_row cell r) ≡ true
cell_with columns cell r good few codes =
    let all = and_parts _ (list_all (are_codes columns cell.classes) cell.rows) good in
    let three = and_parts _ (is_row_count cell.rows) all.0 in
    let n = length-append cell.rows (r.codes ∷ []) in
    let rows = row_count (cell.rows ++ r.codes ∷ []) (omega arith) (omega arith) in
    let behind = list_all-append (are_codes columns cell.classes) cell.rows (r.codes ∷ []) ∙ and_from (list_all (are_codes columns cell.classes) cell.rows) (are_codes columns cell.classes r.codes && true) all.1 (and_from (are_codes columns cell.classes r.codes) true codes refl) in
    and_from _ (list_all (are_codes columns cell.classes) (cell.rows ++ r.codes ∷ [])) (and_from _ (is_row_count (cell.rows ++ r.codes ∷ [])) three.0 rows) behind

-- a cell that grows by a row
pub record GrownCell (columns : List Classes) (old new : Cell) (r : CodedRow) : Type 0 where
  pub repr : IsCellRepr columns new
  pub image : cell_image new ≡ with_row (cell_image old) r

pub grown_cell : (columns : List Classes) (old new : Cell) (r : CodedRow) → IsCellRepr columns old → IsGrown old new r.codes → old.classes ≡ r.classes → AreWithin columns r.classes r.codes (length columns) → old.rows < MOST_ROWS
    → GrownCell columns old new r
grown_cell columns old new r repr grown same w few =
    let width : length r.codes ≡ length old.codes = w.code_count ∙ sym repr.lists in
    let rows : rows_of_codes new.codes new.rows ≡ rows_of_codes old.codes old.rows ++ r.codes ∷ [] =
    ap (rows_of_codes new.codes) grown.one_more ∙ rows-pushed old.codes new.codes r.codes old.rows repr.full width grown.pushed in
    let classes = grown.same_classes in
    let image : cell_image new ≡ with_row (cell_image old) r = λ i. record { classes = classes i; rows = rows i } in
    let n = length-rows old.codes old.rows in
    record {
      repr = record {
        plan = grown.same_plan ∙ repr.plan ∙ ap (banks_for columns) (sym classes);
        lists = grown.pushed.count ∙ repr.lists;
        full = subst (λ m. All (λ (c : List ℕ × ℕ). length c.0 ≡ m) new.codes) (sym grown.one_more) (full-pushed old.codes new.codes r.codes old.rows repr.full width grown.pushed);
        good = ap (is_cell columns) image ∙ cell_with columns (cell_image old) r repr.good (omega arith) (ap (λ k. are_codes columns k r.codes) same ∙ codes_within columns r.classes r.codes w);
      };
      image = image;
    }

pub keys-image : (cells : List Cell) → keys_in (map cell_image cells) ≡ keys_of_cells cells
keys-image [] = refl
keys-image (c ∷ cells) = ap (λ l. c.classes ∷ l) (keys-image cells)

-- a row in the cell that was found
pub found_put : (columns : List Classes) (old new : List Cell) (at : ℕ) (classes codes : List ℕ) → All (IsCellRepr columns) old → rises cell_cmp (keys_of_cells old) ≡ true → rows_in_all old < MOST_ROWS
    → AreWithin columns classes codes (length columns) → IsFound old classes at → IsPushed old new at codes → IsPut columns old new classes codes
found_put columns old new at classes codes repr up few w found pushed =
    let before : Cell = get_or old at empty_cell in
    let after : Cell = get_or new at empty_cell in
    let r : CodedRow = record { classes = classes; codes = codes } in
    let same : (get_or old at empty_cell).classes ≡ classes = sym (get_or-map (λ (c : Cell). c.classes) old at empty_cell [] found.within) ∙ found.here in
    let upto = sum_by_more_le (λ (c : Cell). c.rows) old at empty_cell found.within in
    let grown = grown_cell columns (get_or old at empty_cell) (get_or new at empty_cell) r (repr at empty_cell found.within) (pushed.here empty_cell) same w (omega arith) in
    let whole : new ≡ set old at (get_or new at empty_cell) = ext_get_or empty_cell new (set old at (get_or new at empty_cell)) (pushed.count ∙ sym (length-set old at (get_or new at empty_cell))) (λ i lt. by i (cases_order i at)) in
    let view : get_or (map cell_image old) at (cell_image empty_cell) ≡ cell_image (get_or old at empty_cell) = get_or-map cell_image old at empty_cell (cell_image empty_cell) found.within in
    let rising : Rising (keys_in (map cell_image old)) = subst Rising (sym (keys-image old)) (rising-from (keys_of_cells old) up) in
    let n = length-map old cell_image in
    let sums = sum_by-set (λ (c : Cell). c.rows) old at (get_or new at empty_cell) empty_cell found.within in
    let more = (pushed.here empty_cell).one_more in
    let total = ap rows_in_all whole in
    record {
      image =
          ap (map cell_image) whole ∙ map-set cell_image old at (get_or new at empty_cell)
          ∙ ap (set (map cell_image old) at) (grown.image ∙ ap (λ c. with_row c r) (sym view))
          ∙ sym (put-found r (map cell_image old) at (cell_image empty_cell) rising (omega (arith, found.within)) (ap (λ (c : CellImage). c.classes) view ∙ same));
      repr = subst (All (IsCellRepr columns)) (sym whole) (All-set (IsCellRepr columns) old at (get_or new at empty_cell) grown.repr repr);
      one_more = omega arith;
    }
  where
    by : (i : ℕ) → (i ≡ at) ⊎ ((i < at) ⊎ (at < i)) → get_or new i empty_cell ≡ get_or (set old at (get_or new at empty_cell)) i empty_cell
    by i (inl e) = ap (λ k. get_or new k empty_cell) e ∙ sym (ap (λ k. get_or (set old at (get_or new at empty_cell)) k empty_cell) e ∙ get_or-set_same old at (get_or new at empty_cell) empty_cell found.within)
    by i (inr (inl less)) = let ne : i ≢ at = λ e. absurd (omega arith) in pushed.others i empty_cell ne ∙ sym (get_or-set_other old at i (get_or new at empty_cell) empty_cell ne)
    by i (inr (inr more)) = let ne : i ≢ at = λ e. absurd (omega arith) in pushed.others i empty_cell ne ∙ sym (get_or-set_other old at i (get_or new at empty_cell) empty_cell ne)

-- a cell of one row
firsts : (lists : List (List ℕ × ℕ)) (codes : List ℕ) → map (λ (l : List ℕ × ℕ). l.0) lists ≡ map (λ (n : ℕ). n ∷ []) codes → row_of_codes lists 0 ≡ codes
firsts lists codes e = heads lists ∙ ap (map (λ (l : List ℕ). get_or l 0 0)) e ∙ ones codes
  where
    heads : (xs : List (List ℕ × ℕ)) → row_of_codes xs 0 ≡ map (λ (l : List ℕ). get_or l 0 0) (map (λ (l : List ℕ × ℕ). l.0) xs)
    heads [] = refl
    heads (x ∷ xs) = ap (λ l. get_or x.0 0 0 ∷ l) (heads xs)

    ones : (ns : List ℕ) → map (λ (l : List ℕ). get_or l 0 0) (map (λ (n : ℕ). n ∷ []) ns) ≡ ns
    ones [] = refl
    ones (n ∷ ns) = ap (λ l. n ∷ l) (ones ns)

first_cell : (columns : List Classes) (cell : Cell) (r : CodedRow) → AreWithin columns r.classes r.codes (length columns) → IsFirst columns cell r.classes r.codes → IsCellRepr columns cell × (cell_image cell ≡ one_row r)
first_cell columns cell r w first = (
  record {
    plan = first.planned ∙ ap (banks_for columns) (sym first.numbers);
    lists = count ∙ w.code_count;
    full = λ k d lt. lengths k d lt ∙ sym first.one;
    good = ap (is_cell columns) image ∙ good;
  },
  image,
)
  where
    count : length cell.codes ≡ length r.codes
    count = sym (length-map cell.codes (λ (l : List ℕ × ℕ). l.0)) ∙ ap length first.lists ∙ length-map r.codes (λ (n : ℕ). n ∷ [])

    lengths : (k : ℕ) (d : List ℕ × ℕ) → k < length cell.codes → length (get_or cell.codes k d).0 ≡ 1
    lengths k d lt =
        let c = count in
        ap length (sym (get_or-map (λ (l : List ℕ × ℕ). l.0) cell.codes k d [] lt) ∙ ap (λ l. get_or l k []) first.lists ∙ get_or-map (λ (n : ℕ). n ∷ []) r.codes k 0 [] (omega arith))

    image : cell_image cell ≡ one_row r
    image =
        let rows : rows_of_codes cell.codes cell.rows ≡ r.codes ∷ [] = ap (rows_of_codes cell.codes) first.one ∙ ap (λ l. l ∷ []) (firsts cell.codes r.codes first.lists) in
        let numbers = first.numbers in
        λ i. record { classes = numbers i; rows = rows i }

    good : is_cell columns (one_row r) ≡ true
    good =
        let tests : (List (List Value)) × ℕ → Bool = λ p. nat_lt p.1 (length p.0) in
        let numbers = pair-all (λ (p : (List (List Value)) × ℕ). nat_lt p.1 (length p.0)) columns r.classes [] 0 w.class_count (λ k lt. lt-ltb _ _ (w.numbers k lt)) in
        let codes = and_from (are_codes columns r.classes r.codes) true (codes_within columns r.classes r.codes w) refl in
        and_from _ (list_all (are_codes columns r.classes) (r.codes ∷ []))
        (and_from _ (is_row_count (r.codes ∷ [])) (and_from (length r.classes == length columns) (list_all (λ (p : (List (List Value)) × ℕ). nat_lt p.1 (length p.0)) (zip columns r.classes)) (eq-eqb (length r.classes) (length columns) w.class_count) numbers) refl) codes

-- a row in a new cell
pub missing_put : (columns : List Classes) (old new : List Cell) (at : ℕ) (cell : Cell) (classes codes : List ℕ) → All (IsCellRepr columns) old → AreWithin columns classes codes (length columns) → IsMissing old classes at
    → IsFirst columns cell classes codes → new ≡ insert old at cell → IsPut columns old new classes codes
missing_put columns old new at cell classes codes repr w missing first whole =
    let r : CodedRow = record { classes = classes; codes = codes } in
    let one = first_cell columns cell r w first in
    let n = length-map old cell_image in
    let sums = sum_by-insert (λ (c : Cell). c.rows) old at cell in
    let rows = first.one in
    let total = ap rows_in_all whole in
    record {
      image =
          ap (map cell_image) whole ∙ map-insert cell_image old at cell ∙ ap (insert (map cell_image old) at) one.1
          ∙ sym
          (put-missing r (map cell_image old) at (cell_image empty_cell) (omega (arith, missing.within)) (λ k lt. ap (λ x. cell_cmp x classes) (key k (omega (arith, missing.within))) ∙ missing.before k lt)
          (λ k le lt. ap (λ x. cell_cmp x classes) (key k (omega arith)) ∙ missing.behind k le (omega arith)));
      repr = subst (All (IsCellRepr columns)) (sym whole) (All-append (IsCellRepr columns) (take at old) (cell ∷ drop at old) (All-take (IsCellRepr columns) at old repr)
          (All-cons (IsCellRepr columns) cell (drop at old) one.0 (All-drop (IsCellRepr columns) at old repr)));
      one_more = omega arith;
    }
  where
    key : (k : ℕ) → k < length old → (get_or (map cell_image old) k (cell_image empty_cell)).classes ≡ key_at old k
    key k lt = ap (λ (c : CellImage). c.classes) (get_or-map cell_image old k empty_cell (cell_image empty_cell) lt) ∙ sym (get_or-map (λ (c : Cell). c.classes) old k empty_cell [] lt)
