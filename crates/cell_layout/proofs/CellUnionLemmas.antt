-- A cell with the rows of another behind its own.
use Rattle.std.proofs.Common.{◌≡◌, ◌≤◌, ◌<◌, ◌-◌, ℕ, ◌+◌, true, List, [], ◌++◌, length, get_or, All, sym, ap, subst, ◌∙◌, arith, inl, inr, ◌⊎◌}
use Rattle.std.specs.List.{list_all}
use Rattle.std.proofs.lemmas.Bool.{and_parts, and_from, leb-true, cases_order}
use Rattle.std.proofs.lemmas.List.{ext_get_or, get_or_append_left, get_or-append_right, get_or-map, length-map, length-append}
use Rattle.std.proofs.lemmas.List.Folds.{list_all-append}
use Rattle.order_codes.specs.Dictionary.{Classes}
use Rattle.cell_layout.specs.declared.cell.Cell.{Cell}
use Rattle.cell_layout.specs.Image.{CellImage}
use Rattle.cell_layout.specs.Blocks.{banks_for}
use Rattle.cell_layout.specs.Valid.{is_cell, is_row_count, are_codes, most_cell_rows}
use Rattle.blink_lists.specs.declared.limits.TheConstants.{MOST_ROWS}
use Rattle.cell_layout.specs.CellRepr.{IsCellRepr, cell_image, row_of_codes, rows_of_codes}
use Rattle.cell_layout.specs.MergeCells.{HasAppended, IsAbsorbed}
use Rattle.cell_layout.proofs.CellReprLemmas.{length-rows, row_at, rows_stand}
use Rattle.cell_layout.proofs.InsertRowReprLemmas.{row_count}

module _ (old new more : List (List ℕ × ℕ)) (a b : ℕ) (full : All (λ (c : List ℕ × ℕ). length c.0 ≡ a) old) (more_full : All (λ (c : List ℕ × ℕ). length c.0 ≡ b) more) (width : length more ≡ length old) (appended : HasAppended old new more) where
  none : List ℕ × ℕ
  none = ([], 0)

  row-front : (row : ℕ) → row < a → row_of_codes new row ≡ row_of_codes old row
  row-front row lt = rows_stand old new (λ k. (get_or more k ([], 0)).0) a row appended.count full (λ k within. appended.each k ([], 0) within) lt

  row-back : (row : ℕ) → a ≤ row → row_of_codes new row ≡ row_of_codes more (row - a)
  row-back row le = ext_get_or 0 (row_of_codes new row) (row_of_codes more (row - a))
      (length-map new (λ (c : List ℕ × ℕ). get_or c.0 row 0) ∙ appended.count ∙ sym width ∙ sym (length-map more (λ (c : List ℕ × ℕ). get_or c.0 (row - a) 0)))
      (λ k within.
      let n = length-map new (λ (c : List ℕ × ℕ). get_or c.0 row 0) in
      let count = appended.count in
      let size = full k none (omega arith) in
      get_or-map (λ (c : List ℕ × ℕ). get_or c.0 row 0) new k none 0 (omega arith)
      ∙ ap (λ l. get_or l row 0) (appended.each k none (omega arith))
      ∙ get_or-append_right (get_or old k none).0 (get_or more k none).0 a row 0 size le
      ∙ sym (get_or-map (λ (c : List ℕ × ℕ). get_or c.0 (row - a) 0) more k none 0 (omega arith)))

  rows-appended : rows_of_codes new (a + b) ≡ rows_of_codes old a ++ rows_of_codes more b
  rows-appended =
      let long = length-rows new (a + b) in
      let front = length-rows old a in
      let back = length-rows more b in
      let both = length-append (rows_of_codes old a) (rows_of_codes more b) in
      ext_get_or [] (rows_of_codes new (a + b)) (rows_of_codes old a ++ rows_of_codes more b) (omega arith) (λ i lt. row_at new (a + b) i [] (omega arith) ∙ by i (omega arith) (cases_order i a))
    where
      behind : (i : ℕ) → i < a + b → a ≤ i → row_of_codes new i ≡ get_or (rows_of_codes old a ++ rows_of_codes more b) i []
      behind i lt le =
          row-back i le ∙ sym (row_at more b (i - a) [] (omega arith)) ∙ sym (get_or-append_right (rows_of_codes old a) (rows_of_codes more b) a i [] (length-rows old a) le)

      by : (i : ℕ) → i < a + b → (i ≡ a) ⊎ ((i < a) ⊎ (a < i)) → row_of_codes new i ≡ get_or (rows_of_codes old a ++ rows_of_codes more b) i []
      by i lt (inl e) = behind i lt (omega arith)
      by i lt (inr (inl less)) =
          let front = length-rows old a in
          row-front i less ∙ sym (row_at old a i [] less) ∙ sym (get_or_append_left (rows_of_codes old a) (rows_of_codes more b) [] i (omega arith))
      by i lt (inr (inr past)) = behind i lt (omega arith)

  full-appended : All (λ (c : List ℕ × ℕ). length c.0 ≡ a + b) new
  full-appended k d lt =
      let count = appended.count in
      let first = full k d (omega arith) in
      let second = more_full k d (omega arith) in
      let both = ap length (appended.each k d (omega arith)) ∙ length-append (get_or old k d).0 (get_or more k d).0 in
      omega arith

-- the rows of a cell with those of another behind them
abbrev pub with_rows : CellImage → CellImage → CellImage
with_rows cell more = record { classes = cell.classes; rows = cell.rows ++ more.rows }

cell_more : (columns : List Classes) (cell more : CellImage) → is_cell columns cell ≡ true → is_cell columns more ≡ true → cell.classes ≡ more.classes → length cell.rows + length more.rows ≤ most_cell_rows → is_cell columns (with_rows cell more) ≡ true
cell_more columns cell more good more_good same few =
    let all = and_parts _ (list_all (are_codes columns cell.classes) cell.rows) good in
    let more_all = and_parts _ (list_all (are_codes columns more.classes) more.rows) more_good in
    let three = and_parts _ (is_row_count cell.rows) all.0 in
    let n = length-append cell.rows more.rows in
    let some = some_rows cell.rows three.1 in
    let rows = row_count (cell.rows ++ more.rows) (omega arith) (omega arith) in
    let behind = list_all-append (are_codes columns cell.classes) cell.rows more.rows
    ∙ and_from (list_all (are_codes columns cell.classes) cell.rows) (list_all (are_codes columns cell.classes) more.rows) all.1 (ap (λ k. list_all (are_codes columns k) more.rows) same ∙ more_all.1) in
    and_from _ (list_all (are_codes columns cell.classes) (cell.rows ++ more.rows)) (and_from _ (is_row_count (cell.rows ++ more.rows)) three.0 rows) behind
  where
    some_rows : (rows : List (List ℕ)) → is_row_count rows ≡ true → 1 ≤ length rows
    some_rows rows count = leb-true 1 (length rows) (and_parts _ _ count).0

-- a cell that grows by the rows of another
pub record AbsorbedCell (columns : List Classes) (old new more : Cell) : Type 0 where
  pub repr : IsCellRepr columns new
  pub image : cell_image new ≡ with_rows (cell_image old) (cell_image more)

pub absorbed_cell : (columns : List Classes) (old new more : Cell) → IsCellRepr columns old → IsCellRepr columns more → IsAbsorbed old new more → old.classes ≡ more.classes → old.rows + more.rows ≤ MOST_ROWS
    → AbsorbedCell columns old new more
absorbed_cell columns old new more repr more_repr absorbed same few =
    let width : length more.codes ≡ length old.codes = more_repr.lists ∙ sym repr.lists in
    let rows : rows_of_codes new.codes new.rows ≡ rows_of_codes old.codes old.rows ++ rows_of_codes more.codes more.rows =
    ap (rows_of_codes new.codes) absorbed.rows ∙ rows-appended old.codes new.codes more.codes old.rows more.rows repr.full more_repr.full width absorbed.appended in
    let classes = absorbed.same_classes in
    let image : cell_image new ≡ with_rows (cell_image old) (cell_image more) = λ i. record { classes = classes i; rows = rows i } in
    let n = length-rows old.codes old.rows in
    let m = length-rows more.codes more.rows in
    record {
      repr = record {
        plan = absorbed.same_plan ∙ repr.plan ∙ ap (banks_for columns) (sym classes);
        lists = absorbed.appended.count ∙ repr.lists;
        full = subst (λ k. All (λ (c : List ℕ × ℕ). length c.0 ≡ k) new.codes) (sym absorbed.rows) (full-appended old.codes new.codes more.codes old.rows more.rows repr.full more_repr.full width absorbed.appended);
        good = ap (is_cell columns) image ∙ cell_more columns (cell_image old) (cell_image more) repr.good more_repr.good same (omega arith);
      };
      image = image;
    }
