-- The wanted rows of an image, part by part.
use Rattle.std.proofs.Common.{◌≡◌, ◌<◌, ◌≤◌, ◌+◌, ◌-◌, ◌*◌, ◌==◌, ◌&&◌, ℕ, zero, suc, Bool, true, false, List, [], ◌∷◌, ◌++◌, map, filter, flat_map, replicate, drop, length, get_or, nat_lt, nat_le, slice_index_or, not, None, cond, refl, sym, ap, ◌∙◌, arith, length-append}
use Rattle.std.specs.Prelude.{IsTrue, pos}
use Rattle.std.specs.List.{list_all, list_any}
use Rattle.std.proofs.lemmas.List.{get_or-map, length-map}
use Rattle.blink_base.specs.declared.value.Value.TheVariants.{Int}
use Rattle.blink_base.specs.RowFits.{fits}
use Rattle.blink_base.specs.Tests.{tree_holds}
use Rattle.blink_base.specs.Values.{Row}
use Rattle.blink_lists.specs.Lists.{any_true, are_distinct, joined, numbers_from}
use Rattle.blink_lists.specs.declared.limits.TheConstants.{PAGE_ROWS}
use Rattle.blink_lists.proofs.DistinctLemmas.{length-filter-le}
use Rattle.blink_lists.proofs.GroupLemmas.{both, all-imply, filter-alike}
use Rattle.blink_lists.proofs.NumberLemmas.{length-numbers, numbers-at}
use Rattle.blink_lists.proofs.ProductLemmas.{filter-flat, filter-none, map-flat}
use Rattle.star_bind.specs.declared.limits.TheConstants.{MOST_CONJUNCTIONS}
use Rattle.star_bind.specs.declared.query.Conjunction.{Conjunction}
use Rattle.star_bind.specs.declared.query.ColumnTest.{ColumnTest}
use Rattle.star_bind.specs.Conjunctions.{passes}
use Rattle.star_bind.specs.QueryShape.{is_condition_on, is_conjunction}
use Rattle.cell_layout.specs.Blocks.{page_count}
use Rattle.cell_layout.specs.Image.{TableImage, CellImage, cell_at, cell_rows, decoded_row, is_coded, row_count}
use Rattle.cell_layout.specs.Valid.{is_rest_row, is_valid}
use Rattle.cell_layout.proofs.PlacedImageLemmas.{valid_parts}
use Rattle.cell_layout.proofs.RowFitLemmas.{fits_long}
use Rattle.cell_scan.specs.Match.{bits_where, rows_of_page}
use Rattle.cell_scan.specs.PageLaws.{PagesAreRows, SelectedRowsPass}
use Rattle.cell_scan.specs.ValueTests.{ValueTest}
use Rattle.cell_scan.specs.declared.code_test.CodeTest.{CodeTest}
use Rattle.code_join.specs.KeyLaws.{LaterKeysAreNew}
use Rattle.code_join.specs.Keys.{Keyed, are_keys, place_of_key}
use Rattle.dim_filter.specs.Entries.{chosen_rows, collected}
use Rattle.star_select.specs.CellTests.{are_apart, is_passed, passes_some}
use Rattle.star_select.specs.CodeSelection.{conjunction_tests, is_of_columns}
use Rattle.star_select.specs.WantedRows.{rows_where, page_where, cell_wanted, cells_wanted, rest_wanted}
use Rattle.star_select.proofs.CollectedLemmas.{IsPart}
use Rattle.star_select.proofs.ImageAnswerLemmas.{columns-as-many}

joined-map : {X Y : Type 0} (f : X → List Y) (xs : List X) → joined (map f xs) ≡ flat_map f xs
joined-map f [] = refl
joined-map f (x ∷ xs) = ap (λ l. f x ++ l) (joined-map f xs)

-- ---- the pages of a cell

-- a page that a cell has begins before the cell's last row
pub page_begins : (cell : CellImage) (page : ℕ) → page < page_count cell → page * PAGE_ROWS < length cell.rows
page_begins cell page within = omega (arith, within)

pages_hold : (cell : CellImage) → length cell.rows ≤ page_count cell * PAGE_ROWS
pages_hold cell = omega arith

-- no truth value is true behind the rows of a page
padded : (test : List ℕ → Bool) (page : List (List ℕ)) (more : ℕ) → any_true (drop (length page) (map test page ++ replicate more false)) ≡ false
padded test [] zero = refl
padded test [] (suc more) = padded test [] more
padded test (row ∷ page) more = padded test page more

pub none_padded : (test : List ℕ → Bool) (page : List (List ℕ)) (bits : List Bool) → bits ≡ bits_where test page → any_true (drop (length page) bits) ≡ false
none_padded test page bits is = ap (λ b. any_true (drop (length page) b)) is ∙ padded test page (PAGE_ROWS - length page)

module _ (image : TableImage) (cell : ℕ) (test : List ℕ → Bool) where
  -- the chosen rows of a page
  pub page_chosen : SelectedRowsPass → (page : ℕ) (bits : List Bool) → bits ≡ bits_where test (rows_of_page (cell_at image cell).rows page) → chosen_rows image cell page bits ≡ page_where image cell test page
  page_chosen law page bits is =
      ap (chosen_rows image cell page) is ∙ ap (map (decoded_row image.columns (cell_at image cell).classes)) (law test (rows_of_page (cell_at image cell).rows page))

  -- those of all pages, one after another, are those of the cell
  pub pages_where : PagesAreRows → joined (map (page_where image cell test) (numbers_from 0 (page_count (cell_at image cell)))) ≡ rows_where image (cell_at image cell) test (cell_at image cell).rows
  pages_where law =
      let rows = (cell_at image cell).rows in
      let numbers = numbers_from 0 (page_count (cell_at image cell)) in
      let row : List ℕ → Row = decoded_row image.columns (cell_at image cell).classes in
      joined-map (page_where image cell test) numbers
      ∙ sym (map-flat row (λ page. filter test (rows_of_page rows page)) numbers)
      ∙ ap (map row) (sym (filter-flat test (rows_of_page rows) numbers) ∙ ap (filter test) (law rows (page_count (cell_at image cell)) (pages_hold (cell_at image cell))))

-- how many they are, and each at its place
pub page_count_is : (image : TableImage) (cell : ℕ) (test : List ℕ → Bool) → length (map (page_where image cell test) (numbers_from 0 (page_count (cell_at image cell)))) ≡ page_count (cell_at image cell)
page_count_is image cell test = length-numbers (page_where image cell test) 0 (page_count (cell_at image cell))

pub page_part : PagesAreRows → (image : TableImage) (cell : ℕ) (test : List ℕ → Bool) (page : ℕ) → page < page_count (cell_at image cell)
    → IsPart (map (page_where image cell test) (numbers_from 0 (page_count (cell_at image cell)))) page (page_where image cell test page) (rows_where image (cell_at image cell) test (cell_at image cell).rows)
page_part law image cell test page lt = record {
  within = let e = page_count_is image cell test in omega (arith, e, lt);
  here = let same : 0 + page ≡ page = omega arith in numbers-at (page_where image cell test) 0 (page_count (cell_at image cell)) page [] lt ∙ ap (page_where image cell test) same;
  all = pages_where image cell test law;
}

-- no row passes where there is no list of tests
pub none_where : (image : TableImage) (cell : CellImage) (tests : List (List CodeTest)) (rows : List (List ℕ)) → length tests ≡ 0 → rows_where image cell (passes_some tests) rows ≡ []
none_where image cell [] rows e = ap (map (decoded_row image.columns cell.classes)) (filter-none rows)
none_where image cell (t ∷ tests) rows e = absurd (omega (arith, e))

-- tests of codes that pass the same
pub same_where : (image : TableImage) (cell : CellImage) (p q : List ℕ → Bool) (rows : List (List ℕ)) → ((codes : List ℕ) → p codes ≡ q codes) → rows_where image cell p rows ≡ rows_where image cell q rows
same_where image cell p q rows same = ap (map (decoded_row image.columns cell.classes)) (filter-alike p q same rows)

-- ---- cells and rest

pub cells_joined : (image : TableImage) (conjunctions : List Conjunction) → joined (map (cell_wanted image conjunctions) image.cells) ≡ cells_wanted image conjunctions
cells_joined image conjunctions = joined-map (cell_wanted image conjunctions) image.cells

pub cell_part : (image : TableImage) (conjunctions : List Conjunction) (cell : ℕ) → cell < length image.cells
    → IsPart (map (cell_wanted image conjunctions) image.cells) cell (cell_wanted image conjunctions (cell_at image cell)) (cells_wanted image conjunctions)
cell_part image conjunctions cell lt = record {
  within = let e = length-map image.cells (cell_wanted image conjunctions) in omega (arith, e, lt);
  here = get_or-map (cell_wanted image conjunctions) image.cells cell (record { classes = []; rows = [] }) [] lt;
  all = cells_joined image conjunctions;
}

pub rest_joined : (conjunctions : List Conjunction) (rest : List Row) → joined (map (λ row. rest_wanted conjunctions (row ∷ [])) rest) ≡ rest_wanted conjunctions rest
rest_joined conjunctions [] = refl
rest_joined conjunctions (row ∷ rest) = ap (λ l. rest_wanted conjunctions (row ∷ []) ++ l) (rest_joined conjunctions rest) ∙ by (list_any (passes row) conjunctions)
  where
    by : (b : Bool) → cond b (row ∷ []) [] ++ rest_wanted conjunctions rest ≡ cond b (row ∷ rest_wanted conjunctions rest) (rest_wanted conjunctions rest)
    by true = refl
    by false = refl

pub rest_part : (conjunctions : List Conjunction) (rest items : List Row) (i : ℕ) (row : Row) → items ≡ rest → i < length items → row ≡ get_or items i row
    → IsPart (map (λ row. rest_wanted conjunctions (row ∷ [])) rest) i (rest_wanted conjunctions (row ∷ [])) (rest_wanted conjunctions rest)
rest_part conjunctions rest items i row same lt is =
    let one : Row → List Row = λ row. rest_wanted conjunctions (row ∷ []) in
    let within : i < length rest = omega (arith, lt, ap (λ (l : List Row). length l) same) in
    record {
      within = let long = length-map rest one in omega (arith, long, within);
      here = get_or-map one rest i row [] within ∙ ap one (sym (is ∙ ap (λ (l : List Row). get_or l i row) same));
      all = rest_joined conjunctions rest;
    }

-- one row of rest, as its test is true or not
pub row_chosen : (conjunctions : List Conjunction) (row : Row) (b : Bool) → b ≡ list_any (passes row) conjunctions → b ≡ true → rest_wanted conjunctions (row ∷ []) ≡ row ∷ []
row_chosen conjunctions row b is true_is = ap (λ c. cond c (row ∷ []) []) (sym is ∙ true_is)

pub row_left : (conjunctions : List Conjunction) (row : Row) (b : Bool) → b ≡ list_any (passes row) conjunctions → b ≡ false → rest_wanted conjunctions (row ∷ []) ≡ []
row_left conjunctions row b is false_is = ap (λ c. cond c (row ∷ []) []) (sym is ∙ false_is)

pub row_new : LaterKeysAreNew → (key : ℕ) (wanted : List ℕ) (into : Keyed) (row : Row) → IsTrue (are_keys (collected key wanted into (row ∷ []))) → place_of_key into (slice_index_or row key (Int (pos 0))) ≡ None
row_new law key wanted into row are = law into [] (slice_index_or row key (Int (pos 0))) (map (λ column. slice_index_or row column (Int (pos 0))) wanted) are

-- the rows of rest of a valid image have a value a column
pub row_long : (image : TableImage) (items : List Row) (i : ℕ) (row : Row) → is_valid image ≡ true → items ≡ image.rest → i < length items → row ≡ get_or items i row → length row ≡ length image.columns
row_long image items i row valid same lt is =
    let fit = all-imply (is_rest_row image) (fits image.schema) (λ r h. (both (fits image.schema r) (not (is_coded image.columns r)) h).0) image.rest (valid_parts image valid).rest in
    let within : i < length image.rest = omega (arith, lt, ap (λ (l : List Row). length l) same) in
    ap (λ (r : Row). length r) (is ∙ ap (λ (l : List Row). get_or l i row) same) ∙ fits_long image.schema image.rest (length image.columns) fit (columns-as-many image valid) i row within

-- the wanted rows are no more than all rows
cells-few : (image : TableImage) (conjunctions : List Conjunction) (cells : List CellImage) → length (flat_map (cell_wanted image conjunctions) cells) ≤ length (flat_map (cell_rows image) cells)
cells-few image conjunctions [] = omega arith
cells-few image conjunctions (cell ∷ cells) =
    let more = cells-few image conjunctions cells in
    let passing = length-filter-le (is_passed image.columns cell.classes [] [] conjunctions) cell.rows in
    let some = length-map (filter (is_passed image.columns cell.classes [] [] conjunctions) cell.rows) (decoded_row image.columns cell.classes) in
    let all = length-map cell.rows (decoded_row image.columns cell.classes) in
    let left = length-append (cell_wanted image conjunctions cell) (flat_map (cell_wanted image conjunctions) cells) in
    let right = length-append (cell_rows image cell) (flat_map (cell_rows image) cells) in
    omega (arith, more, passing, some, all, left, right)

pub wanted_few : (image : TableImage) (conjunctions : List Conjunction) → length (cells_wanted image conjunctions) + length (rest_wanted conjunctions image.rest) ≤ row_count image
wanted_few image conjunctions =
    let cells = cells-few image conjunctions image.cells in
    let rest = length-filter-le (λ row. list_any (passes row) conjunctions) image.rest in
    let all = length-append (flat_map (cell_rows image) image.cells) image.rest in
    omega (arith, cells, rest, all)

-- ---- what a condition on a table says of its conjunctions

-- the columns of its tests
abbrev value_test : ColumnTest → ValueTest
value_test t = record { column = t.column; holds = λ v. tree_holds v t.tree }

tests-columns : (tests : List ColumnTest) → map (λ (u : ValueTest). u.column) (map value_test tests) ≡ map (λ (t : ColumnTest). t.column) tests
tests-columns [] = refl
tests-columns (t ∷ tests) = ap (λ l. t.column ∷ l) (tests-columns tests)

module _ (columns : ℕ) (conjunctions : List Conjunction) (condition : is_condition_on columns conjunctions ≡ true) where
  each-is : list_all (is_conjunction columns) conjunctions ≡ true
  each-is = (both (nat_lt 0 (length conjunctions) && nat_le (length conjunctions) MOST_CONJUNCTIONS) (list_all (is_conjunction columns) conjunctions) condition).1

  pub condition_apart : are_apart [] [] conjunctions ≡ true
  condition_apart =
      all-imply (is_conjunction columns) (λ c. are_distinct (λ x y. x == y) (map (λ t. t.column) (conjunction_tests c)))
      (λ c h. ap (are_distinct (λ x y. x == y)) (tests-columns c.tests) ∙ (both (is_of_columns columns c) (are_distinct (λ x y. x == y) (map (λ t. t.column) c.tests)) h).1) conjunctions each-is
