-- The codes of a row of the fact are selected exactly where the row that they stand for is.
use Rattle.std.proofs.Common.{◌≡◌, ◌==◌, ℕ, Bool, true, false, ◌&&◌, ◌||◌, List, [], ◌∷◌, ◌++◌, map, filter, length, nat_lt, refl, sym, ap, ◌∙◌}
use Rattle.std.specs.List.{list_any, list_all, flat_map, zip}
use Rattle.std.proofs.lemmas.Bool.{eqb-true, eq-eqb}
use Rattle.std.proofs.lemmas.List.Elements.{filter-append}
use Rattle.blink_base.specs.Values.{Row}
use Rattle.blink_lists.proofs.GroupLemmas.{both, and_both}
use Rattle.blink_lists.proofs.ProductLemmas.{filter-map}
use Rattle.star_bind.specs.declared.query.Query.{Query}
use Rattle.star_bind.specs.Conjunctions.{passes}
use Rattle.star_bind.specs.Joins.{filters_at, is_wanted}
use Rattle.order_codes.specs.Dictionary.{Classes}
use Rattle.cell_layout.specs.Image.{TableImage, CellImage, decoded_row, cell_rows, rows_of}
use Rattle.cell_layout.specs.Valid.{are_codes, is_row_count, is_cell}
use Rattle.cell_scan.specs.Match.{passes_all}
use Rattle.cell_scan.specs.ValueTests.{passes_tests, sets_in, SetsAreTests}
use Rattle.code_join.specs.Keys.{Keyed}
use Rattle.code_group.specs.Entries.{has_keys}
use Rattle.code_group.specs.GroupLaws.{is_joined, are_joined, selected_in}
use Rattle.star_select.specs.CodeSelection.{conjunction_tests, fact_tests, codes_selected, fact_cells, fact_rest, is_of_columns, NamesFact, SelectsByConjunctions, SelectsByCodes, WantedByCodes}
use Rattle.star_select.specs.KeySets.{is_selected}
use Rattle.star_select.specs.Picks.{tied_columns}
use Rattle.star_select.specs.QueryPlan.{plan_of}
use Rattle.star_select.proofs.FactTestLemmas.{tests-named, conjunction-named, conjunction-passes}
use Rattle.star_select.proofs.ListLemmas.{flat-of-map}

any-where : {X : Type 0} (w p q : X → Bool) → ((x : X) → w x ≡ true → p x ≡ q x) → (xs : List X) → list_all w xs ≡ true → list_any p xs ≡ list_any q xs
any-where w p q same [] h = refl
any-where w p q same (x ∷ xs) h = let b = both (w x) (list_all w xs) h in λ i. same x b.0 i || any-where w p q same xs b.1 i

filter-where : {X : Type 0} (w p q : X → Bool) → ((x : X) → w x ≡ true → p x ≡ q x) → (xs : List X) → list_all w xs ≡ true → filter p xs ≡ filter q xs
filter-where w p q same [] h = refl
filter-where w p q same (x ∷ xs) h = let b = both (w x) (list_all w xs) h in by (q x) refl (same x b.0) (filter-where w p q same xs b.1)
  where
    by : (c : Bool) → q x ≡ c → p x ≡ q x → filter p xs ≡ filter q xs → filter p (x ∷ xs) ≡ filter q (x ∷ xs)
    by true e k r = rw (k, e) (ap (λ l. x ∷ l) r)
    by false e k r = rw (k, e) r

pub filter-good : {X : Type 0} (w c g : X → Bool) → ((x : X) → w x ≡ true → c x ≡ true → g x ≡ true) → (xs : List X) → list_all w xs ≡ true → list_all g (filter c xs) ≡ true
filter-good w c g step [] h = refl
filter-good w c g step (x ∷ xs) h = let b = both (w x) (list_all w xs) h in by (c x) refl (step x b.0) (filter-good w c g step xs b.1)
  where
    by : (d : Bool) → c x ≡ d → (c x ≡ true → g x ≡ true) → list_all g (filter c xs) ≡ true → list_all g (filter c (x ∷ xs)) ≡ true
    by true e k r = rw e (and_both (g x) (list_all g (filter c xs)) (k e) r)
    by false e k r = rw e r

pub selects_by_codes : SetsAreTests → SelectsByConjunctions → SelectsByCodes
selects_by_codes sets conjunctions columns classes codes query keys full good names =
    let row : Row = decoded_row columns classes codes in
    any-where (is_of_columns (length columns)) (λ c. passes_all (sets_in columns classes (fact_tests query keys c)) codes) (λ c. passes_tests (fact_tests query keys c) row)
    (λ c own. sets columns classes codes (fact_tests query keys c) full good (tests-named (length columns) query keys c own names.ties)) (filters_at query query.fact) names.conjunctions
    ∙ sym (conjunctions query keys row)

-- what is_cell says of class numbers and codes
pub cell-parts : (columns : List Classes) (cell : CellImage) → is_cell columns cell ≡ true → (length cell.classes ≡ length columns) × (list_all (are_codes columns cell.classes) cell.rows ≡ true)
cell-parts columns cell h =
    let a = both (length cell.classes == length columns && list_all (λ p. nat_lt p.1 (length p.0)) (zip columns cell.classes) && is_row_count cell.rows) (list_all (are_codes columns cell.classes) cell.rows) h in
    let b = both (length cell.classes == length columns && list_all (λ p. nat_lt p.1 (length p.0)) (zip columns cell.classes)) (is_row_count cell.rows) a.0 in
    let c = both (length cell.classes == length columns) (list_all (λ p. nat_lt p.1 (length p.0)) (zip columns cell.classes)) b.0 in
    (eqb-true (length cell.classes) (length columns) c.0, a.1)

pub wanted_by_codes : SetsAreTests → WantedByCodes
wanted_by_codes sets columns classes codes query table full good named =
    let row : Row = decoded_row columns classes codes in
    any-where (is_of_columns (length columns)) (λ c. passes_all (sets_in columns classes (conjunction_tests c)) codes) (passes row)
    (λ c own. sets columns classes codes (conjunction_tests c) full good (conjunction-named (length columns) c own) ∙ conjunction-passes row c) (filters_at query table) named

-- rows of cells that pass, by a test of their codes
module _ (image : TableImage) (p : Row → Bool) (q : CellImage → List ℕ → Bool)
    (same : (cell : CellImage) (codes : List ℕ) → length cell.classes ≡ length image.columns → are_codes image.columns cell.classes codes ≡ true → q cell codes ≡ p (decoded_row image.columns cell.classes codes)) where
  pub cells-passing : (cells : List CellImage) → list_all (is_cell image.columns) cells ≡ true
      → filter p (flat_map (cell_rows image) cells) ≡ flat_map (λ cell. map (decoded_row image.columns cell.classes) (filter (q cell) cell.rows)) cells
  cells-passing [] h = refl
  cells-passing (cell ∷ cells) h =
      let b = both (is_cell image.columns cell) (list_all (is_cell image.columns) cells) h in
      let parts = cell-parts image.columns cell b.0 in
      let one : filter p (cell_rows image cell) ≡ map (decoded_row image.columns cell.classes) (filter (q cell) cell.rows) =
      filter-map p (decoded_row image.columns cell.classes) cell.rows
      ∙ ap (map (decoded_row image.columns cell.classes)) (filter-where (are_codes image.columns cell.classes) (λ codes. p (decoded_row image.columns cell.classes codes)) (q cell) (λ codes g. sym (same cell codes parts.0 g)) cell.rows parts.1) in
      filter-append p (cell_rows image cell) (flat_map (cell_rows image) cells) ∙ (λ i. one i ++ cells-passing cells b.1 i)

module _ (by_codes : SelectsByCodes) (image : TableImage) (query : Query) (keys : List Keyed) (names : NamesFact (length image.columns) query keys) where
  -- a cell with its selected rows
  abbrev chosen : CellImage → CellImage × List (List ℕ)
  chosen cell = (cell, filter (codes_selected image.columns cell.classes query keys) cell.rows)

  cells-selected : (cells : List CellImage) → list_all (is_cell image.columns) cells ≡ true → filter (is_selected query keys) (flat_map (cell_rows image) cells) ≡ flat_map (selected_in image) (map chosen cells)
  cells-selected cells h =
      cells-passing image (is_selected query keys) (λ cell. codes_selected image.columns cell.classes query keys) (λ cell codes full good. by_codes image.columns cell.classes codes query keys full good names) cells h
      ∙ sym (flat-of-map (selected_in image) chosen cells)

  -- the selected rows of an image are those of its cells, and then of rest
  pub rows-selected : list_all (is_cell image.columns) image.cells ≡ true → filter (is_selected query keys) (rows_of image) ≡ flat_map (selected_in image) (fact_cells image query keys) ++ fact_rest image query keys
  rows-selected h =
      filter-append (is_selected query keys) (flat_map (cell_rows image) image.cells) image.rest
      ∙ ap (λ (l : List Row). l ++ fact_rest image query keys) (cells-selected image.cells h)

  codes-joined : (cell : CellImage) → length cell.classes ≡ length image.columns → (codes : List ℕ) → are_codes image.columns cell.classes codes ≡ true → codes_selected image.columns cell.classes query keys codes ≡ true
      → is_joined image (plan_of query) keys cell codes ≡ true
  codes-joined cell full codes g s =
      let row = decoded_row image.columns cell.classes codes in
      let two = both (is_wanted query query.fact row) (has_keys (tied_columns query) keys row) (sym (by_codes image.columns cell.classes codes query keys full g names) ∙ s) in
      and_both (are_codes image.columns cell.classes codes) (has_keys (tied_columns query) keys row) g two.1

  -- the tied values of selected rows are keys
  pub cells-joined : (cells : List CellImage) → list_all (is_cell image.columns) cells ≡ true → list_all (are_joined image (plan_of query) keys) (map chosen cells) ≡ true
  cells-joined [] h = refl
  cells-joined (cell ∷ cells) h =
      let b = both (is_cell image.columns cell) (list_all (is_cell image.columns) cells) h in
      let p = cell-parts image.columns cell b.0 in
      and_both (are_joined image (plan_of query) keys (chosen cell)) (list_all (are_joined image (plan_of query) keys) (map chosen cells))
      (and_both (length cell.classes == length image.columns) (list_all (is_joined image (plan_of query) keys cell) (filter (codes_selected image.columns cell.classes query keys) cell.rows))
      (eq-eqb (length cell.classes) (length image.columns) p.0)
      (filter-good (are_codes image.columns cell.classes) (codes_selected image.columns cell.classes query keys) (is_joined image (plan_of query) keys cell) (codes-joined cell p.0) cell.rows p.1))
      (cells-joined cells b.1)
