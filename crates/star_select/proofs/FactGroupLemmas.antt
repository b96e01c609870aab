-- The groups of a fact's selected rows: page by page within a cell, cell by cell, and behind them the rows that are in no cell.
use Rattle.std.proofs.Common.{◌≡◌, ◌<◌, ◌≤◌, ◌+◌, ◌*◌, ◌-◌, ℕ, zero, suc, Bool, true, false, not, ◌&&◌, List, [], ◌∷◌, ◌++◌, map, filter, take, drop, replicate, length, nat_lt, count_by, slice_index_or, cond, refl, sym, ap, subst, ◌∙◌, true≢false, arith, length-append}
use Rattle.std.specs.Prelude.{sum_by, Option, Result, Ok, Err, OnOk, IfOk}
use Rattle.std.specs.List.{list_all, list_any, flat_map, zip}
use Rattle.std.proofs.Math.Seq.{take-add, take-suc}
use Rattle.std.proofs.lemmas.Bool.{ltb-true}
use Rattle.std.proofs.lemmas.List.{length-map, take_all, get_or-map, get_or_default, take-append-drop}
use Rattle.std.proofs.lemmas.List.Concat.{length-flat_map}
use Rattle.std.proofs.lemmas.List.Folds.{list_all-append}
use Rattle.std.proofs.lemmas.List.Elements.{filter-append}
use Rattle.std.proofs.lemmas.List.Sums.{sum_by-append, sum_by-cons, sum_by-take-le}
use Rattle.std.proofs.lemmas.Nat.{mul-le}
use Rattle.std.proofs.lemmas.Slice.Zip.{get_or-zip}
use Rattle.blink_base.specs.RowFits.{fits}
use Rattle.blink_base.specs.Values.{Row, same_row}
use Rattle.blink_lists.specs.declared.limits.TheConstants.{PAGE_ROWS, MOST_ROWS}
use Rattle.blink_lists.proofs.AllLemmas.{all_at}
use Rattle.blink_lists.proofs.DistinctLemmas.{length-filter-le}
use Rattle.blink_lists.proofs.GroupLemmas.{both, and_both}
use Rattle.star_bind.specs.declared.query.Conjunction.{Conjunction}
use Rattle.star_bind.specs.Joins.{is_wanted, filters_at}
use Rattle.cell_layout.specs.Image.{TableImage, CellImage, cell_at, cell_rows, decoded_row, row_count}
use Rattle.cell_layout.specs.Valid.{is_valid}
use Rattle.cell_layout.proofs.RowFitLemmas.{valid_fits, fits_long}
use Rattle.cell_scan.specs.declared.code_test.CodeTest.{CodeTest}
use Rattle.cell_scan.specs.Match.{rows_of_page, bits_where, selected_rows}
use Rattle.cell_scan.specs.PageLaws.{SelectedRowsPass}
use Rattle.cell_scan.specs.ValueTests.{cell_class}
use Rattle.order_codes.specs.Dictionary.{Classes, class_at}
use Rattle.code_join.specs.KeyCodes.{places_in}
use Rattle.code_join.specs.Keys.{Keyed}
use Rattle.code_group.specs.GroupRows.{cell_rows_added, cells_added, rest_added, picked_of, tuple_of, spilled}
use Rattle.code_group.specs.Entries.{picked_beside, has_keys, maps_in}
use Rattle.code_group.specs.Plans.{none_behind, are_of_plan, entries_within, sums_numbers}
use Rattle.code_group.specs.Tuples.{same_tuple}
use Rattle.late_decode.specs.declared.plan.GroupPlan.{GroupPlan}
use Rattle.late_decode.specs.declared.plan.Measure.{Measure}
use Rattle.late_decode.specs.Bounds.{combinations_in, counted_at}
use Rattle.late_decode.specs.BoundLaws.{CountsBounded}
use Rattle.late_decode.specs.Groups.{Grouped, added, rows_added}
use Rattle.late_decode.specs.Parts.{Picked, parts_over}
use Rattle.late_decode.specs.PlannedRows.{key_of}
use Rattle.star_select.specs.CellTests.{passes_some, is_passed, may_be_asked}
use Rattle.star_select.specs.FactRows.{FactRows, AreTestsOf, AreGrouped, MayGrow, HaveTaken, MayTake, fact_plan, is_chosen, rows_before, chosen_in, cells_before, chosen_before, rest_before, rest_at}
use Rattle.star_select.specs.CodeSelection.{fact_cells, codes_selected, NamesFact}
use Rattle.star_select.specs.KeySets.{is_selected}
use Rattle.star_bind.specs.Conjunctions.{passes}
use Rattle.star_select.specs.QueryImages.{IsFact}
use Rattle.star_select.specs.Picks.{tied_columns}
use Rattle.star_select.specs.Preconditions.{page_selected}
use Rattle.star_select.proofs.ImageAnswerLemmas.{columns-as-many}
use Rattle.star_select.proofs.ListLemmas.{zip-length}

-- ---- rows added, one list behind another

pub added-behind : {X K : Type 0} (eq : K → K → Bool) (measures : List Measure) (key : X → K) (picked : X → Picked) (xs ys : List X) (groups : Grouped K)
    → rows_added eq measures key picked (xs ++ ys) groups ≡ rows_added eq measures key picked ys (rows_added eq measures key picked xs groups)
added-behind eq measures key picked [] ys groups = refl
added-behind eq measures key picked (x ∷ xs) ys groups = added-behind eq measures key picked xs ys (added eq measures (key x) (parts_over measures (picked x ∷ [])) groups)

pub cells-behind : (image : TableImage) (plan : GroupPlan) (keys : List Keyed) (xs ys : List (CellImage × List (List ℕ))) (groups : Grouped Row)
    → cells_added image plan keys (xs ++ ys) groups ≡ cells_added image plan keys ys (cells_added image plan keys xs groups)
cells-behind image plan keys [] ys groups = refl
cells-behind image plan keys (x ∷ xs) ys groups = cells-behind image plan keys xs ys (spilled image x.0 plan keys (cell_rows_added image x.0 plan keys x.1 []) groups)

-- no groups have no combination
pub none-combined : (K : Type 0) → CountsBounded → (measures : List Measure) → combinations_in {K = K} measures [] ≤ 0
none-combined K bounded measures = (bounded (counted_at {K = K} []) (length measures)).1 0 (λ k lt. omega arith)

-- ---- the truth values of a page

pub padded : (p : List ℕ → Bool) (page : List (List ℕ)) (more : ℕ) → count_by (λ b. b) (map p page ++ replicate more false) ≡ length (filter p page)
padded p [] zero = refl
padded p [] (suc more) = let first = sum_by-cons (λ (b : Bool). cond {A = ℕ} b 1 0) false (replicate more false) in let rest = padded p [] more in omega (arith, first, rest)
padded p (row ∷ page) more = by (p row) (padded p page more)
  where
    ones : ℕ
    ones = count_by (λ (c : Bool). c) (map p page ++ replicate more false)

    by : (b : Bool) → ones ≡ length (filter p page) → count_by (λ c. c) (b ∷ map p page ++ replicate more false) ≡ length (cond b (row ∷ filter p page) (filter p page))
    by true rest = let first = sum_by-cons (λ (c : Bool). cond {A = ℕ} c 1 0) true (map p page ++ replicate more false) in omega (arith, first, rest)
    by false rest = let first = sum_by-cons (λ (c : Bool). cond {A = ℕ} c 1 0) false (map p page ++ replicate more false) in omega (arith, first, rest)

nothing-true : (more : ℕ) → list_any (λ b. b) (replicate more false) ≡ false
nothing-true zero = refl
nothing-true (suc more) = nothing-true more

pub none-past : (p : List ℕ → Bool) (page : List (List ℕ)) (more : ℕ) → none_behind (map p page ++ replicate more false) (length page) ≡ true
none-past p [] more = ap not (nothing-true more)
none-past p (row ∷ page) more = none-past p page more

-- truth values of two conditions that agree
pub bits-same : (p q : List ℕ → Bool) → ((row : List ℕ) → p row ≡ q row) → (page : List (List ℕ)) → bits_where p page ≡ bits_where q page
bits-same p q same page = λ i. map (λ row. same row i) page ++ replicate (PAGE_ROWS - length page) false

pub nothing-chosen : {X : Type 0} (xs : List X) → length xs ≡ 0 → xs ≡ []
nothing-chosen [] e = refl
nothing-chosen (x ∷ xs) e = absurd (omega (arith, e))

-- the truth values of a page select its chosen rows
module _ (fact : FactRows) (cell page : ℕ) (tests : List (List CodeTest)) (bits : List Bool) (are : AreTestsOf fact cell tests) (told : bits ≡ bits_where (passes_some tests) (rows_of_page (cell_at fact.image cell).rows page)) where
  abbrev rows_there : List (List ℕ)
  rows_there = rows_of_page (cell_at fact.image cell).rows page

  abbrev chosen_there : List (List ℕ)
  chosen_there = page_selected fact.image fact.query fact.keys cell page

  pub bits-chosen : bits ≡ bits_where (is_chosen fact cell) rows_there
  bits-chosen = told ∙ bits-same (passes_some tests) (is_chosen fact cell) are.passed rows_there

  pub count-chosen : count_by (λ b. b) bits ≡ length chosen_there
  count-chosen = ap (λ (bs : List Bool). count_by (λ b. b) bs) bits-chosen ∙ padded (is_chosen fact cell) rows_there (PAGE_ROWS - length rows_there)

  pub none-behind-chosen : none_behind bits (length rows_there) ≡ true
  none-behind-chosen = ap (λ (bs : List Bool). none_behind bs (length rows_there)) bits-chosen ∙ none-past (is_chosen fact cell) rows_there (PAGE_ROWS - length rows_there)

  pub selected-chosen : SelectedRowsPass → selected_rows bits rows_there ≡ chosen_there
  selected-chosen law = ap (λ (bs : List Bool). selected_rows bs rows_there) bits-chosen ∙ law (is_chosen fact cell) rows_there

  pub none-chosen : count_by (λ b. b) bits ≡ 0 → chosen_there ≡ []
  none-chosen none = nothing-chosen chosen_there (sym count-chosen ∙ none)

none-passing : {X : Type 0} (p : X → Bool) → ((x : X) → p x ≡ false) → (xs : List X) → filter p xs ≡ []
none-passing p none [] = refl
none-passing p none (x ∷ xs) = ap (λ b. cond b (x ∷ filter p xs) (filter p xs)) (none x) ∙ none-passing p none xs

-- the places of keys, one tie more
pub maps-next : (columns : List Classes) (classes ties : List ℕ) (keys : List Keyed) (tie : ℕ) → tie < length ties → length keys ≡ length ties
    → take (tie + 1) (maps_in columns classes ties keys) ≡ take tie (maps_in columns classes ties keys) ++ places_in (slice_index_or keys tie []) (cell_class columns classes (slice_index_or ties tie 0)) ∷ []
maps-next columns classes ties keys tie lt many =
    let next : tie + 1 ≡ suc tie = omega arith in
    let one : ℕ × Keyed → List (Option ℕ) = λ p. places_in p.1 (cell_class columns classes p.0) in
    let long = length-map (zip ties keys) one in
    let both = zip-length ties keys many in
    ap (λ n. take n (map one (zip ties keys))) next
    ∙ take-suc (map one (zip ties keys)) tie (one (0, [])) (omega (arith, lt, long, both))
    ∙ ap (λ m. take tie (maps_in columns classes ties keys) ++ m ∷ [])
    (get_or-map one (zip ties keys) tie (0, []) (one (0, [])) (omega (arith, lt, both)) ∙ ap one (get_or-zip ties keys tie (0, []) lt (omega (arith, lt, many))))

pub maps-long : (columns : List Classes) (classes ties : List ℕ) (keys : List Keyed) → length keys ≡ length ties → length (maps_in columns classes ties keys) ≡ length ties
maps-long columns classes ties keys many = length-map (zip ties keys) (λ (p : ℕ × Keyed). places_in p.1 (cell_class columns classes p.0)) ∙ zip-length ties keys many

-- ---- pages of a cell

pub one-page-more : (fact : FactRows) (cell page : ℕ) → rows_before fact cell (page + 1) ≡ rows_before fact cell page ++ page_selected fact.image fact.query fact.keys cell page
one-page-more fact cell page =
    let rows : List (List ℕ) = (cell_at fact.image cell).rows in
    let next : (page + 1) * PAGE_ROWS ≡ page * PAGE_ROWS + PAGE_ROWS = omega arith in
    ap (λ n. filter (is_chosen fact cell) (take n rows)) next
    ∙ ap (filter (is_chosen fact cell)) (take-add (page * PAGE_ROWS) PAGE_ROWS rows)
    ∙ filter-append (is_chosen fact cell) (take (page * PAGE_ROWS) rows) (take PAGE_ROWS (drop (page * PAGE_ROWS) rows))

pub no-page : (fact : FactRows) (cell : ℕ) → rows_before fact cell 0 ≡ []
no-page fact cell = refl

pub all-pages : (fact : FactRows) (cell pages : ℕ) → length (cell_at fact.image cell).rows ≤ pages * PAGE_ROWS → rows_before fact cell pages ≡ chosen_in fact cell
all-pages fact cell pages le = ap (filter (is_chosen fact cell)) (take_all (pages * PAGE_ROWS) (cell_at fact.image cell).rows le)

-- a front of a list passes no more
front-fewer : {X : Type 0} (p : X → Bool) (n : ℕ) (xs : List X) → length (filter p (take n xs)) ≤ length (filter p xs)
front-fewer p n xs =
    let split = ap (λ l. length (filter p l)) (take-append-drop n xs) in
    let two = ap (λ l. length l) (filter-append p (take n xs) (drop n xs)) in
    let long = length-append (filter p (take n xs)) (filter p (drop n xs)) in
    omega (arith, split, two, long)

-- the selected rows before a page and of it are no more than all
pub few-before : (fact : FactRows) (cell page : ℕ) → length (rows_before fact cell page) + length (page_selected fact.image fact.query fact.keys cell page) ≤ length (chosen_in fact cell)
few-before fact cell page =
    let rows : List (List ℕ) = (cell_at fact.image cell).rows in
    let p : List ℕ → Bool = is_chosen fact cell in
    let both = ap (λ (l : List (List ℕ)). length l) (one-page-more fact cell page) in
    let split = length-append (rows_before fact cell page) (page_selected fact.image fact.query fact.keys cell page) in
    let less = front-fewer p ((page + 1) * PAGE_ROWS) rows in
    omega (arith, both, split, less)

-- groups of no rows
pub none-grouped : (fact : FactRows) (cell : ℕ) (groups : Grouped (List ℕ)) (rows : ℕ) → MayGrow fact cell groups rows → AreGrouped fact cell [] groups groups
none-grouped fact cell groups rows may = record {
  added = refl;
  planned = may.planned;
  within = may.within;
  few = omega arith;
  grown = omega arith;
}

-- groups of rows, and of further ones
pub more-grouped : (fact : FactRows) (cell : ℕ) (xs ys : List (List ℕ)) (a b c : Grouped (List ℕ)) → AreGrouped fact cell xs a b → AreGrouped fact cell ys b c → AreGrouped fact cell (xs ++ ys) a c
more-grouped fact cell xs ys a b c one more = record {
  added = more.added
      ∙ ap (cell_rows_added fact.image (cell_at fact.image cell) (fact_plan fact) fact.keys ys) one.added
      ∙ sym (added-behind same_tuple (fact_plan fact).measures (tuple_of fact.image (cell_at fact.image cell) (fact_plan fact) fact.keys) (picked_of fact.image (cell_at fact.image cell) (fact_plan fact) fact.keys) xs ys a);
  planned = more.planned;
  within = more.within;
  few = let first = one.few in let then = more.few in let split = length-append xs ys in omega (arith, first, then, split);
  grown = let first = one.grown in let then = more.grown in let split = length-append xs ys in omega (arith, first, then, split);
}

-- ---- groups of values

pub none-taken : (fact : FactRows) (old : List Measure × Grouped Row) (rows : ℕ) → MayTake fact old rows → HaveTaken fact old old old.1 0
none-taken fact old rows may = record { measures = may.measures; taken = refl; planned = may.planned; few = omega arith }

-- what a call says of a page that it has grouped, together
pub page-grouped : {T E : Type 0} (r : Result T E) (fact : FactRows) (cell : ℕ) (plan : GroupPlan) (rows chosen : List (List ℕ)) (count : ℕ) (old new : Grouped (List ℕ))
    → plan ≡ fact_plan fact → rows ≡ chosen → count ≡ length chosen
    → entries_within fact.image.columns (cell_at fact.image cell).classes fact.keys (fact_plan fact) old ≡ true
    → OnOk r (new ≡ cell_rows_added fact.image (cell_at fact.image cell) plan fact.keys rows old)
    → OnOk r (are_of_plan plan new ≡ true)
    → OnOk r (entries_within fact.image.columns (cell_at fact.image cell).classes fact.keys plan old ≡ true → entries_within fact.image.columns (cell_at fact.image cell).classes fact.keys plan new ≡ true)
    → OnOk r (combinations_in plan.measures new ≤ combinations_in plan.measures old + count)
    → OnOk r (length new ≤ length old + count)
    → OnOk r (AreGrouped fact cell chosen old new)
page-grouped (Ok x) fact cell plan rows chosen count old new planned same many within added of_plan stays few grown =
    let fewer = ap (λ (p : GroupPlan). combinations_in p.measures new) planned in
    let before = ap (λ (p : GroupPlan). combinations_in p.measures old) planned in
    record {
      added = added ∙ (λ i. cell_rows_added fact.image (cell_at fact.image cell) (planned i) fact.keys (same i) old);
      planned = ap (λ (p : GroupPlan). are_of_plan p new) (sym planned) ∙ of_plan;
      within = ap (λ (p : GroupPlan). entries_within fact.image.columns (cell_at fact.image cell).classes fact.keys p new) (sym planned)
          ∙ stays (ap (λ (p : GroupPlan). entries_within fact.image.columns (cell_at fact.image cell).classes fact.keys p old) planned ∙ within);
      few = omega (arith, few, fewer, before, many);
      grown = omega (arith, grown, many);
    }
page-grouped (Err e) fact cell plan rows chosen count old new planned same many within added of_plan stays few grown = added

-- ---- cells

module _ (fact : FactRows) where
  abbrev with_rows : CellImage → CellImage × List (List ℕ)
  with_rows cell = (cell, filter (codes_selected fact.image.columns cell.classes fact.query fact.keys) cell.rows)

  abbrev no_cell : CellImage
  no_cell = record { classes = []; rows = [] }

  abbrev all_cells : List (CellImage × List (List ℕ))
  all_cells = fact_cells fact.image fact.query fact.keys

  pub one-cell-more : (cell : ℕ) → cell < length fact.image.cells → cells_before fact (cell + 1) ≡ cells_before fact cell ++ (cell_at fact.image cell, chosen_in fact cell) ∷ []
  one-cell-more cell lt =
      let many : length all_cells ≡ length fact.image.cells = length-map fact.image.cells with_rows in
      let next : cell + 1 ≡ suc cell = omega arith in
      ap (λ n. take n all_cells) next
      ∙ take-suc all_cells cell (with_rows no_cell) (omega (arith, lt, many))
      ∙ ap (λ c. cells_before fact cell ++ c ∷ []) (get_or-map with_rows fact.image.cells cell no_cell (with_rows no_cell) lt)

  pub one-cell-chosen : (cell : ℕ) → cell < length fact.image.cells → chosen_before fact (cell + 1) ≡ chosen_before fact cell + length (chosen_in fact cell)
  one-cell-chosen cell lt =
      let split = sum_by-append (λ (c : CellImage × List (List ℕ)). length c.1) (cells_before fact cell) ((cell_at fact.image cell, chosen_in fact cell) ∷ []) in
      let one = sum_by-cons (λ (c : CellImage × List (List ℕ)). length c.1) (cell_at fact.image cell, chosen_in fact cell) [] in
      ap (λ (cs : List (CellImage × List (List ℕ))). sum_by (λ (c : CellImage × List (List ℕ)). length c.1) cs) (one-cell-more cell lt) ∙ split ∙ omega (arith, one)

  pub cells-whole : cells_before fact (length fact.image.cells) ≡ all_cells
  cells-whole = let many = length-map fact.image.cells with_rows in take_all (length fact.image.cells) all_cells (omega (arith, many))

  pub chosen-within : (cell : ℕ) → chosen_before fact cell ≤ chosen_before fact (length fact.image.cells)
  chosen-within cell =
      let less = sum_by-take-le (λ (c : CellImage × List (List ℕ)). length c.1) all_cells cell in
      let all = ap (λ (cs : List (CellImage × List (List ℕ))). sum_by (λ (c : CellImage × List (List ℕ)). length c.1) cs) cells-whole in
      omega (arith, less, all)

  -- the selected rows of the cells and the rows that are in none are no more than the image has
  pub few-in-all : chosen_before fact (length fact.image.cells) + length fact.image.rest ≤ row_count fact.image
  few-in-all =
      let all = ap (λ (cs : List (CellImage × List (List ℕ))). sum_by (λ (c : CellImage × List (List ℕ)). length c.1) cs) cells-whole in
      let rows = length-append (flat_map (cell_rows fact.image) fact.image.cells) fact.image.rest in
      let flat = length-flat_map (cell_rows fact.image) fact.image.cells in
      let less = fewer fact.image.cells in
      omega (arith, all, rows, flat, less)
    where
      fewer : (cells : List CellImage) → sum_by (λ (c : CellImage × List (List ℕ)). length c.1) (map with_rows cells) ≤ sum_by (λ (c : CellImage). length (cell_rows fact.image c)) cells
      fewer [] = omega arith
      fewer (c ∷ cs) =
          let left = sum_by-cons (λ (d : CellImage × List (List ℕ)). length d.1) (with_rows c) (map with_rows cs) in
          let right = sum_by-cons (λ (d : CellImage). length (cell_rows fact.image d)) c cs in
          let one = length-filter-le (codes_selected fact.image.columns c.classes fact.query fact.keys) c.rows in
          let same = length-map c.rows (decoded_row fact.image.columns c.classes) in
          let more = fewer cs in
          omega (arith, left, right, one, same, more)

  -- the selected rows of a cell are no more than the image has
  pub few-in-cell : (cell : ℕ) → cell < length fact.image.cells → length (chosen_in fact cell) ≤ row_count fact.image
  few-in-cell cell lt =
      let next = one-cell-chosen cell lt in
      let less = chosen-within (cell + 1) in
      let all = few-in-all in
      omega (arith, next, less, all)

  -- the room for the next cell
  pub room-for-cell : (old now : List Measure × Grouped Row) (groups : Grouped Row) (cell : ℕ) → cell < length fact.image.cells → MayTake fact old (chosen_before fact (length fact.image.cells))
      → HaveTaken fact old now groups (chosen_before fact cell) → MayTake fact now (length (chosen_in fact cell))
  room-for-cell old now groups cell lt may had =
      let next = one-cell-chosen cell lt in
      let less = chosen-within (cell + 1) in
      let room = may.few in
      let so_far = had.few in
      record { measures = had.measures; planned = had.planned; few = omega (arith, next, less, room, so_far) }

  -- one cell more is taken
  pub cell-taken : (old mid new : List Measure × Grouped Row) (cell : ℕ) → cell < length fact.image.cells
      → HaveTaken fact old mid (cells_added fact.image (fact_plan fact) fact.keys (cells_before fact cell) old.1) (chosen_before fact cell)
      → HaveTaken fact mid new (cells_added fact.image (fact_plan fact) fact.keys ((cell_at fact.image cell, chosen_in fact cell) ∷ []) mid.1) (length (chosen_in fact cell))
      → HaveTaken fact old new (cells_added fact.image (fact_plan fact) fact.keys (cells_before fact (cell + 1)) old.1) (chosen_before fact (cell + 1))
  cell-taken old mid new cell lt had more =
      let next = one-cell-chosen cell lt in
      let a = had.few in
      let b = more.few in
      record {
        measures = more.measures;
        taken = more.taken
            ∙ ap (cells_added fact.image (fact_plan fact) fact.keys ((cell_at fact.image cell, chosen_in fact cell) ∷ [])) had.taken
            ∙ sym (cells-behind fact.image (fact_plan fact) fact.keys (cells_before fact cell) ((cell_at fact.image cell, chosen_in fact cell) ∷ []) old.1)
            ∙ ap (λ cs. cells_added fact.image (fact_plan fact) fact.keys cs old.1) (sym (one-cell-more cell lt));
        planned = more.planned;
        few = omega (arith, next, a, b);
      }

  -- ---- rows in no cell

  pub one-row-more : (at : ℕ) → at < length fact.image.rest → rest_before fact (at + 1) ≡ rest_before fact at ++ rest_at fact at
  one-row-more at lt =
      let next : at + 1 ≡ suc at = omega arith in
      ap (λ n. filter (is_selected fact.query fact.keys) (take n fact.image.rest)) next
      ∙ ap (filter (is_selected fact.query fact.keys)) (take-suc fact.image.rest at [] lt)
      ∙ filter-append (is_selected fact.query fact.keys) (take at fact.image.rest) (slice_index_or fact.image.rest at [] ∷ [])

  pub rest-whole : rest_before fact (length fact.image.rest) ≡ filter (is_selected fact.query fact.keys) fact.image.rest
  rest-whole = ap (filter (is_selected fact.query fact.keys)) (take_all (length fact.image.rest) fact.image.rest (omega arith))

  pub room-for-row : (old now : List Measure × Grouped Row) (groups : Grouped Row) (at : ℕ) → at < length fact.image.rest → MayTake fact old (length fact.image.rest) → HaveTaken fact old now groups at → MayTake fact now 1
  room-for-row old now groups at lt may had =
      let room = may.few in
      let so_far = had.few in
      record { measures = had.measures; planned = had.planned; few = omega (arith, lt, room, so_far) }

  pub row-taken : (old mid new : List Measure × Grouped Row) (at : ℕ) → at < length fact.image.rest
      → HaveTaken fact old mid (rest_added (fact_plan fact) fact.keys (rest_before fact at) old.1) at
      → HaveTaken fact mid new (rest_added (fact_plan fact) fact.keys (rest_at fact at) mid.1) 1
      → HaveTaken fact old new (rest_added (fact_plan fact) fact.keys (rest_before fact (at + 1)) old.1) (at + 1)
  row-taken old mid new at lt had more =
      let plan = fact_plan fact in
      let a = had.few in
      let b = more.few in
      record {
        measures = more.measures;
        taken = more.taken
            ∙ ap (rest_added plan fact.keys (rest_at fact at)) had.taken
            ∙ sym (added-behind same_row plan.measures (λ row. key_of plan.keys (picked_beside plan.ties fact.keys row)) (picked_beside plan.ties fact.keys) (rest_before fact at) (rest_at fact at) old.1)
            ∙ ap (λ rows. rest_added plan fact.keys rows old.1) (sym (one-row-more at lt));
        planned = more.planned;
        few = omega (arith, a, b);
      }

  -- the row that stands there, and whether it is selected
  pub row-fits : is_valid fact.image ≡ true → (at : ℕ) → at < length fact.image.rest
      → (fits fact.image.schema (slice_index_or fact.image.rest at []) ≡ true) × (length (slice_index_or fact.image.rest at []) ≡ length fact.image.columns)
  row-fits valid at lt =
      let all = (both (list_all (fits fact.image.schema) (flat_map (cell_rows fact.image) fact.image.cells)) (list_all (fits fact.image.schema) fact.image.rest)
      (sym (list_all-append (fits fact.image.schema) (flat_map (cell_rows fact.image) fact.image.cells) fact.image.rest) ∙ valid_fits fact.image valid)).1 in (
        all_at (fits fact.image.schema) fact.image.rest at [] all lt,
        fits_long fact.image.schema fact.image.rest (length fact.image.columns) all (columns-as-many fact.image valid) at [] lt,
      )

  pub row-unwanted : (at : ℕ) → is_wanted fact.query fact.query.fact (slice_index_or fact.image.rest at []) ≡ false → rest_at fact at ≡ []
  row-unwanted at e = by (is_wanted fact.query fact.query.fact (slice_index_or fact.image.rest at [])) (has_keys (tied_columns fact.query) fact.keys (slice_index_or fact.image.rest at [])) refl e
    where
      by : (a b : Bool) → (is_wanted fact.query fact.query.fact (slice_index_or fact.image.rest at []) && has_keys (tied_columns fact.query) fact.keys (slice_index_or fact.image.rest at [])) ≡ (a && b) → a ≡ false → rest_at fact at ≡ []
      by true b h k = absurd (true≢false k)
      by false b h k = rw h refl

  pub row-wanted : (at : ℕ) → is_wanted fact.query fact.query.fact (slice_index_or fact.image.rest at []) ≡ true → filter (has_keys (tied_columns fact.query) fact.keys) (slice_index_or fact.image.rest at [] ∷ []) ≡ rest_at fact at
  row-wanted at e = by (has_keys (tied_columns fact.query) fact.keys (slice_index_or fact.image.rest at [])) refl
    where
      by : (b : Bool) → has_keys (tied_columns fact.query) fact.keys (slice_index_or fact.image.rest at []) ≡ b → filter (has_keys (tied_columns fact.query) fact.keys) (slice_index_or fact.image.rest at [] ∷ []) ≡ rest_at fact at
      by true h = rw (e, h) refl
      by false h = rw (e, h) refl

  -- ---- what a cell is asked, and what is told of it

  -- the places of a tie's keys in a cell, as the code reads them
  pub tie-places : (cell tie : ℕ) (ties : List ℕ) (dicts : List Classes) (classes : List ℕ) (key : Keyed) (dict : Classes) → NamesFact (length fact.image.columns) fact.query fact.keys
      → ties ≡ tied_columns fact.query → dicts ≡ fact.image.columns → classes ≡ (cell_at fact.image cell).classes → tie < length ties → dict ≡ slice_index_or dicts (slice_index_or ties tie 0) dict
      → places_in (slice_index_or fact.keys tie key) (class_at dict (slice_index_or classes (slice_index_or ties tie 0) 0))
      ≡ places_in (slice_index_or fact.keys tie []) (cell_class fact.image.columns (cell_at fact.image cell).classes (slice_index_or (tied_columns fact.query) tie 0))
  tie-places cell tie ties dicts classes key dict names tied columns numbers lt read =
      let many = ap (λ (l : List ℕ). length l) tied in
      let there : tie < length (tied_columns fact.query) = omega (arith, lt, many) in
      let within = ltb-true (slice_index_or (tied_columns fact.query) tie 0) (length fact.image.columns) (all_at (λ k. nat_lt k (length fact.image.columns)) (tied_columns fact.query) tie 0 names.ties there) in
      let column : slice_index_or ties tie 0 ≡ slice_index_or (tied_columns fact.query) tie 0 = ap (λ (l : List ℕ). slice_index_or l tie 0) tied in
      let keyed = get_or_default fact.keys tie key [] (omega (arith, names.as_many, there)) in
      let same : dict ≡ slice_index_or fact.image.columns (slice_index_or (tied_columns fact.query) tie 0) [] =
      read ∙ (λ i. slice_index_or (columns i) (column i) dict) ∙ get_or_default fact.image.columns (slice_index_or (tied_columns fact.query) tie 0) dict [] within in
      λ i. places_in (keyed i) (class_at (same i) (slice_index_or (numbers i) (column i) 0))

  -- the tests of a cell are those of its conjunctions with the key sets
  pub tests-of : {E : Type 0} (r : Result (List (List CodeTest)) E) (cell : ℕ) (ties : List ℕ) (cs : List Conjunction)
      → ties ≡ tied_columns fact.query → cs ≡ filters_at fact.query fact.query.fact
      → IfOk r (λ tests. list_all (may_be_asked fact.image cell) tests ≡ true)
      → IfOk r (λ tests. (codes : List ℕ) → passes_some tests codes ≡ is_passed fact.image.columns (cell_at fact.image cell).classes ties fact.keys cs codes)
      → IfOk r (λ tests. AreTestsOf fact cell tests)
  tests-of (Ok tests) cell ties cs tied own asked passed = record {
    asked = asked;
    passed = λ codes. passed codes ∙ (λ i. is_passed fact.image.columns (cell_at fact.image cell).classes (tied i) fact.keys (own i) codes);
  }
  tests-of (Err e) cell ties cs tied own asked passed = asked

  -- where no list of tests is left, no row is selected
  pub nothing-passed : (cell : ℕ) (tests : List (List CodeTest)) → AreTestsOf fact cell tests → length tests ≡ 0 → chosen_in fact cell ≡ []
  nothing-passed cell tests are none =
      let empty = nothing-chosen tests none in
      none-passing (is_chosen fact cell) (λ codes. sym (are.passed codes) ∙ ap (λ ts. passes_some ts codes) empty) (cell_at fact.image cell).rows

  pub no-cell-taken : (cell : ℕ) (old : List Measure × Grouped Row) (rows : ℕ) → MayTake fact old rows → chosen_in fact cell ≡ []
      → HaveTaken fact old old (cells_added fact.image (fact_plan fact) fact.keys ((cell_at fact.image cell, chosen_in fact cell) ∷ []) old.1) (length (chosen_in fact cell))
  no-cell-taken cell old rows may none =
      subst (λ (l : List (List ℕ)). HaveTaken fact old old (cells_added fact.image (fact_plan fact) fact.keys ((cell_at fact.image cell, l) ∷ []) old.1) (length l)) (sym none)
      (record { measures = may.measures; taken = refl; planned = may.planned; few = omega arith })

  -- the room for the next page
  pub room-for-page : CountsBounded → (cell page : ℕ) (groups : Grouped (List ℕ)) → row_count fact.image ≤ MOST_ROWS → cell < length fact.image.cells
      → AreGrouped fact cell (rows_before fact cell page) [] groups → MayGrow fact cell groups (length (page_selected fact.image fact.query fact.keys cell page))
  room-for-page bounded cell page groups small lt had =
      let none = none-combined (List ℕ) bounded (fact_plan fact).measures in
      let here = few-before fact cell page in
      let all = few-in-cell cell lt in
      let so_far = had.few in
      record { planned = had.planned; within = had.within; few = omega (arith, none, here, all, so_far, small) }

  -- what was decoded before a page, and of it
  pub page-decoded : (cell page picks start before after : ℕ) → before ≤ start + length (rows_before fact cell page) * picks
      → after ≤ before + length (page_selected fact.image fact.query fact.keys cell page) * picks
      → (after ≤ start + length (rows_before fact cell (page + 1)) * picks) × (after ≤ start + length (chosen_in fact cell) * picks)
  page-decoded cell page picks start before after had more =
      let next = ap (λ (l : List (List ℕ)). length l) (one-page-more fact cell page) in
      let split = length-append (rows_before fact cell page) (page_selected fact.image fact.query fact.keys cell page) in
      let product : length (rows_before fact cell (page + 1)) * picks ≡ (length (rows_before fact cell page) + length (page_selected fact.image fact.query fact.keys cell page)) * picks = ap (λ n. n * picks) (next ∙ split) in
      let apart : (length (rows_before fact cell page) + length (page_selected fact.image fact.query fact.keys cell page)) * picks ≡ length (rows_before fact cell page) * picks + length (page_selected fact.image fact.query fact.keys cell page) * picks = omega arith in
      let less = mul-le (length (rows_before fact cell page) + length (page_selected fact.image fact.query fact.keys cell page)) picks (length (chosen_in fact cell)) picks (few-before fact cell page) (omega arith) in
      (omega (arith, had, more, product, apart), omega (arith, had, more, apart, less))

  -- the same of cells
  pub cell-decoded : (cell picks start before after : ℕ) → cell < length fact.image.cells → before ≤ start + chosen_before fact cell * picks
      → after ≤ before + length (chosen_in fact cell) * picks
      → (after ≤ start + chosen_before fact (cell + 1) * picks) × (after ≤ start + chosen_before fact (length fact.image.cells) * picks)
  cell-decoded cell picks start before after lt had more =
      let product : chosen_before fact (cell + 1) * picks ≡ (chosen_before fact cell + length (chosen_in fact cell)) * picks = ap (λ n. n * picks) (one-cell-chosen cell lt) in
      let apart : (chosen_before fact cell + length (chosen_in fact cell)) * picks ≡ chosen_before fact cell * picks + length (chosen_in fact cell) * picks = omega arith in
      let less = mul-le (chosen_before fact (cell + 1)) picks (chosen_before fact (length fact.image.cells)) picks (chosen-within (cell + 1)) (omega arith) in
      (omega (arith, had, more, product, apart), omega (arith, had, more, product, apart, less))

  -- what is decoded of a cell: the measured values of its rows, and the keys of its groups
  pub both-decoded : (cell values keys groups start between after : ℕ) → groups ≤ length (chosen_in fact cell) → between ≤ start + length (chosen_in fact cell) * values → after ≤ between + groups * keys
      → after ≤ start + length (chosen_in fact cell) * (values + keys)
  both-decoded cell values keys groups start between after fewer one two =
      let less = mul-le groups keys (length (chosen_in fact cell)) keys fewer (omega arith) in
      let apart : length (chosen_in fact cell) * (values + keys) ≡ length (chosen_in fact cell) * values + length (chosen_in fact cell) * keys = omega arith in
      omega (arith, less, apart, one, two)

  -- what spilling says, together
  pub cell-spilled : {T E : Type 0} (r : Result T E) (cell : ℕ) (plan : GroupPlan) (groups : Grouped (List ℕ)) (old new : List Measure × Grouped Row)
      → CountsBounded → plan ≡ fact_plan fact → AreGrouped fact cell (chosen_in fact cell) [] groups → MayTake fact old (length (chosen_in fact cell)) → new.0 ≡ old.0
      → OnOk r (new.1 ≡ spilled fact.image (cell_at fact.image cell) plan fact.keys groups old.1) → OnOk r (are_of_plan plan new.1 ≡ true)
      → OnOk r (combinations_in plan.measures new.1 ≤ combinations_in plan.measures groups + combinations_in plan.measures old.1)
      → OnOk r (HaveTaken fact old new (cells_added fact.image (fact_plan fact) fact.keys ((cell_at fact.image cell, chosen_in fact cell) ∷ []) old.1) (length (chosen_in fact cell)))
  cell-spilled (Ok x) cell plan groups old new bounded planned grouped may kept added of_plan few =
      let none = none-combined (List ℕ) bounded (fact_plan fact).measures in
      let a = ap (λ (p : GroupPlan). combinations_in p.measures new.1) planned in
      let b = ap (λ (p : GroupPlan). combinations_in p.measures groups) planned in
      let d = ap (λ (p : GroupPlan). combinations_in p.measures old.1) planned in
      let mine = grouped.few in
      record {
        measures = kept ∙ may.measures;
        taken = added ∙ (λ i. spilled fact.image (cell_at fact.image cell) (planned i) fact.keys (grouped.added i) old.1);
        planned = ap (λ (p : GroupPlan). are_of_plan p new.1) (sym planned) ∙ of_plan;
        few = omega (arith, none, a, b, d, mine, few);
      }
  cell-spilled (Err e) cell plan groups old new bounded planned grouped may kept added of_plan few = added

  -- the row that stands at a place of those that are in no cell
  abbrev row_there : ℕ → Row
  row_there at = slice_index_or fact.image.rest at []

  pub row-read : (at : ℕ) (rest : List Row) (row : Row) → rest ≡ fact.image.rest → at < length fact.image.rest → row ≡ slice_index_or rest at row → row ≡ row_there at
  row-read at rest row e lt is = is ∙ (λ i. slice_index_or (e i) at row) ∙ get_or_default fact.image.rest at row [] lt

  -- whether it is wanted, as the code asks
  pub row-asked : (at : ℕ) (row : Row) (cs : List Conjunction) (b w : Bool) → row ≡ row_there at → cs ≡ filters_at fact.query fact.query.fact → b ≡ list_any (passes row) cs → b ≡ w → is_wanted fact.query fact.query.fact (row_there at) ≡ w
  row-asked at row cs b w read own told is = let read-back = sym read in let own-back = sym own in (λ i. list_any (passes (read-back i)) (own-back i)) ∙ sym told ∙ is

  -- what is summed of it is good, where its tied values are keys
  pub row-sums : (at : ℕ) (row : Row) (plan : GroupPlan) → is_valid fact.image ≡ true → IsFact fact.image fact.query fact.keys → plan ≡ fact_plan fact → at < length fact.image.rest → row ≡ row_there at
      → is_wanted fact.query fact.query.fact (row_there at) ≡ true → has_keys plan.ties fact.keys row ≡ true → sums_numbers plan (picked_beside plan.ties fact.keys row) ≡ true
  row-sums at row plan valid is planned lt read wanted has =
      let read-back = sym read in
      let planned-back = sym planned in
      let keyed : has_keys (tied_columns fact.query) fact.keys (row_there at) ≡ true = (λ i. has_keys (planned-back i).ties fact.keys (read-back i)) ∙ has in
      (λ i. sums_numbers (planned i) (picked_beside (planned i).ties fact.keys (read i)))
      ∙ is.numbers (row_there at) (row-fits valid at lt).0 (and_both (is_wanted fact.query fact.query.fact (row_there at)) (has_keys (tied_columns fact.query) fact.keys (row_there at)) wanted keyed)

  -- what adding a row of rest says, together
  pub row-added : {T E : Type 0} (r : Result T E) (at : ℕ) (row : Row) (plan : GroupPlan) (old new : List Measure × Grouped Row)
      → plan ≡ fact_plan fact → MayTake fact old 1 → new.0 ≡ old.0 → row ≡ row_there at → is_wanted fact.query fact.query.fact (row_there at) ≡ true
      → OnOk r (new.1 ≡ rest_added plan fact.keys (filter (has_keys plan.ties fact.keys) (row ∷ [])) old.1) → OnOk r (are_of_plan plan new.1 ≡ true)
      → OnOk r (combinations_in plan.measures new.1 ≤ combinations_in plan.measures old.1 + 1)
      → OnOk r (HaveTaken fact old new (rest_added (fact_plan fact) fact.keys (rest_at fact at) old.1) 1)
  row-added (Ok x) at row plan old new planned may kept read wanted added of_plan few =
      let a = ap (λ (p : GroupPlan). combinations_in p.measures new.1) planned in
      let d = ap (λ (p : GroupPlan). combinations_in p.measures old.1) planned in
      record {
        measures = kept ∙ may.measures;
        taken = added ∙ (λ i. rest_added (planned i) fact.keys (filter (has_keys (planned i).ties fact.keys) (read i ∷ [])) old.1) ∙ ap (λ rows. rest_added (fact_plan fact) fact.keys rows old.1) (row-wanted at wanted);
        planned = ap (λ (p : GroupPlan). are_of_plan p new.1) (sym planned) ∙ of_plan;
        few = omega (arith, a, d, few);
      }
  row-added (Err e) at row plan old new planned may kept read wanted added of_plan few = added

  -- the room at the start, and before the rows that are in no cell
  pub room-at-start : CountsBounded → (groups : List Measure × Grouped Row) → groups.0 ≡ (fact_plan fact).measures → groups.1 ≡ [] → row_count fact.image ≤ MOST_ROWS → MayTake fact groups (chosen_before fact (length fact.image.cells))
  room-at-start bounded groups measures none small =
      let nothing = none-combined Row bounded (fact_plan fact).measures in
      let empty = ap (λ (gs : Grouped Row). combinations_in (fact_plan fact).measures gs) none in
      let all = few-in-all in
      record { measures = measures; planned = ap (λ (gs : Grouped Row). are_of_plan (fact_plan fact) gs) none; few = omega (arith, nothing, empty, all, small) }

  pub room-for-rest : CountsBounded → (old now : List Measure × Grouped Row) (groups : Grouped Row) → old.1 ≡ [] → row_count fact.image ≤ MOST_ROWS → HaveTaken fact old now groups (chosen_before fact (length fact.image.cells)) → MayTake fact now (length fact.image.rest)
  room-for-rest bounded old now groups none small had =
      let nothing = none-combined Row bounded (fact_plan fact).measures in
      let empty = ap (λ (gs : Grouped Row). combinations_in (fact_plan fact).measures gs) none in
      let all = few-in-all in
      let so_far = had.few in
      record { measures = had.measures; planned = had.planned; few = omega (arith, nothing, empty, all, small, so_far) }

  pub no-row-added : (at : ℕ) (old : List Measure × Grouped Row) → MayTake fact old 1 → rest_at fact at ≡ [] → HaveTaken fact old old (rest_added (fact_plan fact) fact.keys (rest_at fact at) old.1) 1
  no-row-added at old may none =
      subst (λ (l : List Row). HaveTaken fact old old (rest_added (fact_plan fact) fact.keys l old.1) 1) (sym none)
      (record { measures = may.measures; taken = refl; planned = may.planned; few = omega arith })
