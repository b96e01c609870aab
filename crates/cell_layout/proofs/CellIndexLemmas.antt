-- The cell of some class numbers, by a binary search.
use Rattle.std.proofs.Common.{◌≡◌, ◌<◌, ℕ, zero, suc, ◌+◌, true, List, [], ◌∷◌, length, get_or, refl, sym, ap, ◌∙◌, arith, Result, Ok, Err}
use Rattle.std.specs.declared.cmp.Ordering.TheVariants.{Less}
use Rattle.std.specs.Ordering.{is_lt, ordering_index}
use Rattle.std.specs.List.Sorted.{IsNonDecreasingBy, IsBinarySearchResult, IsSearchInRange}
use Rattle.std.proofs.lemmas.Bool.{and_parts, and_from}
use Rattle.std.proofs.lemmas.Cmp.{nat_list_cmp_total}
use Rattle.std.proofs.lemmas.Map.Lookups.{exact_bytes}
use Rattle.std.proofs.lemmas.List.{get_or-map, length-map}
use Rattle.std.proofs.lemmas.List.Sorted.{searchable_from_sorted}
use Rattle.blink_lists.specs.Lists.{rises}
use Rattle.blink_lists.proofs.OrderLemmas.{less_is}
use Rattle.cell_layout.specs.declared.cell.Cell.{Cell}
use Rattle.cell_layout.specs.Layout.{cell_cmp}
use Rattle.cell_layout.specs.CellIndex.{keys_of_cells, key_at, IsFound, IsCellIndex}
use Rattle.cell_layout.specs.InsertRow.{Above, Rising}
use Rattle.cell_layout.proofs.InsertRowLemmas.{turned, Above-below}

pub rising-from : (keys : List (List ℕ)) → rises cell_cmp keys ≡ true → Rising keys
rising-from [] up = tt
rising-from (x ∷ []) up = (tt, tt)
rising-from (x ∷ y ∷ ys) up =
    let parts = and_parts (is_lt (cell_cmp x y)) (rises cell_cmp (y ∷ ys)) up in
    let rest = rising-from (y ∷ ys) parts.1 in
    let less = less_is (cell_cmp x y) parts.0 in
    ((less, Above-below x y ys less rest.0), rest)

pub rises-from : (keys : List (List ℕ)) → Rising keys → rises cell_cmp keys ≡ true
rises-from [] s = refl
rises-from (x ∷ []) s = refl
rises-from (x ∷ y ∷ ys) s = and_from (is_lt (cell_cmp x y)) (rises cell_cmp (y ∷ ys)) (ap is_lt s.0.0) (rises-from (y ∷ ys) s.1)

pub above-at : (x : List ℕ) (ys : List (List ℕ)) (k : ℕ) (d : List ℕ) → Above x ys → k < length ys → cell_cmp x (get_or ys k d) ≡ Less
above-at x [] k d a lt = absurd (omega arith)
above-at x (y ∷ ys) zero d a lt = a.0
above-at x (y ∷ ys) (suc k) d a lt = above-at x ys k d a.1 (omega arith)

next-less : (keys : List (List ℕ)) (k j : ℕ) (d : List ℕ) → Rising keys → j ≡ k + 1 → j < length keys → cell_cmp (get_or keys k d) (get_or keys j d) ≡ Less
next-less [] k j d s e lt = absurd (omega arith)
next-less (x ∷ keys) k zero d s e lt = absurd (omega arith)
next-less (x ∷ keys) zero (suc j) d s e lt = above-at x keys j d s.0 (omega arith)
next-less (x ∷ keys) (suc k) (suc j) d s e lt = next-less keys k j d s.1 (omega arith) (omega arith)

pub empty_cell : Cell
empty_cell = record { classes = []; plan = []; codes = []; rows = 0 }

module _ (cells : List Cell) where
  pub key-here : (k : ℕ) (d : Cell) → k < length cells → (get_or cells k d).classes ≡ key_at cells k
  key-here k d lt = sym (get_or-map (λ (cell : Cell). cell.classes) cells k d [] lt)

  -- what a look at one place finds
  pub found_here : (at : ℕ) (d : Cell) (front classes : List ℕ) → at < length cells → front ≡ (get_or cells at d).classes → front ≡ classes → IsFound cells classes at
  found_here at d front classes within seen same = record { within = within; here = sym (key-here at d within) ∙ sym seen ∙ same }

  searchable : (classes : List ℕ) → rises cell_cmp (keys_of_cells cells) ≡ true → IsNonDecreasingBy (λ (cell : Cell). ordering_index (cell_cmp cell.classes classes)) cells
  searchable classes up = searchable_from_sorted nat_list_cmp_total (λ (cell : Cell). cell.classes) cells classes (λ k d low lt.
      let n = length-map cells (λ (cell : Cell). cell.classes) in
      let first = key-here k d (omega arith) in
      let second = key-here (k + 1) d lt in
      let less : cell_cmp (key_at cells k) (key_at cells (k + 1)) ≡ Less = next-less (keys_of_cells cells) k (k + 1) [] (rising-from (keys_of_cells cells) up) refl (omega arith) in
      ap is_lt (turned (get_or cells k d).classes (get_or cells (k + 1) d).classes Less ((λ i. cell_cmp (first i) (second i)) ∙ less)))

  -- what a binary search among cells in order finds
  pub cell_place : (classes : List ℕ) (r : Result ℕ ℕ) → rises cell_cmp (keys_of_cells cells) ≡ true → IsSearchInRange r (length cells)
      → IsBinarySearchResult (λ (cell : Cell). cell_cmp cell.classes classes) cells r → IsCellIndex cells classes r
  cell_place classes (Ok i) up within found = record { within = within; here = sym (key-here i empty_cell within) ∙ exact_bytes (get_or cells i empty_cell).classes classes (found empty_cell) }
  cell_place classes (Err i) up within found =
      let point = found (searchable classes up) in
      record {
        within = within;
        before = λ k lt. ap (λ x. cell_cmp x classes) (sym (key-here k empty_cell (omega arith))) ∙ point.0 k empty_cell (omega arith) lt;
        behind = λ k le lt. ap (λ x. cell_cmp x classes) (sym (key-here k empty_cell lt)) ∙ point.1 k empty_cell le lt;
      }
