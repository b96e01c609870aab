-- The selected rows of a page of the fact are joined, and what is summed of them is good whole numbers.
use Rattle.std.proofs.Common.{◌≡◌, ◌<◌, ◌*◌, ℕ, Bool, true, ◌&&◌, List, [], flat_map, take, drop, length, sym, ap, ◌∙◌}
use Rattle.std.specs.List.{list_all}
use Rattle.std.proofs.lemmas.List.{take-append-drop}
use Rattle.std.proofs.lemmas.List.Folds.{list_all-append, list_all-map}
use Rattle.blink_base.specs.RowFits.{fits}
use Rattle.blink_base.specs.Values.{Row}
use Rattle.blink_lists.specs.declared.limits.TheConstants.{PAGE_ROWS}
use Rattle.blink_lists.proofs.AllLemmas.{all_at, all-flat_map}
use Rattle.blink_lists.proofs.BoolLemmas.{all_both}
use Rattle.blink_lists.proofs.GroupLemmas.{both}
use Rattle.star_bind.specs.declared.query.Query.{Query}
use Rattle.star_bind.specs.BoundQuery.{scope_of, query_of}
use Rattle.star_bind.specs.Joins.{is_wanted}
use Rattle.cell_layout.specs.Image.{TableImage, cell_at, decoded_row, cell_rows}
use Rattle.cell_layout.specs.Valid.{are_codes, is_cell, is_valid}
use Rattle.cell_layout.proofs.PlacedImageLemmas.{valid_parts}
use Rattle.cell_layout.proofs.RowFitLemmas.{valid_fits}
use Rattle.code_join.specs.Keys.{Keyed}
use Rattle.code_group.specs.Entries.{has_keys}
use Rattle.code_group.specs.GroupRows.{picked_of}
use Rattle.code_group.specs.Plans.{sums_numbers}
use Rattle.star_select.specs.CodeSelection.{codes_selected, SelectsByCodes}
use Rattle.star_select.specs.ImageAnswer.{image_keys, FactNamed}
use Rattle.star_select.specs.KeySets.{is_selected}
use Rattle.star_select.specs.Picks.{tied_columns}
use Rattle.star_select.specs.Preconditions.{PagesAreJoined, SumsAreNumbers}
use Rattle.star_select.specs.QueryPlan.{plan_of}
use Rattle.star_select.proofs.CodeSelectionLemmas.{cell-parts, filter-good}
use Rattle.star_select.proofs.ListLemmas.{all-place}

-- what holds of all rows of a cell holds of those of a page
in-page : {X : Type 0} (p : X → Bool) (rows : List X) (from many : ℕ) → list_all p rows ≡ true → list_all p (take many (drop from rows)) ≡ true
in-page p rows from many h =
    let behind = (both (list_all p (take from rows)) (list_all p (drop from rows)) (sym (list_all-append p (take from rows) (drop from rows)) ∙ ap (list_all p) (take-append-drop from rows) ∙ h)).1 in
    (both (list_all p (take many (drop from rows))) (list_all p (drop many (drop from rows)))
    (sym (list_all-append p (take many (drop from rows)) (drop many (drop from rows))) ∙ ap (list_all p) (take-append-drop many (drop from rows)) ∙ behind)).0

-- the rows of a cell of a valid image fit
cell-fits : (image : TableImage) (cell : ℕ) → is_valid image ≡ true → cell < length image.cells → list_all (λ codes. fits image.schema (decoded_row image.columns (cell_at image cell).classes codes)) (cell_at image cell).rows ≡ true
cell-fits image cell valid l =
    let all = (both (list_all (fits image.schema) (flat_map (cell_rows image) image.cells)) (list_all (fits image.schema) image.rest) (sym (list_all-append (fits image.schema) (flat_map (cell_rows image) image.cells) image.rest) ∙ valid_fits image valid)).0 in
    let one = all_at (λ c. list_all (fits image.schema) (cell_rows image c)) image.cells cell (record { classes = []; rows = [] }) (sym (all-flat_map (fits image.schema) (cell_rows image) image.cells) ∙ all) l in
    sym (list_all-map (fits image.schema) (decoded_row image.columns (cell_at image cell).classes) (cell_at image cell).rows) ∙ one

pub pages_are_joined : SelectsByCodes → FactNamed → SumsAreNumbers → PagesAreJoined
pages_are_joined by_codes named sums schemas s images image cell page has here l =
    let query : Query = query_of schemas s in
    let keys : List Keyed = image_keys query (scope_of schemas s) images in
    let valid = all-place is_valid images query.fact image has.valid here in
    let parts = cell-parts image.columns (cell_at image cell) (all_at (is_cell image.columns) image.cells cell (record { classes = []; rows = [] }) (valid_parts image valid).cells l) in
    let row : List ℕ → Row = decoded_row image.columns (cell_at image cell).classes in
    let good : List ℕ → Bool = λ codes. are_codes image.columns (cell_at image cell).classes codes && fits image.schema (row codes) in
    let rows = in-page good (cell_at image cell).rows (page * PAGE_ROWS) PAGE_ROWS
    (all_both (are_codes image.columns (cell_at image cell).classes) (λ codes. fits image.schema (row codes)) (cell_at image cell).rows parts.1 (cell-fits image cell valid l)) in
    let names = named schemas s images image has here in
    let selected : (codes : List ℕ) → are_codes image.columns (cell_at image cell).classes codes ≡ true → codes_selected image.columns (cell_at image cell).classes query keys codes ≡ true → is_selected query keys (row codes) ≡ true
    = λ codes g c. sym (by_codes image.columns (cell_at image cell).classes codes query keys parts.0 g names) ∙ c in
    record {
      joined = filter-good good (codes_selected image.columns (cell_at image cell).classes query keys) (λ codes. has_keys (tied_columns query) keys (row codes))
          (λ codes w c.
          let b = both (are_codes image.columns (cell_at image cell).classes codes) (fits image.schema (row codes)) w in
          (both (is_wanted query query.fact (row codes)) (has_keys (tied_columns query) keys (row codes)) (selected codes b.0 c)).1) _ rows;
      numbers = filter-good good (codes_selected image.columns (cell_at image cell).classes query keys) (λ codes. sums_numbers (plan_of query) (picked_of image (cell_at image cell) (plan_of query) keys codes))
          (λ codes w c.
          let b = both (are_codes image.columns (cell_at image cell).classes codes) (fits image.schema (row codes)) w in
          sums schemas s images image has here (row codes) b.1 (selected codes b.0 c)) _ rows;
    }
