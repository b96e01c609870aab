-- The selected rows of a page, added one after another to the groups of their cell.
use Rattle.std.proofs.Common.{◌≡◌, ◌<◌, ◌≤◌, ◌+◌, ◌*◌, ◌==◌, ℕ, suc, true, false, List, [], ◌∷◌, map, length, pos, ◌^◌, None, Option, slice_index_or, refl, sym, ap, ◌∙◌, arith}
use Rattle.std.specs.List.{list_all}
use Rattle.std.proofs.lemmas.Bool.{le-leb}
use Rattle.blink_lists.specs.declared.limits.TheConstants.{MOST_ROWS, PAGE_ROWS}
use Rattle.blink_lists.proofs.AllLemmas.{all_at}
use Rattle.blink_lists.proofs.GroupLemmas.{both, and_both}
use Rattle.cell_layout.specs.Image.{cell_at}
use Rattle.cell_layout.specs.Valid.{are_codes}
use Rattle.cell_scan.specs.Match.{rows_of_page}
use Rattle.late_decode.specs.declared.plan.Measure.TheVariants.{Count}
use Rattle.late_decode.specs.declared.plan.Part.{Part}
use Rattle.late_decode.specs.declared.plan.Pick.{Pick}
use Rattle.late_decode.specs.BoundLaws.{AddedAreCoded, CodedCombinationsAdded, RowsAreParts}
use Rattle.late_decode.specs.Bounds.{is_bounded, are_parts, are_groups, combinations_in}
use Rattle.late_decode.specs.Groups.{Grouped, added, rows_added}
use Rattle.late_decode.specs.Parts.{parts_over}
use Rattle.code_group.specs.CellLaws.{CellFacts}
use Rattle.code_group.specs.CellRow.{IsTied, picked_by, tuple_by}
use Rattle.code_group.specs.Entries.{entry_in, maps_in, size_in}
use Rattle.code_group.specs.GroupRows.{picked_of, tuple_of}
use Rattle.code_group.specs.PageGroups.{SelectedPage, MayGroup, AreReady, AreAdded, HaveAll, codes_at, row_at, selected_from, count_from, row_joined, row_sums, page_sizes, page_added, page_within}
use Rattle.code_group.specs.Plans.{pick_there, measure_there, measure_sums, are_of_plan}
use Rattle.code_group.specs.RowParts.{rows_counted}
use Rattle.code_group.specs.Slots.{is_within}
use Rattle.code_group.specs.Tuples.{same_tuple}
use Rattle.code_group.proofs.BoundLemmas.{row-parts, row-combination, added-pass, added-new, coded-of-plan}
use Rattle.code_group.proofs.CellLemmas.{cell-facts, valid-cell}
use Rattle.code_group.proofs.CountLemmas.{counted}
use Rattle.code_group.proofs.RowPartLemmas.{length-map}
use Rattle.code_group.proofs.SelectedRowLemmas.{selected-next, selected-none, selected-within, selected-many, page-row}

pub one-more : (n v : ℕ) → (n + 1) * v ≡ n * v + v
one-more n v = grind arith

module _ (p : SelectedPage) (maps : List (List (Option ℕ))) (may : MayGroup p maps) where
  pub facts : CellFacts p.image.columns (cell_at p.image p.cell)
  facts = cell-facts p.image.columns (cell_at p.image p.cell) (valid-cell p.image p.cell may.valid may.cell)

  abbrev all_rows : List (List ℕ)
  all_rows = (cell_at p.image p.cell).rows

  abbrev own_rows : List (List ℕ)
  own_rows = rows_of_page all_rows p.page

  pub at-row : (at : ℕ) → slice_index_or p.bits at false ≡ true → (codes_at p at ≡ slice_index_or all_rows (p.page * PAGE_ROWS + at) []) × (p.page * PAGE_ROWS + at < length all_rows)
  at-row at here = page-row all_rows p.page at (selected-within (length own_rows) p.bits at may.bits here)

  pub at-tied : (at : ℕ) → slice_index_or p.bits at false ≡ true → row_joined p (codes_at p at) ≡ true → IsTied (row_at p at) maps
  at-tied at here joined =
      let row = at-row at here in
      record {
        classes = facts.classes;
        codes = all_at (are_codes p.image.columns (cell_at p.image p.cell).classes) all_rows (p.page * PAGE_ROWS + at) [] facts.codes row.1;
        mapped = may.mapped;
        many = may.many;
        within = may.tied;
        joined = ap (row_joined p) (sym row.0) ∙ joined;
      }

  pub keys-there : list_all (pick_there (length p.image.columns) p.keys) p.plan.keys ≡ true
  keys-there = (both _ (list_all (measure_there (length p.image.columns) p.keys) p.plan.measures) may.there).0

  pub measures-there : list_all (measure_there (length p.image.columns) p.keys) p.plan.measures ≡ true
  measures-there = (both (list_all (pick_there (length p.image.columns) p.keys) p.plan.keys) (list_all (measure_there (length p.image.columns) p.keys) p.plan.measures) may.there).1

  -- ---- one row after another

  pub start : (groups : Grouped (List ℕ)) → AreReady p groups → AreAdded p 0 groups groups
  start groups ready = record {
    added = refl;
    planned = ready.planned;
    within = λ h. h;
    few = omega arith;
    grown = omega arith;
    joined = may.joined;
    numbers = may.numbers;
  }

  module _ (from at : ℕ) (old groups : Grouped (List ℕ)) (had : AreAdded p from old groups) (low : from ≤ at) (least : (k : ℕ) → from ≤ k → k < at → slice_index_or p.bits k false ≡ false)
      (here : slice_index_or p.bits at false ≡ true) where
    next : (selected_from p from ≡ codes_at p at ∷ selected_from p (at + 1)) × (count_from p from ≡ suc (count_from p (at + 1)))
    next =
        let step = selected-next from at p.bits own_rows low (selected-within (length own_rows) p.bits at may.bits here) least here in
        let more : suc at ≡ at + 1 = omega arith in
        (step.0 ∙ ap (λ k. codes_at p at ∷ selected_from p k) more, step.1 ∙ ap (λ k. suc (count_from p k)) more)

    pub next-count : count_from p from ≡ count_from p (at + 1) + 1
    next-count = omega (arith, next.1)

    all-joined : (row_joined p (codes_at p at) ≡ true) × (list_all (row_joined p) (selected_from p (at + 1)) ≡ true)
    all-joined = both (row_joined p (codes_at p at)) (list_all (row_joined p) (selected_from p (at + 1))) (ap (list_all (row_joined p)) (sym next.0) ∙ had.joined)

    all-numbers : (row_sums p (codes_at p at) ≡ true) × (list_all (row_sums p) (selected_from p (at + 1)) ≡ true)
    all-numbers = both (row_sums p (codes_at p at)) (list_all (row_sums p) (selected_from p (at + 1))) (ap (list_all (row_sums p)) (sym next.0) ∙ had.numbers)

    pub next-joined : row_joined p (codes_at p at) ≡ true
    next-joined = all-joined.0

    pub next-numbers : list_all (measure_sums (picked_by (row_at p at))) p.plan.measures ≡ true
    next-numbers = ap (row_sums p) (sym (at-row at here).0) ∙ all-numbers.0

    pub next-few : AreReady p old → combinations_in p.plan.measures groups < MOST_ROWS
    next-few ready = omega (arith, had.few, next-count, ready.few)

    pub next-groups : are_groups p.plan.measures groups ≡ true
    next-groups = (both (are_groups p.plan.measures groups) (list_all (λ (group : List ℕ × List Part). length group.0 == length p.plan.keys) groups) had.planned).0

    pub next-added : AddedAreCoded → CodedCombinationsAdded → RowsAreParts → (new : Grouped (List ℕ)) → is_within (page_sizes p) (tuple_by (row_at p at) p.plan.keys) ≡ true
        → new ≡ added same_tuple p.plan.measures (tuple_by (row_at p at) p.plan.keys) (parts_over p.plan.measures (picked_by (row_at p at) ∷ [])) groups → AreAdded p (at + 1) old new
    next-added coded combinations bounded new fits made =
        let ms = p.plan.measures in
        let tuple : List ℕ = tuple_by (row_at p at) p.plan.keys in
        let parts : List Part = parts_over ms (picked_by (row_at p at) ∷ []) in
        let same = (at-row at here).0 in
        let as_codes : added same_tuple ms tuple parts groups ≡ added same_tuple ms (tuple_of p.image (cell_at p.image p.cell) p.plan p.keys (codes_at p at)) (parts_over ms (picked_of p.image (cell_at p.image p.cell) p.plan p.keys (codes_at p at) ∷ [])) groups =
        ap (λ codes. added same_tuple ms (tuple_of p.image (cell_at p.image p.cell) p.plan p.keys codes) (parts_over ms (picked_of p.image (cell_at p.image p.cell) p.plan p.keys codes ∷ [])) groups) (sym same) in
        let good = row-parts bounded ms (picked_by (row_at p at)) next-numbers in
        let one = row-combination ms (picked_by (row_at p at)) in
        let few = combinations same_tuple ms tuple parts groups in
        let fewer = ap (combinations_in ms) made in
        let longer = ap (λ (gs : Grouped (List ℕ)). length gs) made in
        let grown = added-new same_tuple ms tuple parts groups in
        record {
          added = ap (page_added p (selected_from p (at + 1))) (made ∙ as_codes) ∙ ap (λ rows. page_added p rows groups) (sym next.0) ∙ had.added;
          planned = ap (are_of_plan p.plan) made ∙ coded-of-plan coded same_tuple p.plan tuple parts groups good (length-map (entry_in p.plan.ties (maps_in p.image.columns (cell_at p.image p.cell).classes p.plan.ties p.keys) (slice_index_or all_rows (p.page * PAGE_ROWS + at) [])) p.plan.keys) had.planned;
          within = λ h. ap (page_within p) made ∙ added-pass same_tuple ms tuple parts (is_within (page_sizes p)) groups fits (had.within h);
          few = omega (arith, had.few, next-count, few, fewer, one);
          grown = omega (arith, had.grown, next-count, grown, longer);
          joined = all-joined.1;
          numbers = all-numbers.1;
        }

  pub end : (from : ℕ) (old new : Grouped (List ℕ)) → AreAdded p from old new → ((k : ℕ) → from ≤ k → slice_index_or p.bits k false ≡ false) → HaveAll p old new
  end from old new had none =
      let nothing = selected-none from p.bits own_rows none in
      let few = had.few in
      let grown = had.grown in
      record {
        added = ap (λ rows. page_added p rows new) (sym nothing) ∙ had.added;
        planned = had.planned;
        within = had.within;
        few = omega (arith, few);
        grown = omega (arith, grown);
      }

  -- ---- all at once

  module _ (keys : p.plan.keys ≡ []) (measures : p.plan.measures ≡ Count ∷ []) (old : Grouped (List ℕ)) (ready : AreReady p old) where
    pub nothing-counted : count_from p 0 ≡ 0 → HaveAll p old old
    nothing-counted none = by (selected_from p 0) refl
      where
        many : length (selected_from p 0) ≡ 0
        many = selected-many p.bits own_rows may.bits ∙ none

        by : (rows : List (List ℕ)) → selected_from p 0 ≡ rows → HaveAll p old old
        by [] e = record {
          added = ap (λ rows. page_added p rows old) (sym e);
          planned = ready.planned;
          within = λ h. h;
          few = omega arith;
          grown = omega arith;
        }
        by (row ∷ rows) e = absurd (omega (arith, many, ap (λ (l : List (List ℕ)). length l) e))

    pub all-counted : AddedAreCoded → CodedCombinationsAdded → (n : ℕ) (new : Grouped (List ℕ)) → n ≡ count_from p 0 → 0 < n
        → new ≡ added same_tuple p.plan.measures [] (rows_counted n) old → HaveAll p old new
    all-counted coded combinations n new same some made = by (selected_from p 0) refl
      where
        many : length (selected_from p 0) ≡ n
        many = selected-many p.bits own_rows may.bits ∙ sym same

        parts-good : are_parts p.plan.measures (rows_counted n) ≡ true
        parts-good = ap (λ ms. are_parts ms (rows_counted n)) measures ∙ and_both (is_bounded (record { count = n; sum = pos 0; bound = None })) true (le-leb 0 (10 ^ 30 * n) (omega arith)) refl

        by : (rows : List (List ℕ)) → selected_from p 0 ≡ rows → HaveAll p old new
        by [] e = absurd (omega (arith, many, some, ap (λ (l : List (List ℕ)). length l) e))
        by (row ∷ rows) e =
            let cell = cell_at p.image p.cell in
            let one : suc (length rows) ≡ n = omega (arith, many, ap (λ (l : List (List ℕ)). length l) e) in
            let all : page_added p (row ∷ rows) old ≡ added same_tuple (Count ∷ []) [] (rows_counted n) old =
            ap (λ ms. rows_added same_tuple ms (tuple_of p.image cell p.plan p.keys) (picked_of p.image cell p.plan p.keys) (row ∷ rows) old) measures
            ∙ counted (tuple_of p.image cell p.plan p.keys) (picked_of p.image cell p.plan p.keys)
            (λ codes. ap (map (entry_in p.plan.ties (maps_in p.image.columns cell.classes p.plan.ties p.keys) codes)) keys) row rows old
            ∙ ap (λ k. added same_tuple (Count ∷ []) [] (rows_counted k) old) one in
            let few = combinations same_tuple p.plan.measures [] (rows_counted n) old in
            let fewer = ap (combinations_in p.plan.measures) made in
            let grown = added-new same_tuple p.plan.measures [] (rows_counted n) old in
            let longer = ap (λ (gs : Grouped (List ℕ)). length gs) made in
            let none : is_within (page_sizes p) [] ≡ true = ap (λ ks. is_within (map (size_in p.image.columns cell.classes p.keys) ks) []) keys in
            record {
              added = made ∙ ap (λ ms. added same_tuple ms [] (rows_counted n) old) measures ∙ sym all ∙ ap (λ rows. page_added p rows old) (sym e);
              planned = ap (are_of_plan p.plan) made ∙ coded-of-plan coded same_tuple p.plan [] (rows_counted n) old parts-good (ap (λ (ks : List Pick). length ks) (sym keys)) ready.planned;
              within = λ h. ap (page_within p) made ∙ added-pass same_tuple p.plan.measures [] (rows_counted n) (is_within (page_sizes p)) old none h;
              few = omega (arith, few, fewer, same);
              grown = omega (arith, grown, longer, same, some);
            }
