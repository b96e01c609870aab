use Rattle.std.proofs.Common.{◌≡◌, ◌<◌, ◌≤◌, ◌⊎◌, ⊎_elim, [], get_or, Some, false, sym, ap, ◌∙◌, arith}
use Rattle.std.proofs.lemmas.Bool.{cases_lt}
use Rattle.std.proofs.lemmas.List.{get_or_default}
use Rattle.cell_layout.specs.CellRepr.{IsCellRepr, row_of_codes}
use Rattle.order_codes.specs.Dictionary.{decoded}
use Rattle.cell_layout.proofs.KeyPlaceLemmas.{in_some, in_none, key_there, key_not_there, key_absent, place_only, holds_code}
use Rattle.cell_layout.proofs.duplicate_keys.is_in_cells.Goals as goal
use Rattle.cell_layout.proofs.duplicate_keys.is_in_cells.Goals.{else-as_slice-column-via-then-as_slice-column+else-has_code, else-as_slice-column-via-else-as_slice-column}

pub returns-in_default : goal.returns-in_default
returns-in_default g c =
    let one : c.index-dicts-column.result ≡ get_or c.args.dicts.now c.args.column [] = c.index-dicts-column.is ∙ get_or_default c.args.dicts.now c.args.column c.index-dicts-column.result [] c.requires.column in
    sym (in_none c.args.dicts.now c.args.column c.args.value.now c.args.cells.now (λ k d lt.
    key_absent c.args.dicts.now c.args.column c.args.value.now (get_or c.args.cells.now k d) (c.requires.repr k d lt) c.requires.column (λ row row_in is.
    let none : decoded c.index-dicts-column.result (get_or (get_or c.args.cells.now k d).classes c.args.column 0) (get_or (row_of_codes (get_or c.args.cells.now k d).codes row) c.args.column 0) ≡ Some c.args.value.now = rw one is in
    c.in_default.not-Some _ (c.find.ensures.there _ _ none))))

pub loop-cell-init : goal.loop-cell-init
loop-cell-init g c = λ k d lt. absurd (omega arith)

pub returns-then-has_code : goal.returns-then-has_code
returns-then-has_code g c =
    let one : c.index-dicts-column.result ≡ get_or c.args.dicts.now c.args.column [] = c.index-dicts-column.is ∙ get_or_default c.args.dicts.now c.args.column c.index-dicts-column.result [] c.requires.column in
    let back : decoded c.index-dicts-column.result c.in-Some.place.class c.in-Some.place.code ≡ Some c.args.value.now = c.in-Some.ensures.back in
    let class : get_or c.cell-item.result.classes c.args.column 0 ≡ c.in-Some.place.class = ap (λ l. get_or l c.args.column 0) (sym c.as_slice.ensures) ∙ c.if-as_slice-column.true in
    let repr : IsCellRepr c.args.dicts.now c.cell-item.result = rw c.cell-item.is (c.requires.repr c.loop-cell.cell-index c.cell-item.result c.loop-cell-test.true) in
    let there = key_there c.args.dicts.now c.args.column c.in-Some.place.class c.in-Some.place.code c.args.value.now c.cell-item.result repr c.requires.column (rw (← one) back) class (sym (c.if-has_code.ensures ([], 0))) in
    sym (in_some c.args.dicts.now c.args.column c.args.value.now c.args.cells.now c.loop-cell.cell-index c.cell-item.result c.loop-cell-test.true (rw (← c.cell-item.is) there))

pub loop-cell-preserved : goal.loop-cell-preserved
loop-cell-preserved g c = λ k d lt.
    let one : c.index-dicts-column.result ≡ get_or c.args.dicts.now c.args.column [] = c.index-dicts-column.is ∙ get_or_default c.args.dicts.now c.args.column c.index-dicts-column.result [] c.requires.column in
    let repr : IsCellRepr c.args.dicts.now c.cell-item.result = rw c.cell-item.is (c.requires.repr c.loop-cell.cell-index c.cell-item.result c.loop-cell-test.true) in
    let none : get_or c.cell-item.result.classes c.args.column 0 ≡ c.in-Some.place.class → holds_code c.cell-item.result c.args.column c.in-Some.place.code ≡ false =
    (λ same. elim c.else-as_slice-column.branch [
      | else-as_slice-column-via-then-as_slice-column+else-has_code w ↦ sym (w.if-has_code.ensures ([], 0))
      | else-as_slice-column-via-else-as_slice-column w ↦ absurd (w.if-as_slice-column.false (ap (λ l. get_or l c.args.column 0) c.as_slice.ensures ∙ same))
    ]) in
    let absent = key_not_there c.args.dicts.now c.args.column c.in-Some.place.class c.in-Some.place.code c.args.value.now c.cell-item.result repr c.requires.column
    (λ class code is.
    let found : decoded c.index-dicts-column.result class code ≡ Some c.args.value.now = rw one is in
    place_only c.index-dicts-column.result c.args.value.now c.find.result c.in-Some.place class code c.in-Some.is (c.find.ensures.there class code found))
    none in
    let l : (k < c.loop-cell.cell-index) ⊎ (c.loop-cell.cell-index ≤ k) = cases_lt k c.loop-cell.cell-index in
    ⊎_elim (λ a. c.loop-cell.invariant k d a)
    (λ a.
    let at : k ≡ c.loop-cell.cell-index = omega arith in
    let here : get_or c.args.cells.now k d ≡ c.cell-item.result =
    ap (λ j. get_or c.args.cells.now j d) at ∙ get_or_default c.args.cells.now c.loop-cell.cell-index d c.cell-item.result c.loop-cell-test.true ∙ sym c.cell-item.is in
    rw here absent) l

pub returns : goal.returns
returns g c =
    let end = c.loop-cell-test.false in
    sym (in_none c.args.dicts.now c.args.column c.args.value.now c.args.cells.now (λ k d lt. c.loop-cell.invariant k d (omega arith)))
