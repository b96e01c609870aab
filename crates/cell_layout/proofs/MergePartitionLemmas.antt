-- Rows that were placed apart, added to those that stand.
use Rattle.std.proofs.Common.{◌≡◌, ◌≤◌, ℕ, ◌+◌, true, not, List, [], ◌∷◌, ◌++◌, map, filter, length, nat_le, All, refl, sym, ap, subst, ◌∙◌, arith}
use Rattle.std.proofs.lemmas.Bool.{and_from}
use Rattle.std.proofs.lemmas.List.{append-nil, map-append, length-append}
use Rattle.std.proofs.lemmas.List.Elements.{filter-append, All-head, All-tail}
use Rattle.blink_lists.specs.Lists.{rises}
use Rattle.blink_base.specs.Values.{Row}
use Rattle.order_codes.specs.Dictionary.{Classes}
use Rattle.cell_layout.specs.declared.cell.Cell.{Cell}
use Rattle.cell_layout.specs.Image.{CodedRow, is_coded, coded}
use Rattle.cell_layout.specs.Layout.{cell_cmp, same_cell, cells_of}
use Rattle.blink_lists.specs.declared.limits.TheConstants.{MOST_ROWS}
use Rattle.cell_layout.specs.CellRepr.{IsCellRepr, cell_image}
use Rattle.cell_layout.specs.CellIndex.{keys_of_cells}
use Rattle.cell_layout.specs.InsertRow.{keys_in, Rising}
use Rattle.cell_layout.specs.RowPartition.{ArePlaced}
use Rattle.cell_layout.specs.InsertRowRepr.{rows_in_all}
use Rattle.cell_layout.specs.MergeCells.{AreBothPlaced, IsSameButRoom, AreAlike, AreMerged, lookup}
use Rattle.cell_layout.proofs.RepartitionLemmas.{filled}
use Rattle.cell_layout.proofs.PlacedImageLemmas.{cells_rise}
use Rattle.cell_layout.proofs.InsertRowReprLemmas.{keys-image}
use Rattle.cell_layout.proofs.CellIndexLemmas.{rising-from}
use Rattle.cell_layout.proofs.CellLookupLemmas.{are_filled, own_codes, same_lookups, lookup-cells, cells_filled}
use Rattle.cell_layout.proofs.ImageRoomLemmas.{same_placed}

-- the coded rows
abbrev coded_rows : List Classes → List Row → List CodedRow
coded_rows columns rows = map (coded columns) (filter (is_coded columns) rows)

coded_rows-append : (columns : List Classes) (rows batch : List Row) → coded_rows columns (rows ++ batch) ≡ coded_rows columns rows ++ coded_rows columns batch
coded_rows-append columns rows batch =
    ap (map (coded columns)) (filter-append (is_coded columns) rows batch) ∙ map-append (coded columns) (filter (is_coded columns) rows) (filter (is_coded columns) batch)

own_codes-append : (k : List ℕ) (rows more : List CodedRow) → own_codes k (rows ++ more) ≡ own_codes k rows ++ own_codes k more
own_codes-append k rows more =
    ap (map (λ (r : CodedRow). r.codes)) (filter-append (λ (r : CodedRow). same_cell k r.classes) rows more)
    ∙ map-append (λ (r : CodedRow). r.codes) (filter (λ (r : CodedRow). same_cell k r.classes) rows) (filter (λ (r : CodedRow). same_cell k r.classes) more)

kept_filled : (columns : List Classes) (cells : List Cell) → All (IsCellRepr columns) cells → are_filled (map cell_image cells) ≡ true
kept_filled columns [] repr = refl
kept_filled columns (cell ∷ cells) repr =
    and_from (nat_le 1 (length (cell_image cell).rows)) (are_filled (map cell_image cells)) (filled columns (cell_image cell) (All-head (IsCellRepr columns) cell cells repr).good)
    (kept_filled columns cells (All-tail (IsCellRepr columns) cell cells repr))

-- the rows of both
pub added_placed : (columns : List Classes) (rows batch : List Row) (old mid new more : List Cell) (rest mid_rest new_rest more_rest : List Row) → IsSameButRoom old rest mid mid_rest → AreMerged mid more new [] → new_rest ≡ mid_rest ++ more_rest
    → ArePlaced columns rows old rest → ArePlaced columns batch more more_rest → ArePlaced columns (rows ++ batch) new new_rest
added_placed columns rows batch old mid new more rest mid_rest new_rest more_rest same merged put standing added =
    let first = same_placed columns rows old mid rest mid_rest same standing in
    let both = merged.repr columns first.repr added.repr in
    let n = length-append rows batch in
    let m = ap length put ∙ length-append mid_rest more_rest in
    let counted = merged.counted in
    let counted_first = first.counted in
    let counted_added = added.counted in
    record {
      image = same_lookups (map cell_image new) (cells_of (coded_rows columns (rows ++ batch))) (subst Rising (sym (keys-image new)) (rising-from (keys_of_cells new) merged.order))
          (rising-from (keys_in (cells_of (coded_rows columns (rows ++ batch)))) (cells_rise (coded_rows columns (rows ++ batch)))) (kept_filled columns new both.0) (cells_filled (coded_rows columns (rows ++ batch)))
          (λ k.
          sym (append-nil (lookup k (map cell_image new))) ∙ merged.found k
          ∙ (λ i. lookup k (first.image i) ++ lookup k (added.image i))
          ∙ (λ i. lookup-cells k (coded_rows columns rows) i ++ lookup-cells k (coded_rows columns batch) i)
          ∙ sym (own_codes-append k (coded_rows columns rows) (coded_rows columns batch))
          ∙ ap (own_codes k) (sym (coded_rows-append columns rows batch))
          ∙ sym (lookup-cells k (coded_rows columns (rows ++ batch))));
      others = put ∙ (λ i. first.others i ++ added.others i) ∙ sym (filter-append (λ row. not (is_coded columns row)) rows batch);
      repr = both.0;
      order = merged.order;
      counted = omega arith;
    }

-- what the parts of both are
pub both_alike : (old mid more : List Cell) (rest mid_rest more_rest : List Row) → AreBothPlaced old rest more more_rest → IsSameButRoom old rest mid mid_rest → AreAlike mid more
both_alike old mid more rest mid_rest more_rest both same = record {
  columns = both.columns;
  standing = (same_placed both.columns both.rows old mid rest mid_rest same both.standing).repr;
  added = both.added.repr;
}

pub both_rise : (old mid more : List Cell) (rest mid_rest more_rest : List Row) → AreBothPlaced old rest more more_rest → IsSameButRoom old rest mid mid_rest → rises cell_cmp (keys_of_cells mid) ≡ true
both_rise old mid more rest mid_rest more_rest both same = (same_placed both.columns both.rows old mid rest mid_rest same both.standing).order

pub both_few : (old mid more : List Cell) (rest mid_rest more_rest : List Row) → AreBothPlaced old rest more more_rest → IsSameButRoom old rest mid mid_rest → rows_in_all mid + rows_in_all more ≤ MOST_ROWS
both_few old mid more rest mid_rest more_rest both same =
    let first = (same_placed both.columns both.rows old mid rest mid_rest same both.standing).counted in
    let second = both.added.counted in
    let few = both.few in
    omega arith
