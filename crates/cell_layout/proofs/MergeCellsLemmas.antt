-- Cells that are added to others.
use Rattle.std.proofs.Common.{◌≡◌, ◌≢◌, ◌≤◌, ◌<◌, ℕ, suc, ◌+◌, true, false, List, [], ◌∷◌, ◌++◌, map, length, get_or, set, insert, take, drop, cond, All, sym, ap, subst, ◌∙◌, append_assoc, arith, inl, inr, ◌⊎◌}
use Rattle.std.specs.declared.cmp.Ordering.TheVariants.{Less}
use Rattle.std.specs.Ordering.{is_eq}
use Rattle.std.proofs.lemmas.Bool.{cases_order}
use Rattle.std.proofs.lemmas.Cmp.{nat_list_cmp_total, tied_itself}
use Rattle.std.proofs.lemmas.List.{ext_get_or, get_or-map, get_or-set_same, get_or-set_other, map-set, set-get_or, length-map, length-set}
use Rattle.std.proofs.lemmas.List.Elements.{All-append, All-cons, All-head, All-tail, All-take, All-drop, All-set}
use Rattle.std.proofs.lemmas.List.Sums.{sum_by-cons, sum_by-set, sum_by-insert, sum_by_more_le}
use Rattle.blink_lists.specs.Lists.{rises}
use Rattle.order_codes.specs.Dictionary.{Classes}
use Rattle.cell_layout.specs.declared.cell.Cell.{Cell}
use Rattle.cell_layout.specs.Image.{CellImage}
use Rattle.cell_layout.specs.Layout.{cell_cmp, same_cell}
use Rattle.blink_lists.specs.declared.limits.TheConstants.{MOST_ROWS}
use Rattle.cell_layout.specs.CellRepr.{IsCellRepr, cell_image}
use Rattle.cell_layout.specs.CellIndex.{IsFound, IsMissing, keys_of_cells, key_at}
use Rattle.cell_layout.specs.InsertRow.{one_row, put_row, keys_in, Above, Rising}
use Rattle.cell_layout.specs.InsertRowRepr.{rows_in_all}
use Rattle.cell_layout.specs.MergeCells.{HaveRoom, HasRoomFor, HaveRoomFor, IsAbsorbedAt, rows_under, lookup, AreAlike, IsMergedIn, AreMerged}
use Rattle.cell_layout.proofs.InsertRowLemmas.{Rising-put}
use Rattle.cell_layout.proofs.CellLemmas.{same_back}
use Rattle.cell_layout.proofs.CellIndexLemmas.{rising-from, rises-from, above-at, key-here, empty_cell}
use Rattle.cell_layout.proofs.InsertRowReprLemmas.{keys-image, put-missing}
use Rattle.blink_lists.proofs.SliceLemmas.{map-insert}
use Rattle.cell_layout.proofs.CellLookupLemmas.{lookup-set, lookup-insert}
use Rattle.cell_layout.proofs.CellUnionLemmas.{absorbed_cell}
use Rattle.cell_layout.proofs.CellRoomLemmas.{less_tied}

repr_one : (columns : List Classes) (cell : Cell) → All (IsCellRepr columns) (cell ∷ []) → IsCellRepr columns cell
repr_one columns cell all = All-head (IsCellRepr columns) cell [] all

-- the cell that was found has room for these rows
pub room_here : (cells : List Cell) (at : ℕ) (cell : Cell) → AreAlike cells (cell ∷ []) → HasRoomFor cells cell.classes cell.rows → IsFound cells cell.classes at
    → (d : Cell) (k : ℕ) (e : List ℕ × ℕ) → k < length cell.codes → length (get_or cell.codes k e).0 ≤ (get_or (get_or cells at d).codes k e).1
room_here cells at cell alike room found d k e lt =
    let repr = repr_one alike.columns cell alike.added in
    let there = alike.standing at d found.within in
    let wide = repr.lists in
    let as_wide = there.lists in
    let size = repr.full k e lt in
    let low = room at d found.within (key-here cells at d found.within ∙ found.here) k e (omega arith) in
    omega arith

module _ (old new : List Cell) (at : ℕ) (cell : Cell) (alike : AreAlike old (cell ∷ [])) (up : rises cell_cmp (keys_of_cells old) ≡ true) (few : rows_in_all old + cell.rows ≤ MOST_ROWS) (found : IsFound old cell.classes at)
    (absorbed : IsAbsorbedAt old new at cell) where
  numbers : (get_or old at empty_cell).classes ≡ cell.classes
  numbers = key-here old at empty_cell found.within ∙ found.here

  whole : new ≡ set old at (get_or new at empty_cell)
  whole = ext_get_or empty_cell new (set old at (get_or new at empty_cell)) (absorbed.count ∙ sym (length-set old at (get_or new at empty_cell))) (λ i lt. by i (cases_order i at))
    where
      by : (i : ℕ) → (i ≡ at) ⊎ ((i < at) ⊎ (at < i)) → get_or new i empty_cell ≡ get_or (set old at (get_or new at empty_cell)) i empty_cell
      by i (inl e) = ap (λ k. get_or new k empty_cell) e ∙ sym (ap (λ k. get_or (set old at (get_or new at empty_cell)) k empty_cell) e ∙ get_or-set_same old at (get_or new at empty_cell) empty_cell found.within)
      by i (inr (inl less)) = let ne : i ≢ at = λ e. absurd (omega arith) in absorbed.others i empty_cell ne ∙ sym (get_or-set_other old at i (get_or new at empty_cell) empty_cell ne)
      by i (inr (inr more)) = let ne : i ≢ at = λ e. absurd (omega arith) in absorbed.others i empty_cell ne ∙ sym (get_or-set_other old at i (get_or new at empty_cell) empty_cell ne)

  low : (get_or old at empty_cell).rows + cell.rows ≤ MOST_ROWS
  low = let upto = sum_by_more_le (λ (c : Cell). c.rows) old at empty_cell found.within in omega arith

  same_keys : keys_of_cells new ≡ keys_of_cells old
  same_keys =
      let here = (absorbed.here empty_cell).same_classes in
      ap keys_of_cells whole ∙ map-set (λ (c : Cell). c.classes) old at (get_or new at empty_cell) ∙ ap (set (keys_of_cells old) at) (here ∙ key-here old at empty_cell found.within) ∙ set-get_or (keys_of_cells old) at []

  found_lookup : (k : List ℕ) → lookup k (map cell_image new) ≡ lookup k (map cell_image old) ++ rows_under k (cell_image cell)
  found_lookup k =
      let it = absorbed_cell alike.columns (get_or old at empty_cell) (get_or new at empty_cell) cell (alike.standing at empty_cell found.within) (repr_one alike.columns cell alike.added) (absorbed.here empty_cell) numbers low in
      let view : get_or (map cell_image old) at (cell_image empty_cell) ≡ cell_image (get_or old at empty_cell) = get_or-map cell_image old at empty_cell (cell_image empty_cell) found.within in
      let rising : Rising (keys_in (map cell_image old)) = subst Rising (sym (keys-image old)) (rising-from (keys_of_cells old) up) in
      let n = length-map old cell_image in
      let inside = found.within in
      let here = (absorbed.here empty_cell).same_classes in
      ap (λ l. lookup k (map cell_image l)) whole ∙ ap (lookup k) (map-set cell_image old at (get_or new at empty_cell))
      ∙ lookup-set k (map cell_image old) at (cell_image empty_cell) (cell_image (get_or new at empty_cell)) (cell_image cell).rows rising (omega arith)
      (here ∙ ap (λ (c : CellImage). c.classes) (sym view)) (ap (λ (c : CellImage). c.rows) it.image ∙ ap (λ (c : CellImage). c.rows ++ (cell_image cell).rows) (sym view))
      ∙ ap (λ j. lookup k (map cell_image old) ++ cond (same_cell k j) (cell_image cell).rows []) (here ∙ numbers)

  pub merged_found : IsMergedIn old new cell
  merged_found =
      let sums = sum_by-set (λ (c : Cell). c.rows) old at (get_or new at empty_cell) empty_cell found.within in
      let more = (absorbed.here empty_cell).rows in
      let total = ap rows_in_all whole in
      record {
        order = ap (rises cell_cmp) same_keys ∙ up;
        found = found_lookup;
        repr = λ columns repr more_repr. subst (All (IsCellRepr columns)) (sym whole) (All-set (IsCellRepr columns) old at (get_or new at empty_cell)
            (absorbed_cell columns (get_or old at empty_cell) (get_or new at empty_cell) cell (repr at empty_cell found.within) more_repr (absorbed.here empty_cell) numbers low).repr repr);
        counted = omega arith;
        room = λ classes rows ne has.
            let here = (absorbed.here empty_cell).same_classes in
            subst (λ l. HasRoomFor l classes rows) (sym whole) (All-set (λ (c : Cell). c.classes ≡ classes → HaveRoom c.codes rows) old at (get_or new at empty_cell) (λ e. absurd (ne (sym numbers ∙ sym here ∙ e))) has);
      }

-- a cell that has no fellow
module _ (old new : List Cell) (at : ℕ) (cell : Cell) (up : rises cell_cmp (keys_of_cells old) ≡ true) (missing : IsMissing old cell.classes at) (put : new ≡ insert old at cell) where
  key : (k : ℕ) → k < length old → (get_or (map cell_image old) k (cell_image empty_cell)).classes ≡ key_at old k
  key k lt = ap (λ (c : CellImage). c.classes) (get_or-map cell_image old k empty_cell (cell_image empty_cell) lt) ∙ key-here old k empty_cell lt

  new_keys : Rising (keys_of_cells new)
  new_keys =
      let n = length-map old cell_image in
      let inside = missing.within in
      let rising : Rising (keys_in (map cell_image old)) = subst Rising (sym (keys-image old)) (rising-from (keys_of_cells old) up) in
      let placed : put_row (record { classes = cell.classes; codes = [] }) (map cell_image old) ≡ insert (map cell_image old) at (one_row (record { classes = cell.classes; codes = [] })) =
      put-missing (record { classes = cell.classes; codes = [] }) (map cell_image old) at (cell_image empty_cell) (omega arith) (λ k lt. ap (λ x. cell_cmp x cell.classes) (key k (omega arith)) ∙ missing.before k lt)
      (λ k le lt. ap (λ x. cell_cmp x cell.classes) (key k (omega arith)) ∙ missing.behind k le (omega arith)) in
      let numbers : keys_in (put_row (record { classes = cell.classes; codes = [] }) (map cell_image old)) ≡ keys_of_cells new =
      ap keys_in placed ∙ map-insert (λ (c : CellImage). c.classes) (map cell_image old) at (one_row (record { classes = cell.classes; codes = [] }))
      ∙ ap (λ l. insert l at cell.classes) (keys-image old) ∙ sym (ap keys_of_cells put ∙ map-insert (λ (c : Cell). c.classes) old at cell) in
      subst Rising numbers (Rising-put (record { classes = cell.classes; codes = [] }) (map cell_image old) rising)

  other : (j : ℕ) → j < length (map cell_image old) → same_cell cell.classes (get_or (keys_in (map cell_image old)) j []) ≡ false
  other j lt =
      let n = length-map old cell_image in
      ap (λ l. same_cell cell.classes (get_or l j [])) (keys-image old) ∙ by (cases_order j at)
    where
      by : (j ≡ at) ⊎ ((j < at) ⊎ (at < j)) → same_cell cell.classes (key_at old j) ≡ false
      by (inl e) = let n = length-map old cell_image in same_back cell.classes (key_at old j) ∙ ap is_eq (missing.behind j (omega arith) (omega arith))
      by (inr (inl less)) = same_back cell.classes (key_at old j) ∙ ap is_eq (missing.before j less)
      by (inr (inr more)) = let n = length-map old cell_image in same_back cell.classes (key_at old j) ∙ ap is_eq (missing.behind j (omega arith) (omega arith))

  parts : (P : Cell → Type 0) → P cell → All P old → All P new
  parts P here all = subst (All P) (sym put) (All-append P (take at old) (cell ∷ drop at old) (All-take P at old all) (All-cons P cell (drop at old) here (All-drop P at old all)))

  pub merged_missing : IsMergedIn old new cell
  merged_missing =
      let sums = sum_by-insert (λ (c : Cell). c.rows) old at cell in
      let total = ap rows_in_all put in
      record {
        order = rises-from (keys_of_cells new) new_keys;
        found = λ k. ap (λ l. lookup k (map cell_image l)) put ∙ ap (lookup k) (map-insert cell_image old at cell) ∙ lookup-insert k (map cell_image old) at (cell_image cell) other;
        repr = λ columns repr more_repr. parts (IsCellRepr columns) more_repr repr;
        counted = total ∙ sums;
        room = λ classes rows ne has. parts (λ (c : Cell). c.classes ≡ classes → HaveRoom c.codes rows) (λ e. absurd (ne e)) has;
      }

-- one more of the cells that are left
pub merged_more : (old more now new left : List Cell) (cell : Cell) → AreMerged old more now (cell ∷ left) → IsMergedIn now new cell → AreMerged old more new left
merged_more old more now new left cell merged one =
    let rising = rising-from (keys_of_cells (cell ∷ left)) merged.order_left in
    let sums = sum_by-cons (λ (c : Cell). c.rows) cell left in
    let first = merged.counted in
    let second = one.counted in
    record {
      order = one.order;
      order_left = rises-from (keys_of_cells left) rising.1;
      found = λ k.
          ap (λ l. l ++ lookup k (map cell_image left)) (one.found k) ∙ append_assoc (lookup k (map cell_image now)) (rows_under k (cell_image cell)) (lookup k (map cell_image left)) ∙ merged.found k;
      repr = λ columns repr added.
          let both = merged.repr columns repr added in
          (one.repr columns both.0 (All-head (IsCellRepr columns) cell left both.1), All-tail (IsCellRepr columns) cell left both.1);
      counted = omega arith;
      room = λ k d lt. one.room (get_or left k d).classes (get_or left k d).rows (λ e. less_tied (sym (apart rising.0 k d lt) ∙ ap (cell_cmp cell.classes) (sym e) ∙ tied_itself nat_list_cmp_total cell.classes)) (merged.room (suc k) d (omega arith));
    }
  where
    apart : Above cell.classes (keys_of_cells left) → (k : ℕ) (d : Cell) → k < length left → cell_cmp cell.classes (get_or left k d).classes ≡ Less
    apart above k d lt =
        let n = length-map left (λ (c : Cell). c.classes) in
        ap (cell_cmp cell.classes) (key-here left k d lt) ∙ above-at cell.classes (keys_of_cells left) k [] above (omega arith)

pub first_room : (old more now left rest : List Cell) (cell : Cell) → AreMerged old more now left → left ≡ cell ∷ rest → HasRoomFor now cell.classes cell.rows
first_room old more now left rest cell merged is =
    let all : HaveRoomFor now (cell ∷ rest) = subst (HaveRoomFor now) is merged.room in
    All-head (λ (c : Cell). HasRoomFor now c.classes c.rows) cell rest all

-- the same as calls say it
pub found_in : (old list : List Cell) (classes keys : List ℕ) (at : ℕ) → list ≡ old → keys ≡ classes → IsFound list keys at → IsFound old classes at
found_in old list classes keys at cells numbers found = subst (λ k. IsFound old k at) numbers (subst (λ l. IsFound l keys at) cells found)

pub missing_in : (old list : List Cell) (classes keys : List ℕ) (at : ℕ) → list ≡ old → keys ≡ classes → IsMissing list keys at → IsMissing old classes at
missing_in old list classes keys at cells numbers missing = subst (λ k. IsMissing old k at) numbers (subst (λ l. IsMissing l keys at) cells missing)
