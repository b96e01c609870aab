-- Cells that get more room.
use Rattle.std.proofs.Common.{◌≡◌, ◌≢◌, ◌≤◌, ◌<◌, ℕ, zero, suc, ◌+◌, true, List, [], ◌∷◌, map, length, get_or, take, Result, OnOk, refl, sym, ap, subst, ◌∙◌, arith, inl, inr, ◌⊎◌}
use Rattle.std.specs.declared.cmp.Ordering.TheVariants.{Less, Equal, Greater}
use Rattle.std.proofs.lemmas.Bool.{cases_order}
use Rattle.std.proofs.lemmas.Cmp.{nat_list_cmp_total, tied_itself}
use Rattle.std.proofs.lemmas.List.{ext_get_or, get_or-map, length-map}
use Rattle.std.proofs.lemmas.List.Elements.{All-more}
use Rattle.std.proofs.lemmas.List.{take_all}
use Rattle.std.specs.declared.alloc.AllocError.{AllocError}
use Rattle.blink_base.specs.Values.{Row}
use Rattle.blink_lists.specs.Lists.{rises}
use Rattle.cell_layout.specs.declared.cell.Cell.{Cell}
use Rattle.cell_layout.specs.Layout.{cell_cmp}
use Rattle.cell_layout.specs.CellIndex.{IsFound, IsMissing, keys_of_cells, key_at}
use Rattle.cell_layout.specs.InsertRow.{Rising}
use Rattle.cell_layout.specs.MergeCells.{bare_cell, IsSameButRoom, AreRoomier, IsRoomier, AreRoomierCells, HaveRoom, HasRoomFor, HaveRoomFor}
use Rattle.cell_layout.proofs.CellIndexLemmas.{rising-from, above-at, key-here, empty_cell}
use Rattle.cell_layout.proofs.RowPartitionLemmas.{on_ok}

no_codes : List ℕ × ℕ
no_codes = ([], 0)

-- no room is less
roomier_itself : (columns : List (List ℕ × ℕ)) → AreRoomier columns columns
roomier_itself columns = record { count = refl; same = λ k d. refl; more = λ k d. omega arith }

cell_itself : (cell : Cell) → IsRoomier cell cell
cell_itself cell = record { same_classes = refl; same_plan = refl; roomier = roomier_itself cell.codes; same_rows = refl }

pub cells_themselves : (cells : List Cell) → AreRoomierCells cells cells
cells_themselves cells = record { count = refl; each = λ k d. cell_itself (get_or cells k d) }

roomier_twice : (a b c : List (List ℕ × ℕ)) → AreRoomier a b → AreRoomier b c → AreRoomier a c
roomier_twice a b c first second = record {
  count = second.count ∙ first.count;
  same = λ k d. second.same k d ∙ first.same k d;
  more = λ k d. let x = first.more k d in let y = second.more k d in omega arith;
}

cell_twice : (a b c : Cell) → IsRoomier a b → IsRoomier b c → IsRoomier a c
cell_twice a b c first second = record {
  same_classes = second.same_classes ∙ first.same_classes;
  same_plan = second.same_plan ∙ first.same_plan;
  roomier = roomier_twice a.codes b.codes c.codes first.roomier second.roomier;
  same_rows = second.same_rows ∙ first.same_rows;
}

pub cells_twice : (a b c : List Cell) → AreRoomierCells a b → AreRoomierCells b c → AreRoomierCells a c
cells_twice a b c first second = record {
  count = second.count ∙ first.count;
  each = λ k d. cell_twice (get_or a k d) (get_or b k d) (get_or c k d) (first.each k d) (second.each k d);
}

-- what stays
bare_cell_same : (old new : Cell) → IsRoomier old new → bare_cell new ≡ bare_cell old
bare_cell_same old new r =
    let classes = r.same_classes in
    let plan = r.same_plan in
    let rows = r.same_rows in
    let count = r.roomier.count in
    let codes : map (λ (l : List ℕ × ℕ). l.0) new.codes ≡ map (λ (l : List ℕ × ℕ). l.0) old.codes =
    ext_get_or [] (map (λ (l : List ℕ × ℕ). l.0) new.codes) (map (λ (l : List ℕ × ℕ). l.0) old.codes)
    (length-map new.codes (λ (l : List ℕ × ℕ). l.0) ∙ count ∙ sym (length-map old.codes (λ (l : List ℕ × ℕ). l.0)))
    (λ k lt.
    let n = length-map new.codes (λ (l : List ℕ × ℕ). l.0) in
    get_or-map (λ (l : List ℕ × ℕ). l.0) new.codes k no_codes [] (omega arith) ∙ r.roomier.same k no_codes
    ∙ sym (get_or-map (λ (l : List ℕ × ℕ). l.0) old.codes k no_codes [] (omega arith))) in
    λ i. (classes i, plan i, codes i, rows i)

module _ (old new : List Cell) (same : AreRoomierCells old new) where
  each_same : {X : Type 0} (f : Cell → X) (e : X) → ((a b : Cell) → IsRoomier a b → f b ≡ f a) → map f new ≡ map f old
  each_same f e repr =
      let count = same.count in
      ext_get_or e (map f new) (map f old) (length-map new f ∙ count ∙ sym (length-map old f))
      (λ k lt.
      let n = length-map new f in
      get_or-map f new k empty_cell e (omega arith) ∙ repr (get_or old k empty_cell) (get_or new k empty_cell) (same.each k empty_cell) ∙ sym (get_or-map f old k empty_cell e (omega arith)))

  pub keys_same : keys_of_cells new ≡ keys_of_cells old
  keys_same = each_same (λ (c : Cell). c.classes) [] (λ a b r. r.same_classes)

  pub bare_same : map bare_cell new ≡ map bare_cell old
  bare_same = each_same bare_cell (bare_cell empty_cell) bare_cell_same

  pub order_same : rises cell_cmp (keys_of_cells old) ≡ true → rises cell_cmp (keys_of_cells new) ≡ true
  order_same up = ap (rises cell_cmp) keys_same ∙ up

  room_same : (classes : List ℕ) (rows : ℕ) → HasRoomFor old classes rows → HasRoomFor new classes rows
  room_same classes rows has k d lt here j e below =
      let it = same.each k d in
      let count = same.count in
      let codes = it.roomier.count in
      let low = has k d (omega arith) (sym it.same_classes ∙ here) j e (omega arith) in
      let more = it.roomier.more j e in
      omega arith

  pub all_room_same : (more : List Cell) → HaveRoomFor old more → HaveRoomFor new more
  all_room_same more has k d lt = room_same (get_or more k d).classes (get_or more k d).rows (has k d lt)

-- rising class numbers stand once each
pub found_once : (ks : List (List ℕ)) (i j : ℕ) → Rising ks → i < length ks → j < length ks → get_or ks i [] ≡ get_or ks j [] → i ≡ j
found_once [] i j s low below e = absurd (omega arith)
found_once (x ∷ ks) zero zero s low below e = refl
found_once (x ∷ ks) zero (suc j) s low below e =
    let less = above-at x ks j [] s.0 (omega arith) in
    let tied = ap (cell_cmp x) (sym e) ∙ tied_itself nat_list_cmp_total x in
    cc
found_once (x ∷ ks) (suc i) zero s low below e =
    let less = above-at x ks i [] s.0 (omega arith) in
    let tied = ap (cell_cmp x) e ∙ tied_itself nat_list_cmp_total x in
    cc
found_once (x ∷ ks) (suc i) (suc j) s low below e = ap suc (found_once ks i j s.1 (omega arith) (omega arith) e)

-- more room in the cell at a place
pub cells_at : (old new : List Cell) (at : ℕ) → length new ≡ length old → ((k : ℕ) (d : Cell) → k ≢ at → get_or new k d ≡ get_or old k d) → ((d : Cell) → IsRoomier (get_or old at d) (get_or new at d))
    → AreRoomierCells old new
cells_at old new at count others here = record { count = count; each = λ k d. by k d (cases_order k at) }
  where
    by : (k : ℕ) (d : Cell) → (k ≡ at) ⊎ ((k < at) ⊎ (at < k)) → IsRoomier (get_or old k d) (get_or new k d)
    by k d (inl e) = subst (λ j. IsRoomier (get_or old j d) (get_or new j d)) (sym e) (here d)
    by k d (inr (inl less)) = let ne : k ≢ at = λ e. absurd (omega arith) in subst (λ c. IsRoomier (get_or old k d) c) (sym (others k d ne)) (cell_itself (get_or old k d))
    by k d (inr (inr more)) = let ne : k ≢ at = λ e. absurd (omega arith) in subst (λ c. IsRoomier (get_or old k d) c) (sym (others k d ne)) (cell_itself (get_or old k d))

-- the cell that was found has room
pub found_room : (old new : List Cell) (at : ℕ) (classes : List ℕ) (rows : ℕ) → rises cell_cmp (keys_of_cells old) ≡ true → IsFound old classes at → AreRoomierCells old new → ((d : Cell) → HaveRoom (get_or new at d).codes rows)
    → HasRoomFor new classes rows
found_room old new at classes rows up found same room k d lt here =
    let count = same.count in
    let n = length-map old (λ (c : Cell). c.classes) in
    let within = found.within in
    let key : key_at old k ≡ classes = sym (key-here old k d (omega arith)) ∙ sym (same.each k d).same_classes ∙ here in
    let one : k ≡ at = found_once (keys_of_cells old) k at (rising-from (keys_of_cells old) up) (omega arith) (omega arith) (key ∙ sym found.here) in
    subst (λ j. HaveRoom (get_or new j d).codes rows) (sym one) (room d)

pub less_tied : Less ≡ Equal → ⊥
less_tied e = cc

more_tied : Greater ≡ Equal → ⊥
more_tied e = cc

-- where no cell has the class numbers, nothing is wanted
pub missing_room : (cells : List Cell) (at : ℕ) (classes : List ℕ) (rows : ℕ) → IsMissing cells classes at → HasRoomFor cells classes rows
missing_room cells at classes rows missing k d lt here = by (cases_order k at)
  where
    tied : cell_cmp (key_at cells k) classes ≡ Equal
    tied = ap (λ x. cell_cmp x classes) (sym (key-here cells k d lt) ∙ here) ∙ tied_itself nat_list_cmp_total classes

    by : (k ≡ at) ⊎ ((k < at) ⊎ (at < k)) → HaveRoom (get_or cells k d).codes rows
    by (inl e) = absurd (more_tied (sym (missing.behind k (omega arith) lt) ∙ tied))
    by (inr (inl less)) = absurd (less_tied (sym (missing.before k less) ∙ tied))
    by (inr (inr more)) = absurd (more_tied (sym (missing.behind k (omega arith) lt) ∙ tied))

-- the same as calls say it
pub found_reserved : (old list new : List Cell) (at : ℕ) (classes : List ℕ) (rows : ℕ) (r : Result (Unit {0}) AllocError) → rises cell_cmp (keys_of_cells old) ≡ true → list ≡ old → IsFound list classes at
    → length new ≡ length old → ((k : ℕ) (d : Cell) → k ≢ at → get_or new k d ≡ get_or old k d) → ((d : Cell) → IsRoomier (get_or old at d) (get_or new at d))
    → OnOk r ((d : Cell) → HaveRoom (get_or new at d).codes rows) → OnOk r (HasRoomFor new classes rows)
found_reserved old list new at classes rows r up cells found count others here room =
    on_ok r (found_room old new at classes rows up (subst (λ l. IsFound l classes at) cells found) (cells_at old new at count others here)) room

pub reserved_more : (old new more : List Cell) (i : ℕ) (item : Cell) (classes : List ℕ) (rows : ℕ) → AreRoomierCells old new → HaveRoomFor old (take i more) → item ≡ get_or more i item → i < length more
    → classes ≡ item.classes → rows ≡ item.rows → HasRoomFor new classes rows → HaveRoomFor new (take (i + 1) more)
reserved_more old new more i item classes rows same has is lt numbers count here =
    let one : HasRoomFor new item.classes item.rows = subst (λ n. HasRoomFor new item.classes n) count (subst (λ k. HasRoomFor new k rows) numbers here) in
    All-more (λ (cell : Cell). HasRoomFor new cell.classes cell.rows) more i item lt (all_room_same old new same (take i more) has) (subst (λ (cell : Cell). HasRoomFor new cell.classes cell.rows) is one)

pub reserved_all : (cells more : List Cell) (i : ℕ) → HaveRoomFor cells (take i more) → length more ≤ i → HaveRoomFor cells more
reserved_all cells more i has le = subst (HaveRoomFor cells) (take_all i more le) has

pub same_but_room : (cells mid new : List Cell) (rest more : List Row) → AreRoomierCells cells mid → new ≡ mid → more ≡ rest → IsSameButRoom cells rest new more
same_but_room cells mid new rest more same list rows = record { same_cells = ap (map bare_cell) list ∙ bare_same cells mid same; same_rest = rows }
