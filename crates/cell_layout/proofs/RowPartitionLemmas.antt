-- Rows placed so far, and one more.
use Rattle.std.proofs.Common.{◌≡◌, ◌+◌, ◌<◌, ℕ, Bool, true, false, not, List, [], ◌∷◌, ◌++◌, map, filter, take, length, get_or, insert, All, refl, sym, ap, subst, ◌∙◌, arith, Result, Ok, Err, OnOk}
use Rattle.std.proofs.lemmas.List.{append-nil, append_assoc, map-append, length-append, take_more}
use Rattle.std.proofs.lemmas.List.Elements.{filter-append}
use Rattle.blink_lists.specs.Lists.{rises}
use Rattle.blink_base.specs.Values.{Row}
use Rattle.order_codes.specs.Dictionary.{Classes}
use Rattle.cell_layout.specs.declared.cell.Cell.{Cell}
use Rattle.cell_layout.specs.Image.{CellImage, CodedRow, is_coded, coded}
use Rattle.cell_layout.specs.Layout.{cell_cmp, cells_of}
use Rattle.std.specs.declared.alloc.AllocError.{AllocError}
use Rattle.blink_lists.specs.declared.limits.TheConstants.{MOST_ROWS}
use Rattle.cell_layout.specs.CellRepr.{cell_image, IsCellRepr}
use Rattle.cell_layout.specs.CellIndex.{keys_of_cells, AreWithin, IsFound, IsMissing}
use Rattle.cell_layout.specs.InsertRow.{put_row, keys_in, Rising}
use Rattle.cell_layout.specs.InsertRowRepr.{IsPut, IsPushed, IsFirst, rows_in_all}
use Rattle.cell_layout.specs.RowPartition.{ArePlaced}
use Rattle.cell_layout.specs.Places.{AreCodesOf}
use Rattle.cell_layout.proofs.InsertRowLemmas.{row_placed, Rising-put}
use Rattle.cell_layout.proofs.CellIndexLemmas.{rising-from, rises-from}
use Rattle.cell_layout.proofs.InsertRowReprLemmas.{keys-image, found_put, missing_put}

-- a fact that an answer without a fault brings
pub on_ok : {A E P Q : Type 0} (r : Result A E) → (P → Q) → OnOk r P → OnOk r Q
on_ok (Ok x) f p = f p
on_ok (Err e) f p = tt

pub none_placed : (columns : List Classes) → ArePlaced columns [] [] []
none_placed columns = record { image = refl; others = refl; repr = λ k d lt. absurd (omega arith); order = refl; counted = refl }

keep : {X : Type 0} (p : X → Bool) (xs : List X) (x : X) → p x ≡ true → filter p (xs ++ x ∷ []) ≡ filter p xs ++ x ∷ []
keep p xs x e = filter-append p xs (x ∷ []) ∙ ap (λ l. filter p xs ++ l) (let one : filter p (x ∷ []) ≡ x ∷ [] = rw e refl in one)

leave : {X : Type 0} (p : X → Bool) (xs : List X) (x : X) → p x ≡ false → filter p (xs ++ x ∷ []) ≡ filter p xs
leave p xs x e = filter-append p xs (x ∷ []) ∙ ap (λ l. filter p xs ++ l) (let none : filter p (x ∷ []) ≡ [] = rw e refl in none) ∙ append-nil (filter p xs)

-- one more row in a cell
pub coded_placed : (columns : List Classes) (rows : List Row) (cells new : List Cell) (rest : List Row) (row : Row) (classes codes : List ℕ) → ArePlaced columns rows cells rest → is_coded columns row ≡ true
    → classes ≡ (coded columns row).classes → codes ≡ (coded columns row).codes → IsPut columns cells new classes codes → ArePlaced columns (rows ++ row ∷ []) new rest
coded_placed columns rows cells new rest row classes codes placed coded_row numbers same put =
    let r : CodedRow = coded columns row in
    let is : record { classes = classes; codes = codes } ≡ coded columns row = λ i. record { classes = numbers i; codes = same i } in
    let front : List CodedRow = map (coded columns) (filter (is_coded columns) rows) in
    let more : map (coded columns) (filter (is_coded columns) (rows ++ row ∷ [])) ≡ map (coded columns) (filter (is_coded columns) rows) ++ coded columns row ∷ [] =
    ap (map (coded columns)) (keep (is_coded columns) rows row coded_row) ∙ map-append (coded columns) (filter (is_coded columns) rows) (row ∷ []) in
    let rising : Rising (keys_in (map cell_image cells)) = subst Rising (sym (keys-image cells)) (rising-from (keys_of_cells cells) placed.order) in
    let before : Rising (keys_in (cells_of (map (coded columns) (filter (is_coded columns) rows)))) = subst (λ (l : List CellImage). Rising (keys_in l)) placed.image rising in
    let image = put.image ∙ (λ i. put_row (is i) (placed.image i)) ∙ sym (row_placed (map (coded columns) (filter (is_coded columns) rows)) (coded columns row) before) ∙ ap cells_of (sym more) in
    let after : Rising (keys_in (map cell_image new)) = subst (λ (l : List CellImage). Rising (keys_in l)) (sym put.image) (Rising-put (record { classes = classes; codes = codes }) (map cell_image cells) rising) in
    let n = length-append rows (row ∷ []) in
    let one = put.one_more in
    let counted = placed.counted in
    record {
      image = image;
      others = placed.others ∙ sym (leave (λ row. not (is_coded columns row)) rows row (ap not coded_row));
      repr = put.repr;
      order = rises-from (keys_of_cells new) (subst Rising (keys-image new) after);
      counted = omega arith;
    }

-- one more row in rest
pub rest_placed : (columns : List Classes) (rows : List Row) (cells : List Cell) (rest more : List Row) (row : Row) → ArePlaced columns rows cells rest → is_coded columns row ≡ false
    → more ≡ rest ++ row ∷ [] → ArePlaced columns (rows ++ row ∷ []) cells more
rest_placed columns rows cells rest more row placed uncoded pushed =
    let n = length-append rows (row ∷ []) in
    let m = ap length pushed ∙ length-append rest (row ∷ []) in
    let counted = placed.counted in
    record {
      image = placed.image ∙ ap (λ l. cells_of (map (coded columns) l)) (sym (leave (is_coded columns) rows row uncoded));
      others = pushed ∙ ap (λ l. l ++ row ∷ []) placed.others ∙ sym (keep (λ row. not (is_coded columns row)) rows row (ap not uncoded));
      repr = placed.repr;
      order = placed.order;
      counted = omega arith;
    }

-- the same as calls say it
pub found_placed : (columns : List Classes) (old list new : List Cell) (at : ℕ) (classes keys codes tail : List ℕ) → All (IsCellRepr columns) old → rises cell_cmp (keys_of_cells old) ≡ true
    → rows_in_all old < MOST_ROWS → AreWithin columns classes codes (length columns) → list ≡ old → keys ≡ classes → tail ≡ codes → IsFound list keys at → IsPushed old new at tail → IsPut columns old new classes codes
found_placed columns old list new at classes keys codes tail repr up few w cells numbers last found pushed =
    let here : IsFound old classes at = subst (λ k. IsFound old k at) numbers (subst (λ l. IsFound l keys at) cells found) in
    found_put columns old new at classes codes repr up few w here (subst (IsPushed old new at) last pushed)

pub missing_placed : (columns : List Classes) (old list room new : List Cell) (at : ℕ) (cell : Cell) (classes keys codes : List ℕ) → All (IsCellRepr columns) old → AreWithin columns classes codes (length columns)
    → list ≡ old → keys ≡ classes → IsMissing list keys at → IsFirst columns cell classes codes → room ≡ old → new ≡ insert room at cell → IsPut columns old new classes codes
missing_placed columns old list room new at cell classes keys codes repr w cells numbers missing first same put =
    let here : IsMissing old classes at = subst (λ k. IsMissing old k at) numbers (subst (λ l. IsMissing l keys at) cells missing) in
    missing_put columns old new at cell classes codes repr w here first (put ∙ ap (λ l. insert l at cell) same)

-- an answer without a fault
abbrev answer : Bool → Result Bool AllocError
answer b = Ok b

ok_one : (a b : Bool) → answer a ≡ answer b → a ≡ b
ok_one a b e = cc

one_behind : (before rows : List Row) (i : ℕ) (item slice : Row) → item ≡ get_or rows i item → i < length rows → slice ≡ item → before ++ take (i + 1) rows ≡ (before ++ take i rows) ++ slice ∷ []
one_behind before rows i item slice is lt seen =
    ap (λ l. before ++ l) (take_more rows i item lt ∙ ap (λ x. take i rows ++ x ∷ []) (sym is ∙ sym seen)) ∙ sym (append_assoc before (take i rows) (slice ∷ []))

pub coded_next : (columns : List Classes) (before rows : List Row) (i : ℕ) (item slice : Row) (b : Bool) (cells new : List Cell) (rest : List Row) (classes codes : List ℕ) → ArePlaced columns (before ++ take i rows) cells rest
    → item ≡ get_or rows i item → i < length rows → slice ≡ item → answer b ≡ answer (is_coded columns slice) → b ≡ true
    → (answer b ≡ answer true → classes ≡ (coded columns slice).classes) → (answer b ≡ answer true → codes ≡ (coded columns slice).codes)
    → IsPut columns cells new classes codes → ArePlaced columns (before ++ take (i + 1) rows) new rest
coded_next columns before rows i item slice b cells new rest classes codes placed is lt seen told true_here numbers same put =
    let told_true : answer b ≡ answer true = ap answer true_here in
    let coded_here : is_coded columns slice ≡ true = sym (ok_one b (is_coded columns slice) told) ∙ true_here in
    subst (λ l. ArePlaced columns l new rest) (sym (one_behind before rows i item slice is lt seen))
    (coded_placed columns (before ++ take i rows) cells new rest slice classes codes placed coded_here (numbers told_true) (same told_true) put)

-- a row whose class numbers and codes are known
pub known_next : (columns : List Classes) (rows : List Row) (i : ℕ) (row : Row) (cells new : List Cell) (rest : List Row) (classes codes : List ℕ) → ArePlaced columns (take i rows) cells rest
    → row ≡ get_or rows i row → i < length rows → AreCodesOf columns row classes codes → IsPut columns cells new classes codes → ArePlaced columns (take (i + 1) rows) new rest
known_next columns rows i row cells new rest classes codes placed is lt are put =
    subst (λ l. ArePlaced columns l new rest) (sym (one_behind [] rows i row row is lt refl))
    (coded_placed columns (take i rows) cells new rest row classes codes placed are.whole are.classes are.codes put)

pub rest_next : (columns : List Classes) (before rows : List Row) (i : ℕ) (item slice copy : Row) (b : Bool) (cells : List Cell) (rest more : List Row) → ArePlaced columns (before ++ take i rows) cells rest
    → item ≡ get_or rows i item → i < length rows → slice ≡ item → answer b ≡ answer (is_coded columns slice) → b ≡ false
    → copy ≡ item → more ≡ rest ++ copy ∷ [] → ArePlaced columns (before ++ take (i + 1) rows) cells more
rest_next columns before rows i item slice copy b cells rest more placed is lt seen told false_here same pushed =
    let uncoded_here : is_coded columns item ≡ false = ap (is_coded columns) (sym seen) ∙ sym (ok_one b (is_coded columns slice) told) ∙ false_here in
    subst (λ l. ArePlaced columns l cells more) (sym (one_behind before rows i item item is lt refl))
    (rest_placed columns (before ++ take i rows) cells rest more item placed uncoded_here (pushed ∙ ap (λ x. rest ++ x ∷ []) same))
