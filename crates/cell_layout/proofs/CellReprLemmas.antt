-- The codes and the rows of cells in memory.
use Rattle.std.proofs.Common.{◌≡◌, ◌≤◌, ◌<◌, ℕ, zero, suc, ◌+◌, List, [], ◌∷◌, ◌++◌, map, take, length, get_or, nat_lt, sum_by, slice_get, Some, unwrap_or, pos, Result, Ok, Err, IfOk, All, refl, sym, ap, ◌∙◌, arith}
use Rattle.std.specs.declared.alloc.AllocError.{AllocError}
use Rattle.std.specs.List.{list_all, flat_map}
use Rattle.std.proofs.lemmas.Bool.{and_parts, ltb-true, eqb-true}
use Rattle.std.proofs.lemmas.List.{ext_get_or, get_or_append_left, get_or-map, get_or_default, take_more, take_all, length-map, append_assoc, length-append}
use Rattle.std.proofs.lemmas.List.Sums.{sum_by-cons, sum_by_more_le}
use Rattle.std.proofs.lemmas.Option.{slice_get-get_or}
use Rattle.blink_base.specs.declared.value.Value.{Value}
use Rattle.blink_base.specs.declared.value.Value.TheVariants.{Int}
use Rattle.blink_base.specs.declared.schema.Schema.{Schema}
use Rattle.blink_base.specs.Values.{Row}
use Rattle.order_codes.specs.Dictionary.{Classes, class_at, decoded}
use Rattle.cell_layout.specs.declared.cell.Cell.{Cell}
use Rattle.cell_layout.specs.Image.{TableImage, decoded_row, cell_at, cell_rows, rows_of, row_count}
use Rattle.cell_layout.specs.Valid.{are_codes, is_row_count}
use Rattle.blink_lists.proofs.NumberLemmas.{numbers-at, length-numbers}
use Rattle.cell_layout.specs.CellRepr.{rows_in, all_rows, row_of_codes, rows_of_codes, cell_image, image_of, IsCellRepr, most_image_rows}
use Rattle.blink_lists.proofs.SliceLemmas.{front-at, behind-at}
use Rattle.blink_lists.proofs.ZipLemmas.{zip-at, map-zip-at, length-map-zip}
use Rattle.blink_lists.proofs.AllLemmas.{all_at}

pub length-rows : (columns : List (List ℕ × ℕ)) (n : ℕ) → length (rows_of_codes columns n) ≡ n
length-rows columns n = length-numbers (row_of_codes columns) 0 n

pub row_at : (columns : List (List ℕ × ℕ)) (n i : ℕ) (d : List ℕ) → i < n → get_or (rows_of_codes columns n) i d ≡ row_of_codes columns i
row_at columns n i d lt = numbers-at (row_of_codes columns) 0 n i d lt ∙ (let e : 0 + i ≡ i = omega arith in ap (row_of_codes columns) e)

pub code_of_row : (columns : List (List ℕ × ℕ)) (row column : ℕ) (d : List ℕ × ℕ) → column < length columns → get_or (row_of_codes columns row) column 0 ≡ get_or (get_or columns column d).0 row 0
code_of_row columns row column d lt = get_or-map (λ (codes : List ℕ × ℕ). get_or codes.0 row 0) columns column d 0 lt

-- a row stands where each column has more codes behind those of its rows
pub rows_stand : (old new : List (List ℕ × ℕ)) (tail : ℕ → List ℕ) (rows row : ℕ) → length new ≡ length old → All (λ (c : List ℕ × ℕ). length c.0 ≡ rows) old
    → ((k : ℕ) → k < length old → (get_or new k ([], 0)).0 ≡ (get_or old k ([], 0)).0 ++ tail k) → row < rows → row_of_codes new row ≡ row_of_codes old row
rows_stand old new tail rows row count full each lt = ext_get_or 0 (row_of_codes new row) (row_of_codes old row)
    (length-map new (λ (c : List ℕ × ℕ). get_or c.0 row 0) ∙ count ∙ sym (length-map old (λ (c : List ℕ × ℕ). get_or c.0 row 0)))
    (λ k within.
    let n = length-map new (λ (c : List ℕ × ℕ). get_or c.0 row 0) in
    let size = full k ([], 0) (omega arith) in
    code_of_row new row k ([], 0) (omega arith)
    ∙ ap (λ l. get_or l row 0) (each k (omega arith))
    ∙ get_or_append_left (get_or old k ([], 0)).0 (tail k) 0 row (omega arith)
    ∙ sym (code_of_row old row k ([], 0) (omega arith)))

-- the parts of a cell in memory
pub record HasCodes (columns : List Classes) (cell : Cell) (row : ℕ) : Type 0 where
  pub classes : length cell.classes ≡ length columns
  pub row_full : length (row_of_codes cell.codes row) ≡ length columns
  pub below : (k : ℕ) → k < length columns → get_or (row_of_codes cell.codes row) k 0 < length (class_at (get_or columns k []) (get_or cell.classes k 0))

pub has_codes : (columns : List Classes) (cell : Cell) (row : ℕ) → IsCellRepr columns cell → row < cell.rows → HasCodes columns cell row
has_codes columns cell row repr lt =
    let all = and_parts _ (list_all (are_codes columns cell.classes) (rows_of_codes cell.codes cell.rows)) repr.good in
    let three = and_parts _ (is_row_count (rows_of_codes cell.codes cell.rows)) all.0 in
    let two = and_parts _ _ three.0 in
    let classes : length cell.classes ≡ length columns = eqb-true _ _ two.0 in
    let within : row < length (rows_of_codes cell.codes cell.rows) = rw (length-rows cell.codes cell.rows) lt in
    let here = rw (row_at cell.codes cell.rows row [] lt) at (all_at (are_codes columns cell.classes) (rows_of_codes cell.codes cell.rows) row [] all.1 within) in
    let parts = and_parts _ _ here in
    let full : length (row_of_codes cell.codes row) ≡ length columns = eqb-true _ _ parts.0 in
    record {
      classes = classes;
      row_full = full;
      below = λ k lt. ltb-true _ _ (zip-at (λ (p : (List (List Value) × ℕ) × ℕ). nat_lt p.1 (length (class_at p.0.0 p.0.1))) columns cell.classes (row_of_codes cell.codes row) k [] 0 0 parts.1 lt classes full);
    }

-- one more value of a row
pub decoded_at : (columns : List Classes) (cell : Cell) (row k : ℕ) (v d : Value) → HasCodes columns cell row → k < length columns
    → decoded (get_or columns k []) (get_or cell.classes k 0) (get_or (row_of_codes cell.codes row) k 0) ≡ Some v → get_or (decoded_row columns cell.classes (row_of_codes cell.codes row)) k d ≡ v
decoded_at columns cell row k v d has lt is =
    map-zip-at (λ (p : (List (List Value) × ℕ) × ℕ). unwrap_or (decoded p.0.0 p.0.1 p.1) (Int (pos 0))) columns cell.classes (row_of_codes cell.codes row) k [] 0 0 d lt has.classes has.row_full
    ∙ ap (λ o. unwrap_or o (Int (pos 0))) is

pub length-decoded : (columns : List Classes) (cell : Cell) (row : ℕ) → HasCodes columns cell row → length (decoded_row columns cell.classes (row_of_codes cell.codes row)) ≡ length columns
length-decoded columns cell row has =
    length-map-zip (λ (p : (List (List Value) × ℕ) × ℕ). unwrap_or (decoded p.0.0 p.0.1 p.1) (Int (pos 0))) columns cell.classes (row_of_codes cell.codes row) has.classes has.row_full

module _ (columns : List Classes) where
  pub length-in : (cell : Cell) → length (rows_in columns cell) ≡ cell.rows
  length-in cell = length-map (rows_of_codes cell.codes cell.rows) (decoded_row columns cell.classes) ∙ length-rows cell.codes cell.rows

  row-in : (cell : Cell) (j : ℕ) → j < cell.rows → slice_get (rows_in columns cell) j ≡ Some (decoded_row columns cell.classes (row_of_codes cell.codes j))
  row-in cell j lt =
      let within : j < length (rows_in columns cell) = rw (length-in cell) lt in
      slice_get-get_or (rows_in columns cell) j [] within
      ∙ ap Some (get_or-map (decoded_row columns cell.classes) (rows_of_codes cell.codes cell.rows) j [] [] (rw (length-rows cell.codes cell.rows) lt) ∙ ap (decoded_row columns cell.classes) (row_at cell.codes cell.rows j [] lt))

  pub row_of_cell : (cells : List Cell) (rest : List Row) (i j number : ℕ) (d : Cell) → i < length cells → j < (get_or cells i d).rows → number ≡ sum_by (λ cell. cell.rows) (take i cells) + j
      → slice_get (all_rows columns cells rest) number ≡ Some (decoded_row columns (get_or cells i d).classes (row_of_codes (get_or cells i d).codes j))
  row_of_cell [] rest i j number d lt below e = absurd (omega arith)
  row_of_cell (c ∷ cells) rest zero j number d lt below e =
      let same : number ≡ j = omega arith in
      let within : number < length (rows_in columns c) = rw (length-in c) (omega arith) in
      ap (λ l. slice_get l number) (append_assoc (rows_in columns c) (flat_map (rows_in columns) cells) rest)
      ∙ front-at (rows_in columns c) (all_rows columns cells rest) number within ∙ ap (slice_get (rows_in columns c)) same ∙ row-in c j below
  row_of_cell (c ∷ cells) rest (suc i) j number d lt below e =
      let sums = sum_by-cons (λ (cell : Cell). cell.rows) c (take i cells) in
      let l = length-in c in
      ap (λ l. slice_get l number) (append_assoc (rows_in columns c) (flat_map (rows_in columns) cells) rest)
      ∙ behind-at (rows_in columns c) (all_rows columns cells rest) (sum_by (λ cell. cell.rows) (take i cells) + j) number (omega arith)
      ∙ row_of_cell cells rest i j (sum_by (λ cell. cell.rows) (take i cells) + j) d (omega arith) below refl

  pub row_of_rest : (cells : List Cell) (rest : List Row) (j number : ℕ) → number ≡ sum_by (λ cell. cell.rows) cells + j → slice_get (all_rows columns cells rest) number ≡ slice_get rest j
  row_of_rest [] rest j number e = let same : number ≡ j = omega arith in ap (slice_get rest) same
  row_of_rest (c ∷ cells) rest j number e =
      let sums = sum_by-cons (λ (cell : Cell). cell.rows) c cells in
      let l = length-in c in
      ap (λ l. slice_get l number) (append_assoc (rows_in columns c) (flat_map (rows_in columns) cells) rest)
      ∙ behind-at (rows_in columns c) (all_rows columns cells rest) (sum_by (λ cell. cell.rows) cells + j) number (omega arith)
      ∙ row_of_rest cells rest j (sum_by (λ cell. cell.rows) cells + j) refl

  pub length-all : (cells : List Cell) (rest : List Row) → length (all_rows columns cells rest) ≡ sum_by (λ cell. cell.rows) cells + length rest
  length-all [] rest = omega arith
  length-all (c ∷ cells) rest =
      let sums = sum_by-cons (λ (cell : Cell). cell.rows) c cells in
      let l = length-in c in
      let more = length-all cells rest in
      ap length (append_assoc (rows_in columns c) (flat_map (rows_in columns) cells) rest) ∙ (let both = length-append (rows_in columns c) (all_rows columns cells rest) in omega arith)

-- the same as calls say it
pub code_below : (columns : List Classes) (cell : Cell) (row k : ℕ) (values : Classes) (class code : ℕ) → IsCellRepr columns cell → row < cell.rows → k < length columns
    → values ≡ get_or columns k values → class ≡ get_or cell.classes k 0 → code ≡ get_or (row_of_codes cell.codes row) k 0 → code < length (class_at values class)
code_below columns cell row k values class code repr row_in lt is at here =
    let one : values ≡ get_or columns k [] = is ∙ get_or_default columns k values [] lt in
    rw (one, at, here) ((has_codes columns cell row repr row_in).below k lt)

pub cell_seen : (image : TableImage) (schema : Schema) (columns : List Classes) (cells : List Cell) (rest : List Row) (k : ℕ) (cell : Cell) → image_of schema columns cells rest ≡ image
    → k < length image.cells → cell ≡ get_or cells k cell → (k < length cells) × (cell_at image k ≡ cell_image cell)
cell_seen image schema columns cells rest k cell view lt is =
    let n = length-map cells cell_image in
    let within : k < length cells = rw (← view, n) at lt in
    (within, ap (λ (i : TableImage). cell_at i k) (sym view) ∙ get_or-map cell_image cells k cell (record { classes = []; rows = [] }) within ∙ ap cell_image (sym is))

-- one more value of a row, as calls say it
pub decoded_more : (columns : List Classes) (cell : Cell) (row k : ℕ) (values : Classes) (classes : List ℕ) (code : ℕ) (v copy : Value) (so_far more : List Value) → IsCellRepr columns cell → row < cell.rows
    → k < length columns → values ≡ get_or columns k values → classes ≡ cell.classes → code ≡ get_or (row_of_codes cell.codes row) k 0 → decoded values (get_or classes k 0) code ≡ Some v → copy ≡ v
    → so_far ≡ take k (decoded_row columns cell.classes (row_of_codes cell.codes row)) → more ≡ so_far ++ copy ∷ [] → more ≡ take (k + 1) (decoded_row columns cell.classes (row_of_codes cell.codes row))
decoded_more columns cell row k values classes code v copy so_far more repr row_in lt is at here found same front pushed =
    let has = has_codes columns cell row repr row_in in
    let one : values ≡ get_or columns k [] = is ∙ get_or_default columns k values [] lt in
    let value = decoded_at columns cell row k v v has lt (rw (one, at, here) at found) in
    let within : k < length (decoded_row columns cell.classes (row_of_codes cell.codes row)) = rw (length-decoded columns cell row has) lt in
    pushed ∙ (λ i. front i ++ same i ∷ []) ∙ ap (λ x. take k (decoded_row columns cell.classes (row_of_codes cell.codes row)) ++ x ∷ []) (sym value)
    ∙ sym (take_more (decoded_row columns cell.classes (row_of_codes cell.codes row)) k v within)

pub decoded_all : (columns : List Classes) (cell : Cell) (row k : ℕ) (values : List Value) → IsCellRepr columns cell → row < cell.rows → length columns ≤ k
    → values ≡ take k (decoded_row columns cell.classes (row_of_codes cell.codes row)) → values ≡ decoded_row columns cell.classes (row_of_codes cell.codes row)
decoded_all columns cell row k values repr row_in le so_far =
    so_far ∙ take_all k (decoded_row columns cell.classes (row_of_codes cell.codes row)) (rw (length-decoded columns cell row (has_codes columns cell row repr row_in)) le)

-- the rows of an image, cell by cell
rows_each : (image : TableImage) (cells : List Cell) → flat_map (cell_rows image) (map cell_image cells) ≡ flat_map (rows_in image.columns) cells
rows_each image [] = refl
rows_each image (c ∷ cells) = ap (λ l. rows_in image.columns c ++ l) (rows_each image cells)

pub rows_seen : (image : TableImage) (schema : Schema) (columns : List Classes) (cells : List Cell) (rest : List Row) → image_of schema columns cells rest ≡ image → rows_of image ≡ all_rows columns cells rest
rows_seen image schema columns cells rest view = ap rows_of (sym view) ∙ ap (λ l. l ++ rest) (rows_each (image_of schema columns cells rest) cells)

-- where rows stand, as calls say it
pub row_in_cell : (image : TableImage) (schema : Schema) (columns : List Classes) (cells list : List Cell) (rest : List Row) (i j number : ℕ) (cell : Cell) (r : Result Row AllocError)
    → image_of schema columns cells rest ≡ image → list ≡ cells → cell ≡ get_or list i cell → i < length list → j < cell.rows → number ≡ sum_by (λ (c : Cell). c.rows) (take i list) + j
    → IfOk r (λ values. values ≡ decoded_row columns cell.classes (row_of_codes cell.codes j)) → IfOk r (λ row. slice_get (rows_of image) number ≡ Some row)
row_in_cell image schema columns cells list rest i j number cell (Ok row) view same is lt below place got =
    let lt_here : i < length cells = rw same at lt in
    let is_here : get_or cells i cell ≡ cell = sym (is ∙ ap (λ l. get_or l i cell) same) in
    let below_here : j < (get_or cells i cell).rows = rw is_here below in
    let place_here : number ≡ sum_by (λ (c : Cell). c.rows) (take i cells) + j = rw same at place in
    ap (λ l. slice_get l number) (rows_seen image schema columns cells rest view)
    ∙ row_of_cell columns cells rest i j number cell lt_here below_here place_here
    ∙ ap (λ (c : Cell). Some (decoded_row columns c.classes (row_of_codes c.codes j))) is_here ∙ ap Some (sym got)
row_in_cell image schema columns cells list rest i j number cell (Err e) view same is lt below place got = tt

-- a number past the cells is that of a row of rest
pub record InRest (image : TableImage) (rest : List Row) (number left : ℕ) : Type 0 where
  pub inside : left < length rest
  pub here : slice_get (rows_of image) number ≡ slice_get rest left

pub row_in_rest : (image : TableImage) (schema : Schema) (columns : List Classes) (cells list : List Cell) (rest : List Row) (i left number : ℕ)
    → image_of schema columns cells rest ≡ image → list ≡ cells → length list ≤ i → number ≡ sum_by (λ (c : Cell). c.rows) (take i list) + left → number < row_count image → InRest image rest number left
row_in_rest image schema columns cells list rest i left number view same le place lt =
    let all = rows_seen image schema columns cells rest view in
    let place_here : number ≡ sum_by (λ (c : Cell). c.rows) cells + left = rw (take_all i list le, same) at place in
    let n = ap length all ∙ length-all columns cells rest in
    record {
      inside = omega arith;
      here = ap (λ l. slice_get l number) all ∙ row_of_rest columns cells rest left number place_here;
    }

-- the rows of the cells so far are few
pub rows_within : (cells list : List Cell) (rest : List Row) (rows k : ℕ) (cell : Cell) → rows ≡ sum_by (λ (c : Cell). c.rows) cells + length rest → rows ≤ most_image_rows → list ≡ cells
    → cell ≡ get_or list k cell → k < length list → sum_by (λ (c : Cell). c.rows) (take k list) + cell.rows ≤ most_image_rows
rows_within cells list rest rows k cell counted most same is lt =
    let more = sum_by_more_le (λ (c : Cell). c.rows) list k cell lt in
    let here = ap (λ (c : Cell). c.rows) is in
    let all = ap (sum_by (λ (c : Cell). c.rows)) same in
    omega arith

-- a row of rest that was copied
pub copied_row : (image : TableImage) (rest list : List Row) (number left : ℕ) (row : Row) (r : Result Row AllocError) → InRest image rest number left → list ≡ rest → row ≡ get_or list left row
    → IfOk r (λ copy. copy ≡ row) → IfOk r (λ copy. slice_get (rows_of image) number ≡ Some copy)
copied_row image rest list number left row (Ok copy) here same is got =
    here.here ∙ slice_get-get_or rest left row here.inside ∙ ap Some (ap (λ l. get_or l left row) (sym same) ∙ sym is ∙ sym got)
copied_row image rest list number left row (Err e) here same is got = tt
