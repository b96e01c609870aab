-- Keys that are looked for by their class and code.
use Rattle.std.proofs.Common.{◌≡◌, ◌<◌, ◌==◌, ℕ, Bool, true, false, ◌||◌, zero, suc, pos, List, [], ◌∷◌, length, get_or, Option, Some, unwrap_or, refl, sym, ap, ◌∙◌, arith}
use Rattle.std.specs.List.{list_any, flat_map}
use Rattle.std.proofs.lemmas.Bool.{eqb-true, eq-eqb, true≢false}
use Rattle.std.proofs.lemmas.List.{get_or_default}
use Rattle.std.proofs.lemmas.List.Folds.{list_any_at, list_any_none, Any-from_list_any, list_any-append}
use Rattle.std.proofs.lemmas.Option.{slice_get-get_or}
use Rattle.blink_base.specs.declared.value.Value.{Value}
use Rattle.blink_base.specs.declared.value.Value.TheVariants.{Int}
use Rattle.blink_base.specs.Values.{same_value}
use Rattle.blink_base.specs.ValueHash.{value_equiv, one_value}
use Rattle.order_codes.specs.declared.place.CodePlace.{CodePlace}
use Rattle.order_codes.specs.Dictionary.{Classes, class_at, decoded}
use Rattle.cell_layout.specs.declared.cell.Cell.{Cell}
use Rattle.column_classes.specs.ColumnClasses.{column_values}
use Rattle.cell_layout.specs.CellRepr.{IsCellRepr, row_of_codes, rows_in}
use Rattle.cell_layout.proofs.CellReprLemmas.{has_codes, code_of_row, length-in}
use Rattle.cell_layout.proofs.RepeatedKeyLemmas.{cell_key, length-keys, keys-append}

-- the value of a key's class and code is the key
pub key_decodes : (columns : List Classes) (cell : Cell) (row key : ℕ) → IsCellRepr columns cell → row < cell.rows → key < length columns
    → decoded (get_or columns key []) (get_or cell.classes key 0) (get_or (row_of_codes cell.codes row) key 0) ≡ Some (get_or (column_values (rows_in columns cell) key) row (Int (pos 0)))
key_decodes columns cell row key repr row_in lt =
    let values = get_or columns key [] in
    let class = get_or cell.classes key 0 in
    let code = get_or (row_of_codes cell.codes row) key 0 in
    let found : decoded values class code ≡ Some (get_or (class_at values class) code (Int (pos 0))) = slice_get-get_or (class_at values class) code (Int (pos 0)) ((has_codes columns cell row repr row_in).below key lt) in
    let here = cell_key columns cell row key values cell.classes code (get_or (class_at values class) code (Int (pos 0))) repr row_in lt (sym (get_or_default columns key values [] lt)) refl refl found in
    found ∙ ap Some (sym here)

-- whether a row of a cell has this code in a column
abbrev pub holds_code : Cell → ℕ → ℕ → Bool
holds_code cell key code = list_any (λ held. held == code) (get_or cell.codes key ([], 0)).0

-- the place that is found is the only one
pub place_only : (values : Classes) (v : Value) (found : Option CodePlace) (p : CodePlace) (k c : ℕ) → found ≡ Some p → found ≡ Some (record { class = k; code = c }) → (k ≡ p.class) × (c ≡ p.code)
place_only values v found p k c is same =
    let e : p ≡ record { class = k; code = c } = ap (λ o. unwrap_or o p) (sym is ∙ same) in
    (sym (ap (λ (q : CodePlace). q.class) e), sym (ap (λ (q : CodePlace). q.code) e))

-- a key in some cell, or in none
module _ (columns : List Classes) (key : ℕ) (v : Value) where
  abbrev pub stands_in : Cell → Bool
  stands_in cell = list_any (same_value v) (column_values (rows_in columns cell) key)

  abbrev pub stands_in_some : List Cell → Bool
  stands_in_some cells = list_any (same_value v) (column_values (flat_map (rows_in columns) cells) key)

  one_more_cell : (cell : Cell) (cells : List Cell) → stands_in_some (cell ∷ cells) ≡ (stands_in cell || stands_in_some cells)
  one_more_cell cell cells = ap (list_any (same_value v)) (keys-append (rows_in columns cell) (flat_map (rows_in columns) cells) key) ∙ list_any-append (same_value v) (column_values (rows_in columns cell) key) (column_values (flat_map (rows_in columns) cells) key)

  pub in_some : (cells : List Cell) (i : ℕ) (d : Cell) → i < length cells → stands_in (get_or cells i d) ≡ true → stands_in_some cells ≡ true
  in_some [] i d lt there = absurd (omega arith)
  in_some (cell ∷ cells) zero d lt there = one_more_cell cell cells ∙ ap (λ b. b || stands_in_some cells) there
  in_some (cell ∷ cells) (suc i) d lt there = one_more_cell cell cells ∙ ap (λ b. stands_in cell || b) (in_some cells i d (omega arith) there) ∙ or_true (stands_in cell)
    where
      or_true : (b : Bool) → (b || true) ≡ true
      or_true true = refl
      or_true false = refl

  pub in_none : (cells : List Cell) → ((k : ℕ) (d : Cell) → k < length cells → stands_in (get_or cells k d) ≡ false) → stands_in_some cells ≡ false
  in_none [] none = refl
  in_none (cell ∷ cells) none = one_more_cell cell cells ∙ ap (λ b. b || stands_in_some cells) (none 0 cell (omega arith)) ∙ in_none cells (λ k d lt. none (suc k) d (omega arith))

  -- a cell none of whose codes is the key's doesn't hold it
  pub key_absent : (cell : Cell) → IsCellRepr columns cell → key < length columns
      → ((row : ℕ) → row < cell.rows → decoded (get_or columns key []) (get_or cell.classes key 0) (get_or (row_of_codes cell.codes row) key 0) ≡ Some v → ⊥) → stands_in cell ≡ false
  key_absent cell repr lt none =
      list_any_none (same_value v) (column_values (rows_in columns cell) key) (λ row d within. by row d within (same_value v (get_or (column_values (rows_in columns cell) key) row d)) refl)
    where
      by : (row : ℕ) (d : Value) → row < length (column_values (rows_in columns cell) key) → (b : Bool) → same_value v (get_or (column_values (rows_in columns cell) key) row d) ≡ b → same_value v (get_or (column_values (rows_in columns cell) key) row d) ≡ false
      by row d within false e = e
      by row d within true e =
          let long = length-keys (rows_in columns cell) key in
          let rows = length-in columns cell in
          let row_in : row < cell.rows = omega arith in
          let is : get_or (column_values (rows_in columns cell) key) row (Int (pos 0)) ≡ v = get_or_default _ row (Int (pos 0)) d within ∙ sym (one_value v _ e) in
          absurd (none row row_in (key_decodes columns cell row key repr row_in lt ∙ ap Some is))

module _ (columns : List Classes) (key class code : ℕ) (v : Value) where
  -- a cell of the key's class that has its code holds the key
  pub key_there : (cell : Cell) → IsCellRepr columns cell → key < length columns → decoded (get_or columns key []) class code ≡ Some v → get_or cell.classes key 0 ≡ class → holds_code cell key code ≡ true
      → stands_in columns key v cell ≡ true
  key_there cell repr lt back same some =
      let codes = (get_or cell.codes key ([], 0)).0 in
      let any = Any-from_list_any (λ held. held == code) codes some in
      let row = any.0 in
      let lists = repr.lists in
      let full : length codes ≡ cell.rows = repr.full key ([], 0) (omega arith) in
      let row_in : row < cell.rows = let within = any.2 in omega arith in
      let found : get_or codes row 0 ≡ code = get_or_default codes row 0 any.1 any.2 ∙ any.3 ∙ eqb-true _ _ any.4 in
      let here : get_or (row_of_codes cell.codes row) key 0 ≡ code = code_of_row cell.codes row key ([], 0) (omega arith) ∙ found in
      let value = sym (key_decodes columns cell row key repr row_in lt) ∙ (λ i. decoded (get_or columns key []) (same i) (here i)) ∙ back in
      let is : get_or (column_values (rows_in columns cell) key) row (Int (pos 0)) ≡ v = ap (λ o. unwrap_or o v) value in
      let long = length-keys (rows_in columns cell) key in
      let rows = length-in columns cell in
      list_any_at (same_value v) (column_values (rows_in columns cell) key) row (Int (pos 0)) (omega arith) (ap (same_value v) is ∙ value_equiv.refl v)

  -- any other cell doesn't
  pub key_not_there : (cell : Cell) → IsCellRepr columns cell → key < length columns
      → ((k c : ℕ) → decoded (get_or columns key []) k c ≡ Some v → (k ≡ class) × (c ≡ code))
      → (get_or cell.classes key 0 ≡ class → holds_code cell key code ≡ false)
      → stands_in columns key v cell ≡ false
  key_not_there cell repr lt there none =
      key_absent columns key v cell repr lt (λ row row_in is.
      let place = there (get_or cell.classes key 0) (get_or (row_of_codes cell.codes row) key 0) is in
      let codes = (get_or cell.codes key ([], 0)).0 in
      let lists = repr.lists in
      let full : length codes ≡ cell.rows = repr.full key ([], 0) (omega arith) in
      let found : get_or codes row 0 ≡ code = sym (code_of_row cell.codes row key ([], 0) (omega arith)) ∙ place.1 in
      let some : holds_code cell key code ≡ true = list_any_at (λ held. held == code) codes row 0 (omega arith) (ap (λ c. c == code) found ∙ eq-eqb code code refl) in
      true≢false (sym some ∙ none place.0))
