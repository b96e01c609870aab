-- The selected rows of a page, one after another.
use Rattle.std.proofs.Common.{◌≡◌, ◌<◌, ◌≤◌, ◌+◌, ◌*◌, ℕ, suc, add-one, Bool, true, false, List, [], ◌∷◌, map, drop, length, slice_index_or, slice_get, Option, Some, None, refl, sym, ap, ◌∙◌, subst, true≢false, arith, inl, inr}
use Rattle.std.specs.Prelude.{IsTrue, pos, unwrap_or}
use Rattle.std.proofs.Math.Nat.{suc-mul}
use Rattle.std.proofs.lemmas.Bool.{cases_lt}
use Rattle.std.proofs.lemmas.List.{length-take, length-drop, get_or-take, get_or-drop, length-append, length-map, append_assoc}
use Rattle.std.proofs.lemmas.Option.{slice_get-get_or}
use Rattle.blink_base.specs.declared.value.Value.TheVariants.{Int}
use Rattle.blink_base.specs.Values.{Row}
use Rattle.blink_lists.specs.Lists.{any_true}
use Rattle.blink_lists.specs.declared.limits.TheConstants.{PAGE_ROWS}
use Rattle.cell_layout.specs.Image.{TableImage, cell_at, decoded_row}
use Rattle.cell_scan.specs.Match.{rows_of_page, selected_rows}
use Rattle.code_join.specs.Keys.{Keyed, are_keys, place_of_key}
use Rattle.code_join.specs.KeyLaws.{LaterKeysAreNew}
use Rattle.dim_filter.specs.Entries.{entry_of, collected, key_column, cell_row, chosen_rows}
use Rattle.dim_filter.proofs.SelectionLemmas.{next_selected, none_selected, none_behind}

-- the selected rows from a place of the page on
abbrev pub rows_from : TableImage → ℕ → ℕ → List Bool → ℕ → List Row
rows_from image cell page bits from = map (decoded_row image.columns (cell_at image cell).classes) (selected_rows (drop from bits) (drop from (rows_of_page (cell_at image cell).rows page)))

module _ (image : TableImage) (cell page : ℕ) (bits : List Bool) where
  -- a place of the page is one of the cell
  place_in : (place : ℕ) → place < length (rows_of_page (cell_at image cell).rows page) → (place < PAGE_ROWS) × (page * PAGE_ROWS + place < length (cell_at image cell).rows)
  place_in place lt = let e = length-take PAGE_ROWS (drop (page * PAGE_ROWS) (cell_at image cell).rows) in let f = length-drop (page * PAGE_ROWS) (cell_at image cell).rows in (omega (arith, lt, e, f), omega (arith, lt, e, f))

  code_at : (place : ℕ) → place < length (rows_of_page (cell_at image cell).rows page) → slice_get (rows_of_page (cell_at image cell).rows page) place ≡ Some (slice_index_or (cell_at image cell).rows (page * PAGE_ROWS + place) [])
  code_at place lt =
      slice_get-get_or (rows_of_page (cell_at image cell).rows page) place [] lt
      ∙ ap (λ x. Some x) (get_or-take PAGE_ROWS (drop (page * PAGE_ROWS) (cell_at image cell).rows) place [] (place_in place lt).0 ∙ get_or-drop (page * PAGE_ROWS) (cell_at image cell).rows place [])

  -- the next one: its place is the first true one that isn't below `from`
  pub next_row : any_true (drop (length (rows_of_page (cell_at image cell).rows page)) bits) ≡ false → (from place : ℕ) → (from ≤ place) × (place < PAGE_ROWS) × (slice_index_or bits place false ≡ true)
      → ((k : ℕ) → from ≤ k → k < place → slice_index_or bits k false ≡ false)
      → (page * PAGE_ROWS + place < length (cell_at image cell).rows) × (rows_from image cell page bits from ≡ cell_row image cell (page * PAGE_ROWS + place) ∷ rows_from image cell page bits (place + 1))
  next_row none from place at gap = elim (cases_lt place (length (rows_of_page (cell_at image cell).rows page))) [
    | inl lt ↦ (
      (place_in place lt).1,
      ap (map (decoded_row image.columns (cell_at image cell).classes))
          (next_selected bits (rows_of_page (cell_at image cell).rows page) from place (slice_index_or (cell_at image cell).rows (page * PAGE_ROWS + place) []) at.0 at.2 (code_at place lt) gap)
          ∙ ap (λ n. cell_row image cell (page * PAGE_ROWS + place) ∷ rows_from image cell page bits n) (sym (add-one place)),
    )
    | inr past ↦ absurd (true≢false (sym at.2 ∙ none_behind bits (length (rows_of_page (cell_at image cell).rows page)) none place past))
  ]

  -- none is left
  pub no_row : (from : ℕ) → ((k : ℕ) → from ≤ k → slice_index_or bits k false ≡ false) → rows_from image cell page bits from ≡ []
  no_row from clear = ap (map (decoded_row image.columns (cell_at image cell).classes)) (none_selected bits (rows_of_page (cell_at image cell).rows page) from clear)

module _ (key : ℕ) (wanted : List ℕ) where
  pub length-collected : (keys : Keyed) (rows : List Row) → length (collected key wanted keys rows) ≡ length keys + length rows
  length-collected keys rows = length-append keys (map (entry_of key wanted) rows) ∙ ap (λ n. length keys + n) (length-map rows (entry_of key wanted))

  pub none-collected : (keys : Keyed) → collected key wanted keys [] ≡ keys
  none-collected [] = refl
  none-collected (e ∷ keys) = ap (λ l. e ∷ l) (none-collected keys)

-- the next selected row of a page, where what is kept together with what is left is the whole
module _ (image : TableImage) (cell page : ℕ) (bits : List Bool) (wanted : List ℕ) (old into : Keyed) (from place : ℕ) (none : any_true (drop (length (rows_of_page (cell_at image cell).rows page)) bits) ≡ false)
    (at : (from ≤ place) × (place < PAGE_ROWS) × (slice_index_or bits place false ≡ true)) (gap : (k : ℕ) → from ≤ k → k < place → slice_index_or bits k false ≡ false)
    (kept : collected (key_column image) wanted into (rows_from image cell page bits from) ≡ collected (key_column image) wanted old (chosen_rows image cell page bits)) where
  split : rows_from image cell page bits from ≡ cell_row image cell (page * PAGE_ROWS + place) ∷ rows_from image cell page bits (place + 1)
  split = (next_row image cell page bits none from place at gap).1

  left : collected (key_column image) wanted into (cell_row image cell (page * PAGE_ROWS + place) ∷ rows_from image cell page bits (place + 1)) ≡ collected (key_column image) wanted old (chosen_rows image cell page bits)
  left = ap (collected (key_column image) wanted into) (sym split) ∙ kept

  key_is : (key : ℕ) → image.schema.key ≡ Some key → key_column image ≡ key
  key_is key is = ap (λ (o : Option ℕ). unwrap_or o 0) is

  pub next_in : page * PAGE_ROWS + place < length (cell_at image cell).rows
  next_in = (next_row image cell page bits none from place at gap).0

  pub next_new : (key : ℕ) → image.schema.key ≡ Some key → LaterKeysAreNew → IsTrue (are_keys (collected (key_column image) wanted old (chosen_rows image cell page bits)))
      → place_of_key into (slice_index_or (cell_row image cell (page * PAGE_ROWS + place)) key (Int (pos 0))) ≡ None
  next_new key is law are =
      subst (λ k. place_of_key into (slice_index_or (cell_row image cell (page * PAGE_ROWS + place)) k (Int (pos 0))) ≡ None) (key_is key is)
      (law into (map (entry_of (key_column image) wanted) (rows_from image cell page bits (place + 1))) (slice_index_or (cell_row image cell (page * PAGE_ROWS + place)) (key_column image) (Int (pos 0)))
      (map (λ column. slice_index_or (cell_row image cell (page * PAGE_ROWS + place)) column (Int (pos 0))) wanted) (subst (λ keys. IsTrue (are_keys keys)) (sym left) are))

  pub next_few : (most : ℕ) → length old + length (chosen_rows image cell page bits) ≤ most → length into < most
  next_few most few =
      let e = sym (length-collected (key_column image) wanted into (cell_row image cell (page * PAGE_ROWS + place) ∷ rows_from image cell page bits (place + 1))) ∙ ap length left ∙ length-collected (key_column image) wanted old (chosen_rows image cell page bits) in
      omega (arith, few, e)

  pub next_put : (key : ℕ) → image.schema.key ≡ Some key → (new : Keyed) → new ≡ collected key wanted into (cell_row image cell (page * PAGE_ROWS + place) ∷ [])
      → collected (key_column image) wanted new (rows_from image cell page bits (place + 1)) ≡ collected (key_column image) wanted old (chosen_rows image cell page bits)
  next_put key is new put =
      let row = cell_row image cell (page * PAGE_ROWS + place) in
      let more = rows_from image cell page bits (place + 1) in
      ap (λ keys. collected (key_column image) wanted keys more) (put ∙ ap (λ k. collected k wanted into (row ∷ [])) (sym (key_is key is)))
      ∙ append_assoc into (entry_of (key_column image) wanted row ∷ []) (map (entry_of (key_column image) wanted) more) ∙ left

  pub next_counted : (before after most each : ℕ) → before + length (rows_from image cell page bits from) * each ≤ most → after ≤ before + each → after + length (rows_from image cell page bits (place + 1)) * each ≤ most
  next_counted before after most each all one =
      let here : before + suc (length (rows_from image cell page bits (place + 1))) * each ≤ most = subst (λ (rows : List Row). before + length rows * each ≤ most) split all in
      let more = suc-mul (length (rows_from image cell page bits (place + 1))) each in
      omega (arith, here, more, one)
