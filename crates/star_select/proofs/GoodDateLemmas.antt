-- Each date in the answer to a query over valid images is one of the calendar.
use Rattle.std.proofs.Common.{◌≡◌, ℕ, zero, suc, ℤ, pos, int_div, Bool, true, false, ◌==◌, List, [], ◌∷◌, map, filter, take, length, slice_index_or, Option, Some, None, refl, sym, ◌∙◌, arith}
use Rattle.std.specs.List.{list_all, zip}
use Rattle.std.specs.declared.cmp.Ordering.{Ordering}
use Rattle.std.specs.Option.{option_map_or}
use Rattle.std.specs.Ordering.{flip_args}
use Rattle.std.proofs.lemmas.Bool.{eqb-true}
use Rattle.std.proofs.lemmas.List.Folds.{list_all-map}
use Rattle.blink_base.specs.declared.answer.Field.TheVariants.{Number}
use Rattle.blink_base.specs.declared.schema.Column.{Column}
use Rattle.blink_base.specs.declared.schema.Schema.{Schema}
use Rattle.blink_base.specs.declared.value.Value.{Value}
use Rattle.blink_base.specs.declared.value.Value.TheVariants as value
use Rattle.blink_base.specs.Lines.{Line, LineKey, field_of, over_some, sum_of, field_if_some, line_cmp, cut_at, printed_lines}
use Rattle.blink_base.specs.RowFits.{is_good, is_entry, fits}
use Rattle.blink_base.specs.Values.{Row, kind_of, same_kind, same_row, value_cmp}
use Rattle.blink_lists.specs.Lists.{in_order, first_of, once_each, choices}
use Rattle.blink_lists.proofs.AllLemmas.{all-rearranged, all-alike, all-flat_map, all-part}
use Rattle.blink_lists.proofs.BoolLemmas.{all-true}
use Rattle.blink_lists.proofs.GroupLemmas.{both, and_both, all-imply}
use Rattle.blink_lists.proofs.OrderLemmas.{rearranged-in_order}
use Rattle.report_text.specs.AnswerText.{is_good_field, are_good_lines}
use Rattle.star_sql.specs.declared.ast.ColumnName.{ColumnName}
use Rattle.star_sql.specs.declared.ast.Cond.{Cond}
use Rattle.star_sql.specs.declared.ast.Item.{Item}
use Rattle.star_sql.specs.declared.ast.Select.{Select}
use Rattle.star_sql.specs.declared.ast.What.{What}
use Rattle.star_sql.specs.declared.ast.What.TheVariants.{Column as Bare, Count, Sum, Avg, Min, Max}
use Rattle.star_meaning.specs.Names.{Scope, Combination, ColumnPlace, place_of, value_at}
use Rattle.star_meaning.specs.Truth.{is_true, kept}
use Rattle.star_meaning.specs.Groups.{value_of, number_at, item_value, has_aggregate, key_of, line_groups, groups}
use Rattle.star_meaning.specs.Answer.{line_keys, line_of, lines, answer}
use Rattle.star_bind.specs.BoundQuery.{scope_of}
use Rattle.cell_layout.specs.Image.{TableImage, rows_of}
use Rattle.cell_layout.specs.Valid.{is_valid}
use Rattle.cell_layout.proofs.RowFitLemmas.{valid_fits}
use Rattle.star_select.specs.GoodDates.{AnswersHaveDates}
use Rattle.star_select.specs.ImageAnswer.{rows_in}

-- whether a value is no date, or one of the calendar
abbrev is_dated : Value → Bool
is_dated v = is_good_field (field_of v)

abbrev is_dated_row : Row → Bool
is_dated_row row = list_all is_dated row

abbrev is_dated_combination : Combination → Bool
is_dated_combination rows = list_all is_dated_row rows

-- ---- lists

module _ {X : Type 0} (p : X → Bool) where
  all-of : ((x : X) → p x ≡ true) → (xs : List X) → list_all p xs ≡ true
  all-of each xs = all-alike p (λ x. true) each xs ∙ all-true xs

  all-index : (xs : List X) (k : ℕ) (d : X) → p d ≡ true → list_all p xs ≡ true → p (slice_index_or xs k d) ≡ true
  all-index [] k d h all = h
  all-index (x ∷ xs) zero d h all = (both (p x) (list_all p xs) all).0
  all-index (x ∷ xs) (suc k) d h all = all-index xs k d h (both (p x) (list_all p xs) all).1

  all-take : (n : ℕ) (xs : List X) → list_all p xs ≡ true → list_all p (take n xs) ≡ true
  all-take zero xs all = refl
  all-take (suc n) [] all = refl
  all-take (suc n) (x ∷ xs) all =
      let b = both (p x) (list_all p xs) all in
      and_both (p x) (list_all p (take n xs)) b.0 (all-take n xs b.1)

  all-cut : (limit : Option ℕ) (xs : List X) → list_all p xs ≡ true → list_all p (cut_at limit xs) ≡ true
  all-cut None xs all = all
  all-cut (Some n) xs all = all-take n xs all

  all-ordered : (cmp : X → X → Ordering) (xs : List X) → list_all p xs ≡ true → list_all p (in_order cmp xs) ≡ true
  all-ordered cmp xs all = sym (all-rearranged p (rearranged-in_order cmp xs)) ∙ all

  all-choices : (lists : List (List X)) → list_all (list_all p) lists ≡ true → list_all (list_all p) (choices lists) ≡ true
  all-choices [] all = refl
  all-choices (xs ∷ rest) all =
      let b = both (list_all p xs) (list_all (list_all p) rest) all in
      let more = all-choices rest b.1 in
      all-flat_map (list_all p) (λ x. map (λ chosen. x ∷ chosen) (choices rest)) xs
      ∙ all-imply p (λ x. list_all (list_all p) (map (λ chosen. x ∷ chosen) (choices rest)))
      (λ x h. list_all-map (list_all p) (λ chosen. x ∷ chosen) (choices rest)
      ∙ all-imply (list_all p) (λ chosen. list_all p (x ∷ chosen)) (λ chosen k. and_both (p x) (list_all p chosen) h k) (choices rest) more) xs b.0

-- ---- rows of images

good-dated : (v : Value) → is_good v ≡ true → is_dated v ≡ true
good-dated (value.Int n) h = refl
good-dated (value.Text t) h = refl
good-dated (value.Date d) h = h

entries-dated : (columns : List Column) (row : Row) → length row ≡ length columns → list_all (λ p. is_entry p.0.kind p.1) (zip columns row) ≡ true → is_dated_row row ≡ true
entries-dated columns [] l h = refl
entries-dated [] (v ∷ row) l h = absurd (omega (arith, l))
entries-dated (column ∷ columns) (v ∷ row) l h =
    let b = both (is_entry column.kind v) (list_all (λ p. is_entry p.0.kind p.1) (zip columns row)) h in
    and_both (is_dated v) (is_dated_row row) (good-dated v (both (is_good v) (same_kind column.kind (kind_of v)) b.0).0) (entries-dated columns row (omega (arith, l)) b.1)

row-dated : (schema : Schema) (row : Row) → fits schema row ≡ true → is_dated_row row ≡ true
row-dated schema row h =
    let b = both (length row == length schema.columns) (list_all (λ p. is_entry p.0.kind p.1) (zip schema.columns row)) h in
    entries-dated schema.columns row (eqb-true (length row) (length schema.columns) b.0) b.1

tables-dated : (images : List TableImage) → list_all is_valid images ≡ true → list_all (list_all is_dated_row) (rows_in images) ≡ true
tables-dated images valid =
    list_all-map (list_all is_dated_row) rows_of images
    ∙ all-imply is_valid (λ image. list_all is_dated_row (rows_of image))
    (λ image h. all-imply (fits image.schema) is_dated_row (row-dated image.schema) (rows_of image) (valid_fits image h)) images valid

kept-dated : (scope : Scope) (cond : Option Cond) (tables : List (List Row)) → list_all (list_all is_dated_row) tables ≡ true → list_all is_dated_combination (kept scope cond tables) ≡ true
kept-dated scope None tables h = all-choices is_dated_row tables h
kept-dated scope (Some cond) tables h = all-part is_dated_combination (is_true scope cond) (choices tables) (all-choices is_dated_row tables h)

-- ---- groups

line_groups-dated : (scope : Scope) (columns : List ColumnName) (aggregate : Bool) (rows : List Combination) → list_all is_dated_combination rows ≡ true → list_all (list_all is_dated_combination) (line_groups scope columns aggregate rows) ≡ true
line_groups-dated scope (c ∷ cs) aggregate rows h =
    let key : Combination → Row = key_of scope (c ∷ cs) in
    let keys : List Row = once_each same_row (map key rows) in
    list_all-map (list_all is_dated_combination) (λ k. filter (λ r. same_row k (key r)) rows) keys
    ∙ all-of (λ k. list_all is_dated_combination (filter (λ r. same_row k (key r)) rows)) (λ k. all-part is_dated_combination (λ r. same_row k (key r)) rows h) keys
line_groups-dated scope [] true rows h = and_both (list_all is_dated_combination rows) true h refl
line_groups-dated scope [] false rows h =
    list_all-map (list_all is_dated_combination) (λ r. r ∷ []) rows
    ∙ all-imply is_dated_combination (λ r. list_all is_dated_combination (r ∷ [])) (λ r k. and_both (is_dated_combination r) true k refl) rows h

-- ---- fields

place-dated : (place : Option ColumnPlace) (rows : Combination) → is_dated_combination rows ≡ true → is_dated (option_map_or (value_at rows) place (value.Int (pos 0))) ≡ true
place-dated None rows h = refl
place-dated (Some p) rows h = all-index is_dated (slice_index_or rows p.table []) p.column (value.Int (pos 0)) refl (all-index is_dated_row rows p.table [] refl h)

values-dated : (scope : Scope) (c : ColumnName) (group : List Combination) → list_all is_dated_combination group ≡ true → list_all is_dated (map (value_of scope c) group) ≡ true
values-dated scope c group h =
    list_all-map is_dated (value_of scope c) group
    ∙ all-imply is_dated_combination (λ rows. is_dated (value_of scope c rows)) (λ rows k. place-dated (place_of scope c) rows k) group h

first-dated : (values : List Value) → list_all is_dated values ≡ true → is_good_field (field_if_some (first_of values)) ≡ true
first-dated [] h = refl
first-dated (v ∷ values) h = (both (is_dated v) (list_all is_dated values) h).0

chosen-dated : (cmp : Value → Value → Ordering) (scope : Scope) (c : ColumnName) (group : List Combination) → list_all is_dated_combination group ≡ true
    → is_good_field (field_if_some (first_of (in_order cmp (map (value_of scope c) group)))) ≡ true
chosen-dated cmp scope c group h =
    let values : List Value = map (value_of scope c) group in
    first-dated (in_order cmp values) (all-ordered is_dated cmp values (values-dated scope c group h))

number-dated : (f : List ℤ → ℤ) (ns : List ℤ) → is_good_field (over_some (λ xs. Number (f xs)) ns) ≡ true
number-dated f [] = refl
number-dated f (n ∷ ns) = refl

item-dated : (scope : Scope) (what : What) (group : List Combination) → list_all is_dated_combination group ≡ true → is_good_field (item_value scope what group) ≡ true
item-dated scope (Bare c) group h = chosen-dated value_cmp scope c group h
item-dated scope Count group h = refl
item-dated scope (Sum e) group h = number-dated sum_of (map (number_at scope e) group)
item-dated scope (Avg e) group h = number-dated (λ ns. int_div (sum_of ns) (pos (length ns))) (map (number_at scope e) group)
item-dated scope (Min c) group h = chosen-dated value_cmp scope c group h
item-dated scope (Max c) group h = chosen-dated (flip_args value_cmp) scope c group h

-- ---- lines

line-dated : (scope : Scope) (items : List Item) (group : List Combination) → list_all is_dated_combination group ≡ true → list_all is_good_field (line_of scope items group) ≡ true
line-dated scope items group h =
    list_all-map is_good_field (λ (i : Item). item_value scope i.what group) items
    ∙ all-of (λ (i : Item). is_good_field (item_value scope i.what group)) (λ i. item-dated scope i.what group h) items

printed-dated : (keys : List LineKey) (limit : Option ℕ) (ls : List Line) → are_good_lines ls ≡ true → are_good_lines (printed_lines keys limit ls) ≡ true
printed-dated keys limit ls h = all-cut (list_all is_good_field) limit (in_order (line_cmp keys) ls) (all-ordered (list_all is_good_field) (line_cmp keys) ls h)

lines-dated : (scope : Scope) (s : Select) (tables : List (List Row)) → list_all (list_all is_dated_row) tables ≡ true → are_good_lines (lines scope s tables) ≡ true
unfolding lines
lines-dated scope s tables h =
    let rows : List Combination = kept scope s.condition tables in
    let gathered : List (List Combination) = groups scope s rows in
    printed-dated (line_keys scope s) s.limit (map (line_of scope s.items) gathered)
    (list_all-map (list_all is_good_field) (line_of scope s.items) gathered
    ∙ all-imply (list_all is_dated_combination) (λ group. list_all is_good_field (line_of scope s.items group)) (λ group k. line-dated scope s.items group k) gathered
    (line_groups-dated scope s.groups (has_aggregate s.items) rows (kept-dated scope s.condition tables h)))

pub answers_have_dates : AnswersHaveDates
unfolding answer
answers_have_dates schemas s images has = lines-dated (scope_of schemas s) s (rows_in images) (tables-dated images has.valid)
