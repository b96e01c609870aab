-- The answer to a query over images is that of the groups that the image of its fact gives.
use Rattle.std.proofs.Common.{◌≡◌, ◌==◌, ℕ, zero, suc, true, not, ◌&&◌, List, [], ◌∷◌, map, filter, length, nat_lt, nat_le, slice_get, slice_index_or, Option, Some, None, refl, sym, ap, ◌∙◌, subst, arith}
use Rattle.std.specs.List.{list_all, zip}
use Rattle.std.specs.Option.{option_map_or}
use Rattle.std.proofs.lemmas.Bool.{eqb-true}
use Rattle.std.proofs.lemmas.List.{length-map}
use Rattle.std.proofs.lemmas.List.Folds.{list_all-map}
use Rattle.std.proofs.lemmas.Option.{slice_get_within}
use Rattle.blink_base.specs.declared.schema.Schema.{Schema}
use Rattle.blink_base.specs.Values.{Row}
use Rattle.blink_base.specs.RowFits.{fits}
use Rattle.blink_lists.specs.Rearrangement.{Rearranged}
use Rattle.blink_lists.proofs.GroupLemmas.{both, and_both, all-imply}
use Rattle.star_sql.specs.declared.ast.Select.{Select}
use Rattle.star_meaning.specs.Names.{Scope, FromEntry}
use Rattle.star_bind.specs.declared.query.Conjunction.{Conjunction}
use Rattle.star_bind.specs.declared.query.Query.{Query}
use Rattle.star_bind.specs.declared.query.Tie.{Tie}
use Rattle.star_bind.specs.declared.limits.TheConstants.{MOST_CONJUNCTIONS}
use Rattle.star_bind.specs.BoundQuery.{Schemas, scope_of, query_of}
use Rattle.star_bind.specs.Joins.{filters_at}
use Rattle.star_bind.specs.Laws.{may_hold, has_own_keys}
use Rattle.star_bind.specs.QueryShape.{column_count, is_tie, is_conjunction, is_condition_on, HasShape, QueriesHaveShape}
use Rattle.cell_layout.specs.Image.{TableImage, rows_of}
use Rattle.cell_layout.specs.Valid.{is_valid, are_keyed}
use Rattle.cell_layout.proofs.PlacedImageLemmas.{valid_parts}
use Rattle.cell_layout.proofs.RowFitLemmas.{valid_fits}
use Rattle.column_classes.specs.ColumnClasses.{are_column_classes}
use Rattle.code_join.specs.Keys.{Keyed}
use Rattle.code_group.specs.GroupLaws.{ImageGroups}
use Rattle.star_select.specs.CodeSelection.{fact_cells, fact_rest, is_of_columns, SelectsByCodes}
use Rattle.star_select.specs.GroupAnswer.{answer_of_groups, AnswersByGroups}
use Rattle.star_select.specs.ImageAnswer.{rows_in, image_keys, HasImages, ImagesMayBeAsked, FactNamed, AnswersByCodes}
use Rattle.star_select.specs.KeySets.{keyed_of, is_selected}
use Rattle.star_select.specs.Picks.{tied_columns}
use Rattle.star_select.specs.QueryPlan.{plan_of}
use Rattle.star_select.proofs.CodeSelectionLemmas.{rows-selected, cells-joined}
use Rattle.star_select.proofs.GroupAnswerLemmas.{names-as-many}
use Rattle.star_select.proofs.ListLemmas.{some-same, none-some, zip-place, all-place}

-- ---- images stand for rows that their tables may hold

image-may-hold : (image : TableImage) → is_valid image ≡ true → (entry : FromEntry) → image.schema ≡ entry.schema → may_hold (entry, rows_of image) ≡ true
image-may-hold image valid entry same =
    let rows : List Row = rows_of image in
    let keyed : (key : Option ℕ) → are_keyed key rows ≡ has_own_keys key rows = own in
    and_both (list_all (fits entry.schema) rows) (has_own_keys entry.schema.key rows)
    (ap (λ (schema : Schema). list_all (fits schema) rows) (sym same) ∙ valid_fits image valid)
    (ap (λ (schema : Schema). has_own_keys schema.key rows) (sym same) ∙ sym (keyed image.schema.key) ∙ (valid_parts image valid).keyed)
  where
    own : (key : Option ℕ) → are_keyed key (rows_of image) ≡ has_own_keys key (rows_of image)
    own None = refl
    own (Some key) = refl

abbrev first_schema : Schema → List Schema → Schema
first_schema other [] = other
first_schema other (schema ∷ schemas) = schema

abbrev other_schemas : List Schema → List Schema
other_schemas [] = []
other_schemas (schema ∷ schemas) = schemas

images-may-hold : (scope : Scope) (images : List TableImage) → map (λ image. image.schema) images ≡ map (λ entry. entry.schema) scope → list_all is_valid images ≡ true → list_all may_hold (zip scope (map rows_of images)) ≡ true
images-may-hold [] images same valid = refl
images-may-hold (entry ∷ scope) [] same valid = refl
images-may-hold (entry ∷ scope) (image ∷ images) same valid =
    let b = both (is_valid image) (list_all is_valid images) valid in
    and_both (may_hold (entry, rows_of image)) (list_all may_hold (zip scope (map rows_of images)))
    (image-may-hold image b.0 entry (ap (first_schema image.schema) same)) (images-may-hold scope images (ap other_schemas same) b.1)

pub as-many : (schemas : Schemas) (s : Select) (images : List TableImage) → QueriesHaveShape → HasImages schemas s images → (length images ≡ length (scope_of schemas s)) × (length images ≡ length s.tables)
as-many schemas s images shaped has =
    let first : length images ≡ length (scope_of schemas s) = sym (length-map images (λ image. image.schema)) ∙ ap (λ (l : List Schema). length l) has.same ∙ length-map (scope_of schemas s) (λ entry. entry.schema) in
    (first, first ∙ sym (shaped schemas s has.formed has.free).tables ∙ names-as-many schemas s)

pub images_may_be_asked : QueriesHaveShape → ImagesMayBeAsked
images_may_be_asked shaped schemas s images has = record {
  formed = has.formed;
  free = has.free;
  sized = length-map images rows_of ∙ (as-many schemas s images shaped has).1;
  allowed = images-may-hold (scope_of schemas s) images has.same has.valid;
}

-- ---- what a query names of its fact

-- a schema by its place
pub entry-same : (scope : Scope) (images : List TableImage) → map (λ image. image.schema) images ≡ map (λ entry. entry.schema) scope → (k : ℕ) (image : TableImage) → slice_get images k ≡ Some image
    → (entry : FromEntry) × (slice_get scope k ≡ Some entry) × (image.schema ≡ entry.schema)
entry-same scope [] same k image here = absurd (none-some image here)
entry-same [] (x ∷ images) same k image here = absurd (let l = ap (λ (l : List Schema). length l) same in omega (arith, l))
entry-same (entry ∷ scope) (x ∷ images) same zero image here =
    (entry, refl, ap (λ (y : TableImage). y.schema) (sym (some-same x image here)) ∙ ap (first_schema x.schema) same)
entry-same (entry ∷ scope) (x ∷ images) same (suc k) image here = entry-same scope images (ap other_schemas same) k image here

pub columns-as-many : (image : TableImage) → is_valid image ≡ true → length image.columns ≡ length image.schema.columns
columns-as-many image valid =
    let a = both (length image.columns == length image.schema.columns && list_all (λ p. are_column_classes p.0 p.1) (zip image.schema.columns image.columns)) _ (valid_parts image valid).divided in
    eqb-true (length image.columns) (length image.schema.columns) (both (length image.columns == length image.schema.columns) (list_all (λ p. are_column_classes p.0 p.1) (zip image.schema.columns image.columns)) a.0).0

module _ (scope : Scope) (query : Query) (shape : HasShape scope query) (entry : FromEntry) (here : slice_get scope query.fact ≡ Some entry) (columns : ℕ) (many : columns ≡ length entry.schema.columns) where
  conjunctions-named : list_all (is_of_columns columns) (filters_at query query.fact) ≡ true
  conjunctions-named =
      let (e, pair, at) = zip-place [] scope query.filters query.fact shape.as_many (slice_get_within scope query.fact entry here) in
      let condition = all-place (λ p. is_condition_on (length p.0.schema.columns) p.1) (zip scope query.filters) query.fact (e, slice_index_or query.filters query.fact []) shape.filters pair in
      let size : length e.schema.columns ≡ columns = ap (λ (x : FromEntry). length x.schema.columns) (some-same e entry (sym at ∙ here)) ∙ sym many in
      let cs : List Conjunction = filters_at query query.fact in
      let each = (both (nat_lt 0 (length cs) && nat_le (length cs) MOST_CONJUNCTIONS) (list_all (is_conjunction (length e.schema.columns)) cs) condition).1 in
      all-imply (is_conjunction (length e.schema.columns)) (is_of_columns columns)
      (λ c h. ap (λ n. is_of_columns n c) (sym size) ∙ (both (is_of_columns (length e.schema.columns) c) _ h).0) cs each

  ties-named : list_all (λ k. nat_lt k columns) (tied_columns query) ≡ true
  ties-named =
      let size : column_count scope query.fact ≡ columns = ap (λ (o : Option FromEntry). option_map_or (λ x. length x.schema.columns) o 0) here ∙ sym many in
      list_all-map (λ k. nat_lt k columns) (λ (t : Tie). t.column) query.ties
      ∙ all-imply (is_tie scope query.fact) (λ (t : Tie). nat_lt t.column columns)
      (λ t h. ap (λ n. nat_lt t.column n) (sym size)
      ∙ (both (nat_lt t.column (column_count scope query.fact)) (not (t.dimension == query.fact)) (both (nat_lt t.column (column_count scope query.fact) && not (t.dimension == query.fact)) _ h).0).0) query.ties shape.ties

pub fact_named : QueriesHaveShape → FactNamed
fact_named shaped schemas s images image has here =
    let scope : Scope = scope_of schemas s in
    let query : Query = query_of schemas s in
    let shape = shaped schemas s has.formed has.free in
    let (entry, at, same) = entry-same scope images has.same query.fact image here in
    let many : length image.columns ≡ length entry.schema.columns = columns-as-many image (all-place is_valid images query.fact image has.valid here) ∙ ap (λ (x : Schema). length x.columns) same in
    record {
      conjunctions = conjunctions-named scope query shape entry at (length image.columns) many;
      ties = ties-named scope query shape entry at (length image.columns) many;
      as_many = length-map query.ties (keyed_of query scope (rows_in images)) ∙ sym (length-map query.ties (λ (t : Tie). t.column));
    }

-- ---- the answer

-- the rows of an image at its place
pub rows-at : (xs : List TableImage) (k : ℕ) (x : TableImage) → slice_get xs k ≡ Some x → slice_index_or (rows_in xs) k [] ≡ rows_of x
rows-at [] k x e = absurd (none-some x e)
rows-at (y ∷ xs) zero x e = ap rows_of (some-same y x e)
rows-at (y ∷ xs) (suc k) x e = rows-at xs k x e

pub answers_by_codes : AnswersByGroups → SelectsByCodes → ImageGroups → ImagesMayBeAsked → FactNamed → AnswersByCodes
answers_by_codes by_groups by_codes grouped asked named schemas s images image has here =
    let scope : Scope = scope_of schemas s in
    let query : Query = query_of schemas s in
    let keys : List Keyed = image_keys query scope images in
    let names = named schemas s images image has here in
    let cells = (valid_parts image (all-place is_valid images query.fact image has.valid here)).cells in
    let groups = grouped image (plan_of query) keys (fact_cells image query keys) (fact_rest image query keys) names.as_many names.ties (cells-joined by_codes image query keys names image.cells cells) in
    let rows : slice_index_or (rows_in images) query.fact [] ≡ rows_of image = rows-at images query.fact image here in
    let order : Rearranged (filter (is_selected query keys) (slice_index_or (rows_in images) query.fact [])) groups.0 =
    subst (λ (l : List Row). Rearranged l groups.0) (sym (ap (filter (is_selected query keys)) rows ∙ rows-selected by_codes image query keys names cells)) groups.1 in
    by_groups schemas s (rows_in images) (asked schemas s images has) groups.0 order
    ∙ ap (answer_of_groups query) (sym groups.2)
