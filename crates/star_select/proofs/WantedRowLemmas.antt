-- The keys of a tie are those of the wanted rows of its dimension's image.
use Rattle.std.proofs.Common.{◌≡◌, ℕ, true, ◌&&◌, List, [], ◌++◌, map, filter, length, nat_lt, nat_le, sym, ap, ◌∙◌}
use Rattle.std.specs.List.{list_all, zip, flat_map}
use Rattle.std.proofs.lemmas.List.Elements.{filter-append}
use Rattle.std.proofs.lemmas.Option.{slice_get_within}
use Rattle.blink_base.specs.declared.schema.Schema.{Schema}
use Rattle.blink_base.specs.Values.{Row}
use Rattle.blink_lists.proofs.GroupLemmas.{both, all-imply}
use Rattle.star_meaning.specs.Names.{Scope, FromEntry}
use Rattle.star_bind.specs.declared.query.Conjunction.{Conjunction}
use Rattle.star_bind.specs.declared.query.Query.{Query}
use Rattle.star_bind.specs.declared.limits.TheConstants.{MOST_CONJUNCTIONS}
use Rattle.star_bind.specs.BoundQuery.{scope_of, query_of}
use Rattle.star_bind.specs.Joins.{filters_at, is_wanted}
use Rattle.star_bind.specs.QueryShape.{is_conjunction, is_condition_on, QueriesHaveShape}
use Rattle.cell_layout.specs.Image.{TableImage, cell_rows, rows_of}
use Rattle.cell_layout.specs.Valid.{is_cell, is_valid}
use Rattle.cell_layout.proofs.PlacedImageLemmas.{valid_parts}
use Rattle.dim_filter.specs.Entries.{entry_of, key_column}
use Rattle.star_select.specs.CodeSelection.{codes_wanted, image_wanted, is_of_columns, WantedByCodes}
use Rattle.star_select.specs.ImageAnswer.{rows_in, KeysByCodes}
use Rattle.star_select.specs.KeySets.{wanted_rows}
use Rattle.star_select.specs.Picks.{wanted_columns}
use Rattle.star_select.specs.Preconditions.{ConditionsAreThere, TiesHaveDimensions}
use Rattle.star_select.proofs.CodeSelectionLemmas.{cells-passing}
use Rattle.star_select.proofs.ImageAnswerLemmas.{entry-same, columns-as-many, rows-at}
use Rattle.star_select.proofs.ListLemmas.{some-same, zip-place, all-place}

pub conditions_are_there : QueriesHaveShape → ConditionsAreThere
conditions_are_there shaped schemas s images image table has here =
    let scope : Scope = scope_of schemas s in
    let query : Query = query_of schemas s in
    let shape = shaped schemas s has.formed has.free in
    let (entry, at, same) = entry-same scope images has.same table image here in
    let (e, pair, there) = zip-place [] scope query.filters table shape.as_many (slice_get_within scope table entry at) in
    let many : length image.columns ≡ length e.schema.columns =
    columns-as-many image (all-place is_valid images table image has.valid here) ∙ ap (λ (x : Schema). length x.columns) same ∙ ap (λ (x : FromEntry). length x.schema.columns) (some-same entry e (sym at ∙ there)) in
    ap (λ n. is_condition_on n (filters_at query table)) many ∙ all-place (λ p. is_condition_on (length p.0.schema.columns) p.1) (zip scope query.filters) table (e, filters_at query table) shape.filters pair

-- the conjunctions of a condition are of columns that are there
pub conjunctions-named : (columns : ℕ) (cs : List Conjunction) → is_condition_on columns cs ≡ true → list_all (is_of_columns columns) cs ≡ true
conjunctions-named columns cs h =
    let each = (both (nat_lt 0 (length cs) && nat_le (length cs) MOST_CONJUNCTIONS) (list_all (is_conjunction columns) cs) h).1 in
    all-imply (is_conjunction columns) (is_of_columns columns) (λ c k. (both (is_of_columns columns c) _ k).0) cs each

-- the wanted rows of an image, by their codes
image-rows : WantedByCodes → (image : TableImage) (query : Query) (table : ℕ) → list_all (is_cell image.columns) image.cells ≡ true → list_all (is_of_columns (length image.columns)) (filters_at query table) ≡ true
    → filter (is_wanted query table) (rows_of image) ≡ image_wanted image query table
image-rows by_codes image query table cells named =
    filter-append (is_wanted query table) (flat_map (cell_rows image) image.cells) image.rest
    ∙ ap (λ (l : List Row). l ++ filter (is_wanted query table) image.rest)
    (cells-passing image (is_wanted query table) (λ cell. codes_wanted image.columns cell.classes query table) (λ cell codes full good. by_codes image.columns cell.classes codes query table full good named) image.cells cells)

pub keys_by_codes : WantedByCodes → ConditionsAreThere → TiesHaveDimensions → KeysByCodes
keys_by_codes by_codes conditions dimensions schemas s images image place tie has at here =
    let query : Query = query_of schemas s in
    let (found, there, dimension) = dimensions schemas s images place tie has at in
    let key = dimension.column ∙ ap key_column (some-same found image (sym there ∙ here)) in
    let cells = (valid_parts image (all-place is_valid images tie.dimension image has.valid here)).cells in
    let named = conjunctions-named (length image.columns) (filters_at query tie.dimension) (conditions schemas s images image tie.dimension has here) in
    let rows : wanted_rows query (rows_in images) tie.dimension ≡ image_wanted image query tie.dimension =
    ap (filter (is_wanted query tie.dimension)) (rows-at images tie.dimension image here) ∙ image-rows by_codes image query tie.dimension cells named in
    λ i. map (entry_of (key i) (wanted_columns query tie.dimension)) (rows i)
