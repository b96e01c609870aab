-- What rows behind a standing image make of it.
use Rattle.std.proofs.Common.{◌≡◌, ◌≤◌, ◌<◌, ℕ, ◌+◌, Result, Ok, Err, OnOk, true, false, not, List, ◌++◌, Option, Some, None, map, filter, length, nat_lt, All, IfSome, if◌then◌else◌, refl, sym, ap, ◌∙◌, subst, arith}
use Rattle.std.specs.List.{list_all}
use Rattle.std.proofs.lemmas.Bool.{lt-ltb, le-ltb, ltb-true, ltb-false}
use Rattle.blink_base.specs.declared.schema.Schema.{Schema}
use Rattle.blink_base.specs.Values.{Row}
use Rattle.blink_base.specs.RowFits.{fits, is_schema}
use Rattle.order_codes.specs.Dictionary.{Classes}
use Rattle.cell_layout.specs.declared.cell.Cell.{Cell}
use Rattle.cell_layout.specs.declared.fault.LayoutError.{LayoutError}
use Rattle.cell_layout.specs.declared.fault.LayoutError.TheVariants.{Rows}
use Rattle.cell_layout.specs.Image.{TableImage, rows_of, row_count, is_coded, coded}
use Rattle.cell_layout.specs.Layout.{cells_of, placed, grown}
use Rattle.cell_layout.specs.CellRepr.{image_of, IsImageRepr, cell_image, all_rows}
use Rattle.cell_layout.specs.RowPartition.{ArePlaced}
use Rattle.cell_layout.specs.Refusals.{duplicate_in, refusal_of}
use Rattle.cell_layout.specs.Valid.{is_valid, MayHold, GrownIsValid}
use Rattle.blink_lists.specs.declared.limits.TheConstants.{MOST_ROWS}
use Rattle.blink_lists.specs.Rearrangement.{Rearranged}
use Rattle.cell_layout.specs.Repartition.{StandsPlaced}
use Rattle.cell_layout.proofs.RowFitLemmas.{schema_bounds, fits_long, may_hold}
use Rattle.cell_layout.proofs.CellReprLemmas.{rows_seen, length-all}

-- the number of rows in memory is the image's
pub row_count_is : (image : TableImage) (schema : Schema) (columns : List Classes) (cells : List Cell) (rest : List Row) (rows : ℕ) → image_of schema columns cells rest ≡ image → IsImageRepr schema columns cells rest rows → row_count image ≡ rows
row_count_is image schema columns cells rest rows view repr = ap length (rows_seen image schema columns cells rest view) ∙ length-all columns cells rest ∙ sym repr.counted

-- too many rows are refused, and else the first key that stands before
pub too_many : (limit : ℕ) (image : TableImage) (batch : List Row) → limit < row_count image + length batch → refusal_of limit image batch ≡ Some Rows
too_many limit image batch more = ap (λ b. if b then Some Rows else duplicate_in image.schema.key (rows_of image) batch) (lt-ltb limit (row_count image + length batch) more)

pub not_too_many : (limit : ℕ) (image : TableImage) (batch : List Row) → row_count image + length batch ≤ limit → refusal_of limit image batch ≡ duplicate_in image.schema.key (rows_of image) batch
not_too_many limit image batch few = ap (λ b. if b then Some Rows else duplicate_in image.schema.key (rows_of image) batch) (le-ltb limit (row_count image + length batch) few)

-- whether rows are within the limit, as calls say it
pub beyond : (image : TableImage) (schema : Schema) (columns : List Classes) (cells : List Cell) (rest batch : List Row) (rows limit len : ℕ) → image_of schema columns cells rest ≡ image → IsImageRepr schema columns cells rest rows
    → len ≡ length batch → true ≡ nat_lt limit (rows + len) → refusal_of limit image batch ≡ Some Rows
beyond image schema columns cells rest batch rows limit len view repr long more =
    let count = row_count_is image schema columns cells rest rows view repr in
    let above = ltb-true limit (rows + len) (sym more) in
    too_many limit image batch (omega arith)

pub within : (image : TableImage) (schema : Schema) (columns : List Classes) (cells : List Cell) (rest batch : List Row) (rows limit len : ℕ) → image_of schema columns cells rest ≡ image → IsImageRepr schema columns cells rest rows
    → len ≡ length batch → false ≡ nat_lt limit (rows + len) → row_count image + length batch ≤ limit
within image schema columns cells rest batch rows limit len view repr long few =
    let count = row_count_is image schema columns cells rest rows view repr in
    let below = ltb-false limit (rows + len) (sym few) in
    omega arith

-- what the keys say, as calls say it
pub by_keys : (limit : ℕ) (image : TableImage) (batch held list : List Row) (key : Option ℕ) (why : Option LayoutError) → row_count image + length batch ≤ limit → key ≡ image.schema.key → held ≡ rows_of image → list ≡ batch
    → duplicate_in key held list ≡ why → refusal_of limit image batch ≡ why
by_keys limit image batch held list key why few same standing seen told =
    not_too_many limit image batch few ∙ sym (λ i. duplicate_in (same i) (standing i) (seen i)) ∙ told

-- rows and a batch may be laid out
pub may_lie : (image : TableImage) (batch : List Row) (limit : ℕ) → is_valid image ≡ true → list_all (fits image.schema) batch ≡ true → row_count image + length batch ≤ limit → limit ≤ MOST_ROWS → refusal_of limit image batch ≡ None
    → MayHold image.schema (rows_of image ++ batch)
may_lie image batch limit valid fit few most none = may_hold image batch valid fit (omega arith) (sym (not_too_many limit image batch few) ∙ none)

-- the key is a column of rows that fit
pub keys_within : (schema repr : Schema) (rows list : List Row) → repr ≡ schema → list ≡ rows → is_schema schema ≡ true → list_all (fits schema) rows ≡ true → IfSome repr.key (λ k. All (λ (row : Row). k < length row) list)
keys_within schema repr rows list same seen allowed fit = rw (same, seen) (by schema.key (schema_bounds schema allowed).key)
  where
    by : (key : Option ℕ) → IfSome key (λ k. k < length schema.columns) → IfSome key (λ k. All (λ (row : Row). k < length row) rows)
    by None h = tt
    by (Some k) h = λ i d lt. let long = fits_long schema rows (length schema.columns) fit refl i d lt in omega arith

-- the rows of a valid image stand placed
pub standing_placed : StandsPlaced → (image : TableImage) (schema : Schema) (columns : List Classes) (cells : List Cell) (rest : List Row) (rows : ℕ) → is_valid image ≡ true → image_of schema columns cells rest ≡ image → IsImageRepr schema columns cells rest rows
    → ArePlaced columns (rows_of image) cells rest
standing_placed law image schema columns cells rest rows valid view repr =
    let stands : placed image.schema image.columns (rows_of image) ≡ image = law image valid in
    let of_columns : image.columns ≡ columns = ap (λ (i : TableImage). i.columns) (sym view) in
    record {
      image =
          ap (λ (i : TableImage). i.cells) view ∙ ap (λ (i : TableImage). i.cells) (sym stands)
          ∙ ap (λ cs. cells_of (map (coded cs) (filter (is_coded cs) (rows_of image)))) of_columns;
      others =
          ap (λ (i : TableImage). i.rest) view ∙ ap (λ (i : TableImage). i.rest) (sym stands)
          ∙ ap (λ cs. filter (λ row. not (is_coded cs row)) (rows_of image)) of_columns;
      repr = repr.repr;
      order = repr.order;
      counted = sym repr.counted ∙ sym (row_count_is image schema columns cells rest rows view repr);
    }

-- placed rows are the grown image
pub grown_image_is : (image : TableImage) (schema : Schema) (columns : List Classes) (cells new : List Cell) (rest more batch : List Row) → image_of schema columns cells rest ≡ image
    → ArePlaced columns (rows_of image ++ batch) new more → image_of schema columns new more ≡ grown image batch
grown_image_is image schema columns cells new rest more batch view placed_all =
    let of_schema : schema ≡ image.schema = ap (λ (i : TableImage). i.schema) view in
    let of_columns : columns ≡ image.columns = ap (λ (i : TableImage). i.columns) view in
    let of_cells : map cell_image new ≡ cells_of (map (coded image.columns) (filter (is_coded image.columns) (rows_of image ++ batch))) =
    placed_all.image ∙ ap (λ cs. cells_of (map (coded cs) (filter (is_coded cs) (rows_of image ++ batch)))) of_columns in
    let of_rest : more ≡ filter (λ row. not (is_coded image.columns row)) (rows_of image ++ batch) =
    placed_all.others ∙ ap (λ cs. filter (λ row. not (is_coded cs row)) (rows_of image ++ batch)) of_columns in
    λ i. record { schema = of_schema i; columns = of_columns i; cells = of_cells i; rest = of_rest i }

pub grown_repr : (schema : Schema) (columns : List Classes) (cells new : List Cell) (rest more all : List Row) (rows n : ℕ) → IsImageRepr schema columns cells rest rows → ArePlaced columns all new more → n ≡ length all → n ≤ MOST_ROWS → IsImageRepr schema columns new more n
grown_repr schema columns cells new rest more all rows n repr placed_all same few =
    record {
      each = repr.each;
      few = repr.few;
      repr = placed_all.repr;
      order = placed_all.order;
      counted = same ∙ sym placed_all.counted;
      most = omega arith;
    }

pub grown_valid : GrownIsValid → (image new : TableImage) (batch : List Row) → is_valid image ≡ true → MayHold image.schema (rows_of image ++ batch) → new ≡ grown image batch → is_valid new ≡ true
grown_valid law image new batch valid may is = ap is_valid is ∙ (law image batch valid may).0

pub grown_rows : GrownIsValid → (image new : TableImage) (batch : List Row) → is_valid image ≡ true → MayHold image.schema (rows_of image ++ batch) → new ≡ grown image batch → Rearranged (rows_of image ++ batch) (rows_of new)
grown_rows law image new batch valid may is = subst (λ (i : TableImage). Rearranged (rows_of image ++ batch) (rows_of i)) (sym is) (law image batch valid may).1

-- rows placed apart, as calls say it
pub placed_apart : (columns list : List Classes) (batch rows : List Row) (cells : List Cell) (rest : List Row) → list ≡ columns → rows ≡ batch → ArePlaced list rows cells rest → ArePlaced columns batch cells rest
placed_apart columns list batch rows cells rest same seen placed_rows = subst (λ l. ArePlaced columns l cells rest) seen (subst (λ cs. ArePlaced cs rows cells rest) same placed_rows)

-- the rows of an image, as calls read them
pub rows_read : (image : TableImage) (schema : Schema) (columns list : List Classes) (cells items : List Cell) (rest more : List Row) → image_of schema columns cells rest ≡ image → list ≡ columns → items ≡ cells → more ≡ rest → all_rows list items more ≡ rows_of image
rows_read image schema columns list cells items rest more view same of_cells of_rest = (λ i. all_rows (same i) (of_cells i) (of_rest i)) ∙ sym (rows_seen image schema columns cells rest view)

-- what holds in every case holds of an Ok
pub on_ok : {X E P : Type 0} (result : Result X E) → P → OnOk result P
on_ok (Ok x) p = p
on_ok (Err e) p = tt
