-- The lines of a table's columns and cells, one more at a time.
use Rattle.std.proofs.Common.{◌≡◌, ◌≤◌, ◌<◌, ◌+◌, ℕ, List, [], ◌∷◌, ◌++◌, map, take, length, get_or, sym, ap, ◌∙◌, arith}
use Rattle.std.specs.List.{zip}
use Rattle.std.proofs.lemmas.List.{map_more, take_all}
use Rattle.std.proofs.lemmas.Slice.Zip.{get_or-zip, length-zip}
use Rattle.blink_base.specs.declared.schema.Column.{Column}
use Rattle.blink_base.specs.declared.schema.Schema.{Schema}
use Rattle.blink_lists.specs.Lists.{numbered}
use Rattle.order_codes.specs.Dictionary.{Classes}
use Rattle.blink_lists.proofs.NumberLemmas.{numbered-at, length-numbered}
use Rattle.cell_layout.specs.Image.{TableImage, cell_at}
use Rattle.star_engine.specs.TableLayout.{column_line, column_lines, cell_line}

-- one more column
pub columns_more : (schema : Schema) (dicts : List Classes) (i : ℕ) (column : Column) (dict : Classes) → length dicts ≡ length schema.columns → i < length schema.columns
    → column ≡ get_or schema.columns i column → dict ≡ get_or dicts i dict
    → map (column_line schema) (take i (numbered (zip schema.columns dicts))) ++ column_line schema (i, (column, dict)) ∷ [] ≡ map (column_line schema) (take (i + 1) (numbered (zip schema.columns dicts)))
columns_more schema dicts i column dict long lt is_column is_dict =
    let pairs = zip schema.columns dicts in
    let both = length-zip schema.columns dicts in
    let within : i < length pairs = omega arith in
    let inside : i < length (numbered pairs) = omega (arith, length-numbered 0 pairs) in
    let none : 0 + i ≡ i = omega arith in
    let at = numbered-at 0 pairs i (column, dict) within ∙ ap (λ n. (n, get_or pairs i (column, dict))) none in
    let pair : get_or pairs i (column, dict) ≡ (column, dict) = get_or-zip schema.columns dicts i (column, dict) lt (omega arith) ∙ (λ j. (sym is_column j, sym is_dict j)) in
    let here : get_or (numbered pairs) i (0, (column, dict)) ≡ (i, (column, dict)) = at ∙ ap (λ p. (i, p)) pair in
    sym (map_more (column_line schema) (numbered pairs) i (0, (column, dict)) inside ∙ ap (λ x. map (column_line schema) (take i (numbered pairs)) ++ column_line schema x ∷ []) here)

-- all columns
pub columns_all : (schema : Schema) (dicts : List Classes) (i : ℕ) → length dicts ≡ length schema.columns → length schema.columns ≤ i
    → map (column_line schema) (take i (numbered (zip schema.columns dicts))) ≡ column_lines schema dicts
columns_all schema dicts i long all =
    let pairs = zip schema.columns dicts in
    let both = length-zip schema.columns dicts in
    ap (map (column_line schema)) (take_all i (numbered pairs) (omega (arith, length-numbered 0 pairs)))

-- one more cell
pub cells_more : (image : TableImage) (i : ℕ) → i < length image.cells → map (cell_line image) (take i image.cells) ++ cell_line image (cell_at image i) ∷ [] ≡ map (cell_line image) (take (i + 1) image.cells)
cells_more image i lt = sym (map_more (cell_line image) image.cells i (record { classes = []; rows = [] }) lt)
