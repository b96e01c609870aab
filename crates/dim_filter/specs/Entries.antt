-- Keys with wanted values, of selected rows of a dimension. Source: after Raman et al., ICDE 2008 (dimensions are filtered first).
use Rattle.std.specs.Prelude.{◌++◌, ℕ, pos, Bool, List, [], map, unwrap_or, slice_index_or}
use Rattle.blink_base.specs.declared.value.Value.{Value}
use Rattle.blink_base.specs.declared.value.Value.TheVariants.{Int}
use Rattle.blink_base.specs.Values.{Row}
use Rattle.cell_layout.specs.Image.{TableImage, cell_at, decoded_row}
use Rattle.cell_scan.specs.Match.{rows_of_page, selected_rows}
use Rattle.code_join.specs.Keys.{Keyed}

-- the key of a row, with its wanted values in the order in which they are asked for
abbrev pub entry_of : ℕ → List ℕ → Row → Value × Row
entry_of key wanted row = (slice_index_or row key (Int (pos 0)), map (λ column. slice_index_or row column (Int (pos 0))) wanted)

-- keys, with the entries of further rows behind them
abbrev pub collected : ℕ → List ℕ → Keyed → List Row → Keyed
collected key wanted keys rows = keys ++ map (entry_of key wanted) rows

-- the column of a table's key
abbrev pub key_column : TableImage → ℕ
key_column image = unwrap_or image.schema.key 0

-- the row that stands at a place of a cell
abbrev pub cell_row : TableImage → ℕ → ℕ → Row
cell_row image cell row = decoded_row image.columns (cell_at image cell).classes (slice_index_or (cell_at image cell).rows row [])

-- the rows of a page of a cell at whose places the truth values are true
abbrev pub chosen_rows : TableImage → ℕ → ℕ → List Bool → List Row
chosen_rows image cell page bits = map (decoded_row image.columns (cell_at image cell).classes) (selected_rows bits (rows_of_page (cell_at image cell).rows page))
