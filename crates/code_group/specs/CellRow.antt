-- A row of a cell beside the keys of its ties. Source: this project's own.
use Rattle.std.specs.Prelude.{◌≡◌, ◌<◌, ℕ, Bool, true, List, [], length, nat_lt, Option, slice_index_or}
use Rattle.std.specs.List.{list_all}
use Rattle.cell_layout.specs.Image.{TableImage, cell_at, decoded_row}
use Rattle.cell_layout.specs.Valid.{are_codes}
use Rattle.code_join.specs.Keys.{Keyed}
use Rattle.order_codes.specs.Dictionary.{Classes}
use Rattle.code_group.specs.Entries.{picked_beside, entries_of, has_keys, maps_in}
use Rattle.code_group.specs.Plans.{pick_there}
use Rattle.late_decode.specs.declared.plan.Pick.{Pick}
use Rattle.late_decode.specs.Parts.{Picked}

-- the classes of the columns, the class numbers of the cell, the codes of the row; the tied columns, and the keys per tie
pub record TiedRow : Type 0 where
  pub columns : List Classes
  pub classes : List ℕ
  pub codes : List ℕ
  pub ties : List ℕ
  pub keys : List Keyed

-- a row of a cell of an image
abbrev pub tied_row : TableImage → ℕ → ℕ → List ℕ → List Keyed → TiedRow
tied_row image cell row ties keys = record {
  columns = image.columns;
  classes = (cell_at image cell).classes;
  codes = slice_index_or (cell_at image cell).rows row [];
  ties = ties;
  keys = keys;
}

-- what picks have beside a row
abbrev pub picked_by : TiedRow → Picked
picked_by row = picked_beside row.ties row.keys (decoded_row row.columns row.classes row.codes)

-- the tuple of a row for some picks
abbrev pub tuple_by : TiedRow → List Pick → List ℕ
tuple_by row picks = entries_of row.columns row.classes row.ties row.keys picks row.codes

-- whether a pick is there, beside a row
abbrev pub pick_by : TiedRow → Pick → Bool
pick_by row = pick_there (length row.columns) row.keys

-- a class number per column, of a class that is there
pub record HaveClasses (columns : List Classes) (classes : List ℕ) : Type 0 where
  pub full : length classes ≡ length columns
  pub numbers : (k : ℕ) → k < length columns → slice_index_or classes k 0 < length (slice_index_or columns k [])

-- the codes of a row are in range, its maps are those of the keys, and its tied values are keys
pub record IsTied (row : TiedRow) (maps : List (List (Option ℕ))) : Type 0 where
  pub classes : HaveClasses row.columns row.classes
  pub codes : are_codes row.columns row.classes row.codes ≡ true
  pub mapped : maps ≡ maps_in row.columns row.classes row.ties row.keys
  pub many : length row.keys ≡ length row.ties
  pub within : list_all (λ k. nat_lt k (length row.columns)) row.ties ≡ true
  pub joined : has_keys row.ties row.keys (decoded_row row.columns row.classes row.codes) ≡ true
