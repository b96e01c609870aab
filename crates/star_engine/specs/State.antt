-- The tables that are there, and the files beside them. Source: this project's own.
use Rattle.std.specs.Prelude.{ℕ, Bool, not, List, [], ◌∷◌, ◌++◌, map, filter, find, Option, if◌then◌else◌, is_some}
use Rattle.std.specs.Str.{bytes_eq}
use Rattle.blink_base.specs.Values.{Row}
use Rattle.cell_layout.specs.Image.{TableImage}

-- a table: its name, the rows accepted so far in the order of their coming, and its image
pub record AcceptedTable : Type 0 where
  pub name : List ℕ
  pub rows : List Row
  pub image : TableImage

-- the tables, in the order of their making
abbrev pub Tables : Type 0
Tables = List AcceptedTable

-- the files of a store: the bytes under each name, where there are some
abbrev pub Files : Type 0
Files = List ℕ → Option (List ℕ)

-- what a statement finds and leaves
pub record State : Type 0 where
  pub tables : Tables
  pub files : Files

-- the table of a name
abbrev pub find_table : Tables → List ℕ → Option AcceptedTable
find_table tables name = find (λ h. bytes_eq name h.name) tables

-- whether a table of this name is there
abbrev pub has_table : Tables → List ℕ → Bool
has_table tables name = is_some (find_table tables name)

-- the tables with one in place of that of its name
abbrev pub with_table : Tables → AcceptedTable → Tables
with_table tables accepted = map (λ h. if bytes_eq accepted.name h.name then accepted else h) tables

-- the tables without that of a name
abbrev pub without_table : Tables → List ℕ → Tables
without_table tables name = filter (λ h. not (bytes_eq name h.name)) tables

-- the tables with one more behind them
abbrev pub and_table : Tables → AcceptedTable → Tables
and_table tables accepted = tables ++ accepted ∷ []
