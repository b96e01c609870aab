-- The records of a CSV text. Source: RFC 4180, as the crate `csv` reads it with records of any length, no header row and no trimming.
use Rattle.std.specs.Prelude.{ℕ, Bool, List}
use Rattle.std.specs.Str.{str_eq_ignore_ascii_case}
use Rattle.csv.specs.Reading.{records, default_config}
-- passed on, so that examples above can open them
unfoldable pub use Rattle.csv.specs.Machine.{next_record}
unfoldable pub use Rattle.csv.specs.Reading.{records_from, strip_bom}

-- a record is a list of fields, a field its bytes
abbrev pub Record : Type 0
Record = List (List ℕ)

-- the records of a text, the header among them
abbrev pub records_of : List ℕ → List Record
records_of text = records default_config (strip_bom text)

-- whether two names are equal, the case of ASCII letters apart
abbrev pub same_name : List ℕ → List ℕ → Bool
same_name x y = str_eq_ignore_ascii_case x y
