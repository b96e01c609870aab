-- The tables of the tests have schemas that tables may have.
use Rattle.std.specs.Prelude.{ℕ, Bool, ◌&&◌, List}
use Rattle.std.specs.Borrow.{Bor}
use Rattle.blink_base.specs.declared.schema.Column.{Column}
use Rattle.blink_base.specs.declared.schema.Schema.{Schema}
use Rattle.blink_base.specs.declared.value.Kind.{Kind}
use Rattle.blink_base.specs.RowFits.{is_schema}

-- a column of a name and a kind
abbrev pub column_of : Bor (List ℕ) × Kind → Column
column_of (name, kind) = record { name = name.now; kind = kind }

-- whether each of five schemas is one that a table may have
abbrev pub are_allowed : Schema → Schema → Schema → Schema → Schema → Bool
are_allowed p u d e f = is_schema p && is_schema u && is_schema d && is_schema e && is_schema f
