-- The rows that an INSERT writes, or the first row at fault. Source: this project's own.
use Rattle.std.specs.Prelude.{ℕ, ◌+◌, ◌==◌, true, false, List, [], ◌∷◌, length, Option, Some, None, Result, Ok, Err}
use Rattle.std.specs.List.{zip}
use Rattle.blink_base.specs.declared.schema.Schema.{Schema}
use Rattle.blink_base.specs.declared.schema.Column.{Column}
use Rattle.blink_base.specs.declared.value.Value.{Value}
use Rattle.blink_base.specs.declared.refusal.Refusal.{Refusal}
use Rattle.blink_base.specs.declared.refusal.Refusal.TheVariants as refusal
use Rattle.blink_base.specs.Values.{Row}
use Rattle.star_sql.specs.declared.ast.Literal.{Literal}
use Rattle.star_sql.specs.Literals.{literal_value}
use Rattle.blink_lists.specs.FirstFault.{before}

-- the value in the field of this number in the row of this number, where its literal may stand there
abbrev pub value_or_refusal : ℕ → ℕ → Option Value → Result Value Refusal
value_or_refusal at field (Some value) = Ok value
value_or_refusal at field None = Err (refusal.BadValue at field)

-- the values of a row's literals, each at the kind of its column, the fields counted from here on
abbrev pub written_values : ℕ → ℕ → List (Column × Literal) → Result Row Refusal
written_values at field [] = Ok []
written_values at field ((column, literal) ∷ rest) = before (value_or_refusal at field (literal_value column.kind literal)) (written_values at (field + 1) rest)

-- the row of this number: of the schema's length, and then each of its fields
abbrev pub written_row : List Column → ℕ → List Literal → Result Row Refusal
written_row columns at row = elim (length row == length columns) [ true ↦ written_values at 1 (zip columns row) | false ↦ Err (refusal.Arity at) ]

-- the rows from this number on
abbrev pub written_from : List Column → ℕ → List (List Literal) → Result (List Row) Refusal
written_from columns at [] = Ok []
written_from columns at (row ∷ rows) = before (written_row columns at row) (written_from columns (at + 1) rows)

-- the rows that an INSERT writes into a table of this schema, counted from 1, or the first fault
abbrev pub written : Schema → List (List Literal) → Result (List Row) Refusal
written schema rows = written_from schema.columns 1 rows
