-- The rows of a CSV text for a table, or the first fault. Source: RFC 4180 through `csv`; the header and the faults are this project's own.
use Rattle.std.specs.Prelude.{ℕ, ◌+◌, Bool, ◌&&◌, ◌==◌, true, false, List, [], ◌∷◌, length, Result, Ok, Err}
use Rattle.std.specs.List.{list_all, zip}
use Rattle.blink_base.specs.declared.schema.Schema.{Schema}
use Rattle.blink_base.specs.declared.schema.Column.{Column}
use Rattle.blink_base.specs.declared.value.Value.{Value}
use Rattle.blink_base.specs.declared.value.ValueFault.{ValueFault}
use Rattle.blink_base.specs.Values.{Row}
use Rattle.blink_base.specs.ReadValue.{read_value}
use Rattle.blink_loader.specs.declared.batch.LoadFault.{LoadFault}
use Rattle.blink_loader.specs.declared.batch.LoadFault.TheVariants as fault
use Rattle.blink_loader.specs.Records.{Record, records_of, same_name}
use Rattle.blink_lists.specs.FirstFault.{before}

-- what the field of this number in the record of this number says
abbrev pub value_of : ℕ → ℕ → Result Value ValueFault → Result Value LoadFault
value_of at field (Ok value) = Ok value
value_of at field (Err why) = Err (fault.BadValue at field why)

-- the values of a record's fields, each read as its column's kind, the fields counted from here on
abbrev pub values_from : ℕ → ℕ → List (Column × List ℕ) → Result Row LoadFault
values_from at field [] = Ok []
values_from at field ((column, bytes) ∷ rest) = before (value_of at field (read_value column.kind bytes)) (values_from at (field + 1) rest)

-- the row of the record of this number: of the schema's length, and then each of its fields
abbrev pub row_of : List Column → ℕ → Record → Result Row LoadFault
row_of columns at fields = elim (length fields == length columns) [ true ↦ values_from at 1 (zip columns fields) | false ↦ Err (fault.Arity at) ]

-- the rows of the records from this number on
abbrev pub rows_from : List Column → ℕ → List Record → Result (List Row) LoadFault
rows_from columns at [] = Ok []
rows_from columns at (fields ∷ rest) = before (row_of columns at fields) (rows_from columns (at + 1) rest)

-- whether a record is the header of these columns: their names in order, the case of ASCII letters apart
abbrev pub is_header : List Column → Record → Bool
is_header columns fields = length fields == length columns && list_all (λ p. same_name p.0.name p.1) (zip columns fields)

-- the rows of the records of a text, the first of them the header
abbrev pub batch_over : List Column → List Record → Result (List Row) LoadFault
batch_over columns [] = Ok []
batch_over columns (header ∷ rest) = elim (is_header columns header) [ true ↦ rows_from columns 1 rest | false ↦ Err fault.Header ]

-- the rows of a CSV text, records counted from 1 behind the header, or the first fault
abbrev pub batch : Schema → List ℕ → Result (List Row) LoadFault
batch schema text = batch_over schema.columns (records_of text)
