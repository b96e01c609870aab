-- What the statements that change tables make of them, or their first refusal. Source: ISO/IEC 9075 (tables, rows, primary keys); the statements on layout, the limits and the order of refusals are this project's own.
use Rattle.std.specs.Prelude.{ℕ, ◌+◌, Bool, not, ◌||◌, List, [], ◌∷◌, ◌++◌, map, length, count_by, position, nat_le, nat_lt, Option, Some, None, Result, Ok, Err, if◌then◌else◌}
use Rattle.std.specs.Str.{bytes_eq}
use Rattle.blink_base.specs.declared.value.Value.{Value}
use Rattle.blink_base.specs.declared.schema.Schema.{Schema}
use Rattle.blink_base.specs.declared.limits.Limits.{Limits}
use Rattle.blink_base.specs.declared.refusal.Refusal.{Refusal}
use Rattle.blink_base.specs.declared.refusal.Refusal.TheVariants as refusal
use Rattle.blink_base.specs.Values.{Row}
use Rattle.blink_lists.specs.Lists.{are_distinct, first_of}
use Rattle.star_sql.specs.declared.ast.ColumnDef.{ColumnDef}
use Rattle.cell_layout.specs.Image.{TableImage, rows_of}
use Rattle.column_classes.specs.ColumnClasses.{column_values}
use Rattle.cell_layout.specs.Layout.{laid, grown, empty_image}
use Rattle.cell_layout.specs.Refusals.{repeated_key}
use Rattle.blink_lists.specs.declared.limits.TheConstants.{MOST_COLUMNS}
use Rattle.star_engine.specs.State.{AcceptedTable, Tables, find_table, has_table, with_table, without_table, and_table}
use Rattle.star_engine.specs.declared.growth.Growth.{Growth}
use Rattle.star_engine.specs.declared.growth.Growth.TheVariants.{Anew, Standing}
use Rattle.blink_base.specs.declared.limits.TheConstants.{MOST_TABLES}

-- one refusal where something holds, and else none
abbrev pub when : Bool → Refusal → List Refusal
when holds why = if holds then why ∷ [] else []

-- the value where nothing is refused, and else the refusal
abbrev pub unless : {X : Type 0} → Option Refusal → X → Result X Refusal
unless None x = Ok x
unless (Some why) x = Err why

-- refused where the named table is there
abbrev pub if_there : Tables → List ℕ → List Refusal
if_there tables name = when (has_table tables name) (refusal.TableExists name)

-- refused where there is no room for one more table
abbrev pub if_full : Tables → List Refusal
if_full tables = when (nat_le MOST_TABLES (length tables)) refusal.TooManyTables

-- the same tables, where one of this name may be made
abbrev pub roomed : Tables → List ℕ → Result Tables Refusal
roomed tables name = unless (first_of (if_there tables name ++ if_full tables)) tables

-- too many columns, a name twice, or PRIMARY KEY twice
abbrev pub are_bad_columns : List ColumnDef → Bool
are_bad_columns columns =
    nat_lt MOST_COLUMNS (length columns)
    || not (are_distinct bytes_eq (map (λ c. c.name) columns))
    || nat_lt 1 (count_by (λ c. c.key) columns)

-- CREATE: the name, the columns, the number of tables
abbrev pub create_refusals : Tables → List ℕ → List ColumnDef → List Refusal
create_refusals tables name columns = if_there tables name ++ when (are_bad_columns columns) refusal.BadColumns ++ if_full tables

-- the schema that columns make
abbrev pub schema_of : List ColumnDef → Schema
schema_of columns = record { columns = map (λ c. record { name = c.name; kind = c.kind }) columns; key = position (λ c. c.key) columns }

-- a table without rows
abbrev pub new_table : List ℕ → Schema → AcceptedTable
new_table name schema = record { name = name; rows = []; image = empty_image schema }

-- CREATE: one more table behind the others, or the first refusal
abbrev pub created : Tables → List ℕ → List ColumnDef → Result Tables Refusal
created tables name columns = unless (first_of (create_refusals tables name columns)) (and_table tables (new_table name (schema_of columns)))

-- DROP of the table that a name has
abbrev pub drop_found : Tables → List ℕ → Option AcceptedTable → Result Tables Refusal
drop_found tables name None = Err (refusal.UnknownTable name)
drop_found tables name (Some accepted) = Ok (without_table tables name)

-- DROP: the tables without that one
abbrev pub dropped : Tables → List ℕ → Result Tables Refusal
dropped tables name = drop_found tables name (find_table tables name)

-- the refusal of a repeated key; rows are counted from 1
abbrev pub duplicate_of : Option (ℕ × Value) → List Refusal
duplicate_of None = []
duplicate_of (Some p) = refusal.DuplicateKey (p.0 + 1) ∷ []

-- refused where a key stands twice, in the accepted rows or the batch; a table without a key has none
abbrev pub if_repeated : Option ℕ → List Row → List Row → List Refusal
if_repeated None accepted rows = []
if_repeated (Some key) accepted rows = duplicate_of (repeated_key (column_values accepted key) (column_values rows key))

-- refused where there are more rows than a table may have
abbrev pub if_many : Limits → ℕ → List Refusal
if_many limits rows = when (nat_lt limits.rows rows) refusal.TooManyRows

-- a batch behind a table's rows: the number of rows, then the keys
abbrev pub add_refusals : Limits → AcceptedTable → List Row → List Refusal
add_refusals limits accepted rows = if_many limits (length accepted.rows + length rows) ++ if_repeated accepted.image.schema.key accepted.rows rows

-- the image with a batch: all laid out anew, or the batch added to the standing layout
abbrev pub image_with : Growth → TableImage → List Row → TableImage
image_with Anew image rows = laid image.schema (rows_of image ++ rows)
image_with Standing image rows = grown image rows

-- the table with a batch behind its rows
abbrev pub added_to : Growth → AcceptedTable → List Row → AcceptedTable
added_to growth accepted rows = record { name = accepted.name; rows = accepted.rows ++ rows; image = image_with growth accepted.image rows }

-- the tables with a batch in one of them, and the number of its rows
abbrev pub add_rows : Limits → Growth → Tables → AcceptedTable → Result (List Row) Refusal → Result (Tables × ℕ) Refusal
add_rows limits growth tables accepted (Err why) = Err why
add_rows limits growth tables accepted (Ok rows) = unless (first_of (add_refusals limits accepted rows)) (with_table tables (added_to growth accepted rows), length rows)

-- a batch for the table that a name has
abbrev pub add_found : Limits → Growth → Tables → List ℕ → (Schema → Result (List Row) Refusal) → Option AcceptedTable → Result (Tables × ℕ) Refusal
add_found limits growth tables name batch None = Err (refusal.UnknownTable name)
add_found limits growth tables name batch (Some accepted) = add_rows limits growth tables accepted (batch accepted.image.schema)

-- LOAD adds rows and lays all out anew; APPEND and INSERT add them to the standing layout: the table first, then the batch, then what is refused of it
abbrev pub added : Limits → Growth → Tables → List ℕ → (Schema → Result (List Row) Refusal) → Result (Tables × ℕ) Refusal
added limits growth tables name batch = add_found limits growth tables name batch (find_table tables name)

-- REORGANIZE of the table that a name has
abbrev pub reorganize_found : Tables → List ℕ → Option AcceptedTable → Result Tables Refusal
reorganize_found tables name None = Err (refusal.UnknownTable name)
reorganize_found tables name (Some accepted) = Ok (with_table tables (record { name = accepted.name; rows = accepted.rows; image = laid accepted.image.schema (rows_of accepted.image) }))

-- REORGANIZE: the same rows, those of the image laid out anew
abbrev pub reorganized : Tables → List ℕ → Result Tables Refusal
reorganized tables name = reorganize_found tables name (find_table tables name)
