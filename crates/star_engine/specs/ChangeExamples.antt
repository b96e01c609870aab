-- Worked changes of tables, as facts that compute. Source: this project's own.
use Rattle.std.specs.Prelude.{◌≡◌, ℕ, ◌+◌, pos, negsuc, true, false, List, [], ◌∷◌, map, codes, None, Ok, Err, refl}
use Rattle.blink_lists.specs.Lists.{numbers_from}
use Rattle.blink_base.specs.declared.value.Kind.TheVariants as kind
use Rattle.blink_base.specs.declared.value.Value.TheVariants.{Int, Date}
use Rattle.blink_base.specs.declared.schema.Schema.{Schema}
use Rattle.blink_base.specs.declared.refusal.Refusal.TheVariants as refusal
use Rattle.blink_base.specs.Values.{Row}
use Rattle.star_sql.specs.declared.ast.ColumnDef.{ColumnDef}
use Rattle.star_sql.specs.declared.ast.Literal.TheVariants.{Number}
use Rattle.star_sql.specs.declared.ast.Literal.TheVariants as literal
use Rattle.star_engine.specs.State.{Tables}
use Rattle.star_engine.specs.Changes.{created, dropped, added, new_table, schema_of}
use Rattle.star_engine.specs.InsertedRows.{written}
use Rattle.star_engine.specs.declared.growth.Growth.TheVariants.{Standing}

-- columns of whole numbers
abbrev pub int_columns : List (List ℕ) → List ColumnDef
int_columns names = map (λ name. record { name = name; kind = kind.Int; key = false }) names

-- names of two letters
abbrev pub many_names : ℕ → List (List ℕ)
many_names n = map (λ k. 97 ∷ (65 + k) ∷ []) (numbers_from 0 n)

-- one table of one column, the key
abbrev pub key_column : List ColumnDef
key_column = record { name = codes "k"; kind = kind.Int; key = true } ∷ []

-- that table, without rows
abbrev pub one_table : Tables
one_table = new_table (codes "t") (schema_of key_column) ∷ []

-- so many tables
abbrev pub many_tables : ℕ → Tables
many_tables n = map (λ name. new_table name (schema_of key_column)) (many_names n)

-- a name that is there, 33 columns, a name twice, two keys, and a table too many; bad columns are told first
abbrev pub CreatesTold : Type 0
CreatesTold =
    (created one_table (codes "t") [] ≡ Err (refusal.TableExists (codes "t")))
    × (created [] (codes "t") (int_columns (many_names 33)) ≡ Err refusal.BadColumns)
    × (created [] (codes "t") (int_columns (codes "a" ∷ codes "a" ∷ [])) ≡ Err refusal.BadColumns)
    × (created (many_tables 64) (codes "t") (int_columns (codes "a" ∷ codes "a" ∷ [])) ≡ Err refusal.BadColumns)
    × (created (many_tables 64) (codes "t") key_column ≡ Err refusal.TooManyTables)
    × (created [] (codes "t") key_column ≡ Ok one_table)

-- a table goes, and no other name has one
abbrev pub DropsTold : Type 0
DropsTold = (dropped one_table (codes "t") ≡ Ok []) × (dropped one_table (codes "u") ≡ Err (refusal.UnknownTable (codes "u")))

-- rows of the key
abbrev pub key_rows : List ℕ → List Row
key_rows keys = map (λ k. Int (pos k) ∷ []) keys

-- the number of rows is told before a key that stands twice
abbrev pub AddsTold : Type 0
AddsTold =
    (added (record { rows = 3; blocks = 1 }) Standing one_table (codes "t") (λ schema. Ok (key_rows (1 ∷ 2 ∷ 1 ∷ []))) ≡ Err (refusal.DuplicateKey 3))
    × (added (record { rows = 2; blocks = 1 }) Standing one_table (codes "t") (λ schema. Ok (key_rows (1 ∷ 2 ∷ 1 ∷ []))) ≡ Err refusal.TooManyRows)
    × (added (record { rows = 2; blocks = 1 }) Standing one_table (codes "u") (λ schema. Ok []) ≡ Err (refusal.UnknownTable (codes "u")))

-- a whole number and a date
abbrev pub two_columns : Schema
two_columns = record { columns = record { name = codes "a"; kind = kind.Int } ∷ record { name = codes "d"; kind = kind.Date } ∷ []; key = None }

-- the first row at fault, by its length and then by its first field
abbrev pub RowsWritten : Type 0
RowsWritten =
    (written two_columns ((Number true (pos 1) ∷ literal.Text (codes "2024-02-29") ∷ []) ∷ []) ≡ Ok ((Int (negsuc 0) ∷ Date (pos 20240229) ∷ []) ∷ []))
    × (written two_columns ((Number false (pos 1) ∷ literal.Date (codes "2024-02-29") ∷ []) ∷ (literal.Text (codes "x") ∷ literal.Date (codes "2023-02-29") ∷ []) ∷ []) ≡ Err (refusal.BadValue 2 1))
    × (written two_columns ((Number false (pos 1) ∷ []) ∷ (literal.Text (codes "x") ∷ []) ∷ []) ≡ Err (refusal.Arity 1))

pub creates_told_lem : CreatesTold
creates_told_lem = (refl, refl, refl, refl, refl, refl)

pub drops_told_lem : DropsTold
drops_told_lem = (refl, refl)

pub adds_told_lem : AddsTold
adds_told_lem = (refl, refl, refl)

pub rows_written_lem : RowsWritten
rows_written_lem = (refl, refl, refl)
