-- The rows that a CSV text or an INSERT adds to a table. Source: this project's own.
use Rattle.std.specs.Prelude.{ℕ, Bool, List, Result, Ok, Err, IsTrue}
use Rattle.blink_base.specs.declared.schema.Schema.{Schema}
use Rattle.blink_base.specs.declared.refusal.Refusal.{Refusal}
use Rattle.blink_base.specs.declared.refusal.Refusal.TheVariants as refusal
use Rattle.blink_base.specs.Values.{Row}
use Rattle.blink_loader.specs.declared.batch.LoadFault.{LoadFault}
use Rattle.blink_loader.specs.declared.batch.LoadFault.TheVariants as load
use Rattle.blink_loader.specs.Batch.{batch}
use Rattle.star_sql.specs.declared.ast.Literal.{Literal}
use Rattle.star_engine.specs.declared.batch.Source.{Source}
use Rattle.star_engine.specs.declared.batch.Source.TheVariants.{Text, Taken, Written}
use Rattle.star_engine.specs.InsertedRows.{written}
use Rattle.star_sql.specs.WellFormed.{is_literal, some_and_all}

-- the refusal of a CSV text; a text has none for want of memory
abbrev pub load_refusal : LoadFault → Refusal
load_refusal load.Header = refusal.BadHeader
load_refusal (load.Arity at) = refusal.Arity at
load_refusal (load.BadValue at field fault) = refusal.BadValue at field
load_refusal load.Memory = refusal.BadHeader

-- the rows, or their refusal
abbrev pub rows_or_refusal : Result (List Row) LoadFault → Result (List Row) Refusal
rows_or_refusal (Ok rows) = Ok rows
rows_or_refusal (Err fault) = Err (load_refusal fault)

-- the rows of a CSV text for a table of this schema, or its refusal
abbrev pub loaded : List ℕ → Schema → Result (List Row) Refusal
loaded bytes schema = rows_or_refusal (batch schema bytes)

-- the written rows are those of a well formed INSERT
abbrev pub are_written : List (List Literal) → Bool
are_written rows = some_and_all (some_and_all is_literal) rows

-- the batch of a source: the rows of a text, whether or not it is given up, or those of an INSERT
abbrev pub batch_in : Source → Schema → Result (List Row) Refusal
batch_in (Text bytes) schema = loaded bytes.now schema
batch_in (Taken bytes) schema = loaded bytes.items schema
batch_in (Written rows) schema = written schema rows.now

-- written rows are those of a well formed INSERT
abbrev pub IsGood : Source → Type 0
IsGood (Text bytes) = Unit {0}
IsGood (Taken bytes) = Unit {0}
IsGood (Written rows) = IsTrue (are_written rows.now)
