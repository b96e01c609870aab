-- What a statement does: the state that it leaves and the bytes that it prints. Source: ISO/IEC 9075 (tables and rows); the statements on layout, the order of refusals and the texts are this project's own.
use Rattle.std.specs.Prelude.{ℕ, Bool, true, false, List, length, nat_le, Option, Some, None, Result, Ok, Err}
use Rattle.blink_base.specs.declared.answer.Answer.{Answer}
use Rattle.blink_base.specs.declared.schema.Schema.{Schema}
use Rattle.blink_base.specs.declared.limits.Limits.{Limits}
use Rattle.blink_base.specs.declared.refusal.Refusal.{Refusal}
use Rattle.blink_base.specs.declared.refusal.Refusal.TheVariants as refusal
use Rattle.blink_base.specs.Values.{Row}
use Rattle.star_sql.specs.declared.ast.Statement.{Statement}
use Rattle.star_sql.specs.declared.ast.Statement.TheVariants as statement
use Rattle.star_sql.specs.PieceStatement.{Said}
use Rattle.report_text.specs.declared.lines.LayoutLines.{LayoutLines}
use Rattle.report_text.specs.AnswerText.{answer_bytes}
use Rattle.report_text.specs.Texts.{Bytes, refusal_bytes, created_bytes, dropped_bytes, reorganized_bytes, added_bytes, layout_bytes}
use Rattle.star_engine.specs.LoadedRows.{loaded}
use Rattle.star_engine.specs.State.{Tables, State, has_table}
use Rattle.star_engine.specs.Changes.{created, dropped, added, reorganized}
use Rattle.star_engine.specs.Queries.{selected}
use Rattle.star_engine.specs.TableLayout.{described}
use Rattle.star_engine.specs.InsertedRows.{written}
use Rattle.star_engine.specs.declared.growth.Growth.{Growth}
use Rattle.star_engine.specs.declared.growth.Growth.TheVariants.{Anew, Standing}
use Rattle.blink_base.specs.declared.limits.TheConstants.{LONGEST_CSV}

-- what a statement leaves, what it prints, and whether it was refused
pub record Outcome : Type 0 where
  pub state : State
  pub printed : Bytes
  pub refused : Bool

-- a refused statement prints its cause and changes nothing
abbrev pub refuse : State → Refusal → Outcome
refuse state why = record { state = state; printed = refusal_bytes why; refused = true }

-- a statement that is not refused
abbrev pub done : State → Bytes → Outcome
done state bytes = record { state = state; printed = bytes; refused = false }

-- the state with other tables
abbrev pub holding : State → Tables → State
holding state tables = record { tables = tables; files = state.files }

-- a statement that changes the tables and prints this line, or its refusal
abbrev pub change : State → Bytes → Result Tables Refusal → Outcome
change state line (Ok tables) = done (holding state tables) line
change state line (Err why) = refuse state why

-- a statement that adds rows and prints their number, or its refusal
abbrev pub addition : State → Result (Tables × ℕ) Refusal → Outcome
addition state (Ok made) = done (holding state made.0) (added_bytes made.1)
addition state (Err why) = refuse state why

-- a statement that prints a layout, or its refusal
abbrev pub description : State → Result LayoutLines Refusal → Outcome
description state (Ok lines) = done state (layout_bytes lines)
description state (Err why) = refuse state why

-- a statement that prints an answer, or its refusal
abbrev pub query : State → Result Answer Refusal → Outcome
query state (Ok answer) = done state (answer_bytes answer)
query state (Err why) = refuse state why

-- a file of at most so many bytes
abbrev pub short_enough : Bool → Bytes → Result Bytes Refusal
short_enough true bytes = Ok bytes
short_enough false bytes = Err refusal.FileTooLong

-- what is fetched of a file of at most so many bytes: no file, too long, or its bytes
abbrev pub fetched : ℕ → Option Bytes → Result Bytes Refusal
fetched limit None = Err refusal.NoFile
fetched limit (Some bytes) = short_enough (nat_le (length bytes) limit) bytes

-- the rows of a fetched file for a table of this schema, or the first refusal
abbrev pub batch_of : Result Bytes Refusal → Schema → Result (List Row) Refusal
batch_of (Ok bytes) schema = loaded bytes schema
batch_of (Err why) schema = Err why

-- LOAD and APPEND: the table first, then the file, then its rows, then what is refused of them
abbrev pub add_file : Limits → Growth → State → List ℕ → List ℕ → Outcome
add_file limits growth state name file = addition state (added limits growth state.tables name (batch_of (fetched LONGEST_CSV (state.files file))))

-- the outcome of a statement; EXPLAIN and table files are not built
abbrev pub statement_step : Limits → State → Statement → Outcome
statement_step limits state (statement.Create name columns) = change state (created_bytes name) (created state.tables name columns)
statement_step limits state (statement.Drop name) = change state (dropped_bytes name) (dropped state.tables name)
statement_step limits state (statement.Load name file) = add_file limits Anew state name file
statement_step limits state (statement.Append name file) = add_file limits Standing state name file
statement_step limits state (statement.Insert name rows) = addition state (added limits Standing state.tables name (λ schema. written schema rows))
statement_step limits state (statement.Reorganize name) = change state (reorganized_bytes name) (reorganized state.tables name)
statement_step limits state (statement.Select s) = query state (selected state.tables s)
statement_step limits state (statement.Describe name) = description state (described state.tables name)
statement_step limits state (statement.Explain s) = refuse state refusal.NotBuilt
statement_step limits state (statement.Export name file) = refuse state refusal.NotBuilt
statement_step limits state (statement.Import name file) = refuse state refusal.NotBuilt

-- the outcome of a piece of a script, by what it says
unfoldable pub step : Limits → State → Said → Outcome
step limits state (Ok s) = statement_step limits state s
step limits state (Err why) = refuse state why

-- whether a statement asks the store: LOAD and APPEND into a table that is there
abbrev pub asks_store : Tables → Statement → Bool
asks_store tables (statement.Create name columns) = false
asks_store tables (statement.Drop name) = false
asks_store tables (statement.Load name file) = has_table tables name
asks_store tables (statement.Append name file) = has_table tables name
asks_store tables (statement.Insert name rows) = false
asks_store tables (statement.Reorganize name) = false
asks_store tables (statement.Select s) = false
asks_store tables (statement.Describe name) = false
asks_store tables (statement.Explain s) = false
asks_store tables (statement.Export name file) = false
asks_store tables (statement.Import name file) = false

-- whether a piece of a script asks the store
abbrev pub piece_asks_store : Tables → Said → Bool
piece_asks_store tables (Ok s) = asks_store tables s
piece_asks_store tables (Err why) = false
