-- Worked runs, as facts that compute. Source: this project's own.
use Rattle.std.specs.Prelude.{◌≡◌, ℕ, pos, negsuc, [], ◌∷◌, ◌++◌, replicate, codes, true, false, None, Ok, Err, refl}
use Rattle.std.specs.Fmt.{digits}
use Rattle.csv.specs.Writing.{fields_text, escaped, is_blank}
use Rattle.blink_loader.specs.Records.{next_record, records_from, strip_bom}
use Rattle.blink_base.specs.declared.refusal.Refusal.TheVariants as refusal
use Rattle.blink_base.specs.declared.value.Kind.TheVariants as kind
use Rattle.star_sql.specs.declared.ast.ColumnName.{ColumnName}
use Rattle.star_sql.specs.declared.ast.Literal.{Literal}
use Rattle.star_sql.specs.declared.ast.Literal.TheVariants as literal
use Rattle.star_sql.specs.declared.ast.Select.{Select}
use Rattle.star_sql.specs.declared.ast.Statement.{Statement}
use Rattle.star_sql.specs.declared.ast.Statement.TheVariants as statement
use Rattle.star_sql.specs.declared.ast.What.TheVariants as what
use Rattle.star_meaning.specs.Answer.{answer, lines}
use Rattle.star_bind.specs.BoundQuery.{first_refusal}
use Rattle.star_engine.specs.State.{Files}
use Rattle.star_engine.specs.Step.{step}
use Rattle.report_text.specs.Texts.{Bytes}
use Rattle.blink_run.specs.Options.{standard_limits}
use Rattle.blink_run.specs.Script.{ends, passes, steps}
use Rattle.blink_run.specs.Program.{asked_by, to_run, to_count, to_demo, nothing_known, count_told, Tells}

-- the arguments of a count, and arguments in no stated form
abbrev pub ArgumentsAsked : Type 0
ArgumentsAsked =
    (asked_by (codes "range" ∷ codes "a" ∷ codes "-2" ∷ codes "005" ∷ []) ≡ to_count (codes "a") (negsuc 1) (pos 5))
    × (asked_by [] ≡ nothing_known)
    × (asked_by (codes "range" ∷ codes "a" ∷ codes "x" ∷ codes "2" ∷ []) ≡ nothing_known)
    × (asked_by (codes "range" ∷ codes "a" ∷ codes "1" ∷ codes "+2" ∷ []) ≡ nothing_known)
    × (asked_by (codes "range" ∷ codes "a" ∷ codes "1" ∷ codes "2" ∷ codes "3" ∷ []) ≡ nothing_known)
    × (asked_by (codes "range" ∷ codes "a" ∷ codes "1" ∷ codes "1000000000000000" ∷ []) ≡ nothing_known)
    × (asked_by (codes "run" ∷ []) ≡ to_run standard_limits)
    × (asked_by (codes "run" ∷ codes "--blocks" ∷ codes "007" ∷ codes "--rows" ∷ codes "8388608" ∷ []) ≡ to_run (record { rows = 8388608; blocks = 7 }))
    × (asked_by (codes "run" ∷ codes "--rows" ∷ codes "5" ∷ codes "--rows" ∷ codes "6" ∷ []) ≡ nothing_known)
    × (asked_by (codes "run" ∷ codes "--rows" ∷ codes "0" ∷ []) ≡ nothing_known)
    × (asked_by (codes "run" ∷ codes "--rows" ∷ codes "8388609" ∷ []) ≡ nothing_known)
    × (asked_by (codes "run" ∷ codes "--rows" ∷ codes "0000000005" ∷ []) ≡ nothing_known)
    × (asked_by (codes "run" ∷ codes "--rows=5" ∷ []) ≡ nothing_known)

-- the arguments of a demonstration, and seeds, rows and forms that it doesn't have
abbrev pub DemosAsked : Type 0
DemosAsked =
    (asked_by (codes "demo" ∷ codes "1" ∷ codes "100000" ∷ []) ≡ to_demo 1 100000)
    × (asked_by (codes "demo" ∷ codes "01" ∷ codes "0000000001" ∷ []) ≡ to_demo 1 1)
    × (asked_by (codes "demo" ∷ codes "2147483647" ∷ codes "1000000" ∷ []) ≡ to_demo 2147483647 1000000)
    × (asked_by (codes "demo" ∷ codes "0" ∷ codes "1" ∷ []) ≡ to_demo 0 1)
    × (asked_by (codes "demo" ∷ codes "2147483648" ∷ codes "1" ∷ []) ≡ nothing_known)
    × (asked_by (codes "demo" ∷ codes "1" ∷ codes "0" ∷ []) ≡ nothing_known)
    × (asked_by (codes "demo" ∷ codes "1" ∷ codes "1000001" ∷ []) ≡ nothing_known)
    × (asked_by (codes "demo" ∷ codes "00000000001" ∷ codes "1" ∷ []) ≡ nothing_known)
    × (asked_by (codes "demo" ∷ codes "-0" ∷ codes "1" ∷ []) ≡ nothing_known)
    × (asked_by (codes "demo" ∷ codes "" ∷ codes "1" ∷ []) ≡ nothing_known)
    × (asked_by (codes "demo" ∷ codes "1" ∷ []) ≡ nothing_known)
    × (asked_by (codes "demo" ∷ codes "1" ∷ codes "2" ∷ codes "3" ∷ []) ≡ nothing_known)

-- from the bytes in to the bytes out: a count, a column that isn't there, a field at fault and a short record
abbrev pub BytesTold : Type 0
BytesTold =
    (count_told (codes "a") (pos 2) (pos 5) (codes "a\n1\n2\n5\n6\n") ≡ record { printed = codes "2\n"; refused = false })
    × (count_told (codes "A-Z_b") (pos 1) (pos 1) [] ≡ record { printed = codes "refused: unknown column a-z_b\n"; refused = true })
    × (count_told (codes "a") (pos 2) (pos 5) (codes "a\nx\n") ≡ record { printed = codes "refused: bad value 1 1\n"; refused = true })
    × (count_told (codes "a") (pos 1) (pos 1) (codes "a,b\n1,1\n1\n") ≡ record { printed = codes "refused: arity 2\n"; refused = true })

-- a number as it is written
abbrev pub number_of : ℕ → Literal
number_of n = literal.Number false (pos n)

-- no files
abbrev pub no_files : Files
no_files name = None

-- pieces without a token print nothing: an empty script, and semicolons, white space and a comment
abbrev pub NothingSaid : Type 0
NothingSaid =
    Tells (to_run standard_limits) true no_files [] (record { printed = []; refused = false })
    × Tells (to_run standard_limits) true no_files (codes ";; -- ';\n") (record { printed = []; refused = false })

-- the column a
abbrev pub column_a : ColumnName
column_a = record { table = None; column = codes "a" }

-- SELECT a FROM t
abbrev pub select_a : Select
select_a = record {
  items = record { what = what.Column column_a; name = None } ∷ [];
  tables = codes "t" ∷ [];
  condition = None;
  groups = [];
  order = [];
  limit = None;
}

-- SELECT a, COUNT(*) FROM t GROUP BY a
abbrev pub count_a : Select
count_a = record {
  items = record { what = what.Column column_a; name = None } ∷ record { what = what.Count; name = None } ∷ [];
  tables = codes "t" ∷ [];
  condition = None;
  groups = column_a ∷ [];
  order = [];
  limit = None;
}

-- each statement is refused on its line, in their order; the last piece needs no semicolon
abbrev pub ScriptAnswered : Type 0
ScriptAnswered =
    Tells (to_run standard_limits) true no_files (codes "EXPLAIN SELECT a FROM t; SELECT a FROM t; ; DROP TABLE t")
    (record { printed = codes "refused: not built\nrefused: unknown table t\nrefused: unknown table t\n"; refused = true })

-- one column of whole numbers
abbrev pub create_t : Statement
create_t = statement.Create (codes "t") (record { name = codes "a"; kind = kind.Int; key = false } ∷ [])

-- three rows
abbrev pub insert_three : Statement
insert_three = statement.Insert (codes "t") ((number_of 3 ∷ []) ∷ (number_of 1 ∷ []) ∷ (number_of 3 ∷ []) ∷ [])

-- a table is made, filled, asked and described; a file that isn't there changes nothing, and the table is dropped
abbrev pub TablesTold : Type 0
TablesTold =
    Tells (to_run standard_limits) true no_files (codes "CREATE TABLE t (a INT); INSERT INTO t VALUES (3),(1),(3); LOAD INTO t FROM 'f'; SELECT a, COUNT(*) FROM t GROUP BY a; DESCRIBE t; DROP TABLE t;")
    (record { printed = codes "created t\nadded 3\nrefused: no file\na,count(*)\n1,1\n3,2\n2 rows\ntable t rows 3 blocks 0\ncolumn a int classes 0\nrest 3\ndropped t\n"; refused = true })

-- 16 digits, 33 open parentheses, a statement, and an open text
abbrev pub refused_script : Bytes
refused_script = codes "SELECT 1000000000000000 (; ?" ++ replicate 33 40 ++ codes "; " ++ replicate 33 40 ++ codes "; DROP TABLE t; SELECT 'a;"

-- the first place at fault goes before the depth, and the depth before the spelling
abbrev pub TextsRefused : Type 0
TextsRefused =
    Tells (to_run standard_limits) true no_files refused_script
    (record { printed = codes "refused: number too long\nrefused: syntax\nrefused: too deep\nrefused: unknown table t\nrefused: syntax\n"; refused = true })

pub arguments_asked_lem : ArgumentsAsked
arguments_asked_lem = (refl, refl, refl, refl, refl, refl, refl, refl, refl, refl, refl, refl, refl)

pub demos_asked_lem : DemosAsked
demos_asked_lem = (refl, refl, refl, refl, refl, refl, refl, refl, refl, refl, refl, refl)

pub bytes_told_lem : BytesTold
unfolding digits next_record records_from strip_bom
bytes_told_lem = (refl, refl, refl, refl)

pub nothing_said_lem : NothingSaid
nothing_said_lem = (
  ([], passes _ _ _ _ refl (ends _), refl),
  ([], passes _ _ _ _ refl (passes _ _ _ _ refl (passes _ _ _ _ refl (ends _))), refl),
)

pub script_answered_lem : ScriptAnswered
unfolding step first_refusal
script_answered_lem = (
  _,
  steps _ _ _ (Ok (statement.Explain select_a)) _ _ refl (record { formed = refl; spelled = refl }) refl
      (steps _ _ _ (Ok (statement.Select select_a)) _ _ refl (record { formed = refl; spelled = refl }) refl
      (passes _ _ _ _ refl
      (steps _ _ _ (Ok (statement.Drop (codes "t"))) _ _ refl (record { formed = refl; spelled = refl }) refl (ends _)))),
  refl,
)

pub tables_told_lem : TablesTold
unfolding step first_refusal answer lines digits fields_text escaped is_blank
tables_told_lem = (
  _,
  steps _ _ _ (Ok create_t) _ _ refl (record { formed = refl; spelled = refl }) refl
      (steps _ _ _ (Ok insert_three) _ _ refl (record { formed = refl; spelled = refl }) refl
      (steps _ _ _ (Ok (statement.Load (codes "t") (codes "f"))) _ _ refl (record { formed = refl; spelled = refl }) refl
      (steps _ _ _ (Ok (statement.Select count_a)) _ _ refl (record { formed = refl; spelled = refl }) refl
      (steps _ _ _ (Ok (statement.Describe (codes "t"))) _ _ refl (record { formed = refl; spelled = refl }) refl
      (steps _ _ _ (Ok (statement.Drop (codes "t"))) _ _ refl (record { formed = refl; spelled = refl }) refl
      (passes _ _ _ _ refl (ends _))))))),
  refl,
)

pub texts_refused_lem : TextsRefused
unfolding step
texts_refused_lem = (
  _,
  steps _ _ _ (Err refusal.NumberTooLong) _ _ refl refl refl
      (steps _ _ _ (Err refusal.Syntax) _ _ refl refl refl
      (steps _ _ _ (Err refusal.TooDeep) _ _ refl refl refl
      (steps _ _ _ (Ok (statement.Drop (codes "t"))) _ _ refl (record { formed = refl; spelled = refl }) refl
      (steps _ _ _ (Err refusal.Syntax) _ _ refl refl refl (ends _))))),
  refl,
)
