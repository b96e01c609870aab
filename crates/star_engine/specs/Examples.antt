-- Worked steps, as facts that compute. Source: this project's own.
use Rattle.std.specs.Prelude.{◌≡◌, pos, [], ◌∷◌, true, codes, None, Ok, Err, refl}
use Rattle.std.specs.Fmt.{digits}
use Rattle.blink_base.specs.declared.answer.Field.TheVariants.{Number}
use Rattle.blink_base.specs.declared.limits.Limits.{Limits}
use Rattle.blink_base.specs.declared.refusal.Refusal.TheVariants as refusal
use Rattle.blink_base.specs.declared.value.Kind.TheVariants as kind
use Rattle.blink_base.specs.declared.value.Value.TheVariants.{Int}
use Rattle.star_sql.specs.declared.ast.Select.{Select}
use Rattle.star_sql.specs.declared.ast.Statement.TheVariants as statement
use Rattle.star_meaning.specs.Answer.{answer, lines}
use Rattle.star_meaning.specs.Queries.{plain, query_of_t}
use Rattle.star_bind.specs.BoundQuery.{first_refusal}
use Rattle.star_engine.specs.State.{State}
use Rattle.star_engine.specs.declared.growth.Growth.TheVariants.{Standing}
use Rattle.star_engine.specs.Changes.{new_table, added_to}
use Rattle.star_engine.specs.Step.{step, query, refuse}

-- one table and no files
abbrev pub one_table : State
one_table = record { tables = new_table (codes "t") (record { columns = []; key = None }) ∷ []; files = λ name. None }

-- one row and one block
abbrev pub few : Limits
few = record { rows = 1; blocks = 1 }

-- a statement that isn't built prints that, and keeps the tables and the files; so does one that is refused
abbrev pub StatementsStepped : Type 0
StatementsStepped =
    (step few one_table (Ok (statement.Export (codes "t") (codes "f"))) ≡ refuse one_table refusal.NotBuilt)
    × ((step few one_table (Ok (statement.Import (codes "u") (codes "f")))).printed ≡ codes "refused: not built\n")
    × (step few one_table (Ok (statement.Load (codes "t") (codes "f"))) ≡ refuse one_table refusal.NoFile)
    × (step few one_table (Ok (statement.Load (codes "u") (codes "f"))) ≡ refuse one_table (refusal.UnknownTable (codes "u")))
    × ((step few one_table (Ok (statement.Drop (codes "u")))).printed ≡ codes "refused: unknown table u\n")
    × ((step few one_table (Ok (statement.Drop (codes "t")))).state.tables ≡ [])
    × ((step few one_table (Ok (statement.Drop (codes "t")))).printed ≡ codes "dropped t\n")

-- SELECT a FROM t
abbrev pub select_a : Select
select_a = query_of_t (plain (codes "a") ∷ []) [] [] None

-- one table with a row, and no files
abbrev pub one_row : State
one_row = record {
  tables = added_to Standing (new_table (codes "t") (record { columns = record { name = codes "a"; kind = kind.Int } ∷ []; key = None })) ((Int (pos 7) ∷ []) ∷ []) ∷ [];
  files = λ name. None;
}

-- a query prints its answer over the accepted rows, or is refused; both keep the tables and the files
abbrev pub QueriesAnswered : Type 0
QueriesAnswered =
    (step few one_row (Ok (statement.Select select_a)) ≡ query one_row (Ok (record { names = codes "a" ∷ []; lines = (Number (pos 7) ∷ []) ∷ [] })))
    × (step few one_table (Ok (statement.Select select_a)) ≡ refuse one_table (refusal.UnknownColumn (codes "a")))

-- a table of one column without rows, as it is described
abbrev pub TablesDescribed : Type 0
TablesDescribed =
    ((step few (step few (record { tables = []; files = λ name. None }) (Ok (statement.Create (codes "u") (record { name = codes "a"; kind = kind.Int; key = true } ∷ [])))).state (Ok (statement.Describe (codes "u")))).printed
    ≡ codes "table u rows 0 blocks 0\ncolumn a int classes 0 key\nrest 0\n")

-- the refusal of a text
abbrev pub TextsRefused : Type 0
TextsRefused =
    ((step few one_table (Err refusal.TooDeep)).printed ≡ codes "refused: too deep\n")
    × ((step few one_table (Err refusal.NumberTooLong)).printed ≡ codes "refused: number too long\n")

pub statements_stepped_lem : StatementsStepped
unfolding step
statements_stepped_lem = (refl, refl, refl, refl, refl, refl, refl)

pub queries_answered_lem : QueriesAnswered
unfolding step first_refusal answer lines
queries_answered_lem = (refl, refl)

pub tables_described_lem : TablesDescribed
unfolding step digits
tables_described_lem = refl

pub texts_refused_lem : TextsRefused
unfolding step
texts_refused_lem = (refl, refl)
