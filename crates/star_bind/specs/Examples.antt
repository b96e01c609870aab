-- Worked bindings, as facts that compute. Source: this project's own.
use Rattle.std.specs.Prelude.{◌≡◌, ℕ, List, [], ◌∷◌, map, replicate, length, codes, Option, Some, None, option_map, refl}
use Rattle.std.specs.List.{find}
use Rattle.std.specs.Str.{bytes_eq}
use Rattle.blink_base.specs.declared.value.Kind.{Kind}
use Rattle.blink_base.specs.declared.value.Kind.TheVariants as kind
use Rattle.blink_base.specs.declared.op.Op.TheVariants as op
use Rattle.blink_base.specs.declared.schema.Column.{Column}
use Rattle.blink_base.specs.declared.schema.Schema.{Schema}
use Rattle.star_sql.specs.declared.ast.Literal.TheVariants as literal
use Rattle.star_sql.specs.declared.ast.What.TheVariants as what
use Rattle.star_sql.specs.declared.ast.Way.TheVariants as way
use Rattle.star_sql.specs.declared.ast.Primary.{Primary, Test}
use Rattle.star_sql.specs.declared.ast.TestWords.TheVariants.{Compare, Columns, Like}
use Rattle.star_sql.specs.declared.ast.Select.{Select}
use Rattle.star_sql.specs.StatementParts.{bare, dotted, item, number, any_of, all_of, group_of}
use Rattle.star_meaning.specs.Queries.{plain, query_of as query_all, query_where}
use Rattle.blink_base.specs.declared.refusal.Refusal.TheVariants.{UnknownTable, UnknownColumn, AmbiguousColumn, WrongKind, NotStar, NotGrouped, TooManyConjunctions}
use Rattle.star_bind.specs.BoundQuery.{Schemas, first_refusal, query_of, scope_of}
use Rattle.star_bind.specs.Conjunctions.{table_conjunctions}

abbrev pub column : List ℕ → Kind → Column
column name k = record { name = name; kind = k }

abbrev pub schema : List Column → Option ℕ → Schema
schema columns key = record { columns = columns; key = key }

-- tables t (a), u (a, b), p (a, b), d (k key, n) and f (fk)
abbrev pub known : List (List ℕ × Schema)
known =
    (codes "t", schema (column (codes "a") kind.Int ∷ []) None)
    ∷ (codes "u", schema (column (codes "a") kind.Int ∷ column (codes "b") kind.Text ∷ []) None)
    ∷ (codes "p", schema (column (codes "a") kind.Int ∷ column (codes "b") kind.Int ∷ []) None)
    ∷ (codes "d", schema (column (codes "k") kind.Int ∷ column (codes "n") kind.Text ∷ []) (Some 0))
    ∷ (codes "f", schema (column (codes "fk") kind.Int ∷ []) None) ∷ []

abbrev pub schemas : Schemas
schemas name = option_map (λ e. e.1) (find (λ e. bytes_eq e.0 name) known)

abbrev pub bare_items : List (List ℕ) → List (List ℕ) → Select
bare_items names tables = query_all tables (map plain names) [] [] None

abbrev pub is_one : List ℕ → Primary
is_one name = Test (Compare (bare name) op.Equal (number 1))

-- (a = 1 OR b = 1), so many times joined by AND
abbrev pub either : Primary
either = group_of (any_of ((is_one (codes "a") ∷ []) ∷ (is_one (codes "b") ∷ []) ∷ []))

abbrev pub either_times : ℕ → Select
either_times n = query_where (plain (codes "a") ∷ []) (codes "p" ∷ []) (all_of (replicate n either))

abbrev pub tie : Primary
tie = Test (Columns (bare (codes "fk")) op.Equal (bare (codes "k")))

abbrev pub joined_by : List Primary → Select
joined_by tests = query_where (plain (codes "n") ∷ []) (codes "f" ∷ codes "d" ∷ []) (all_of tests)

-- each refusal, and queries without one
abbrev pub QueriesRefused : Type 0
QueriesRefused =
    (first_refusal schemas (bare_items (codes "a" ∷ []) (codes "x" ∷ [])) ≡ Some (UnknownTable (codes "x")))
    × (first_refusal schemas (bare_items (codes "z" ∷ []) (codes "t" ∷ [])) ≡ Some (UnknownColumn (codes "z")))
    × (first_refusal schemas (bare_items (codes "a" ∷ []) (codes "t" ∷ codes "u" ∷ [])) ≡ Some (AmbiguousColumn (codes "a")))
    × (first_refusal schemas (query_where (plain (codes "a") ∷ []) (codes "t" ∷ []) (all_of (Test (Compare (bare (codes "a")) op.Equal (literal.Text (codes "x"))) ∷ []))) ≡ Some WrongKind)
    × (first_refusal schemas (query_where (plain (codes "b") ∷ []) (codes "u" ∷ []) (all_of (Test (Like (bare (codes "b")) (codes "x_%")) ∷ []))) ≡ Some WrongKind)
    × (first_refusal schemas (bare_items (codes "b" ∷ []) (codes "t" ∷ codes "u" ∷ [])) ≡ Some NotStar)
    × (first_refusal schemas (query_all (codes "t" ∷ []) (plain (codes "a") ∷ item what.Count ∷ []) [] [] None) ≡ Some NotGrouped)
    × (first_refusal schemas (record { items = plain (codes "a") ∷ []; tables = codes "t" ∷ codes "u" ∷ []; condition = None; groups = []; order = record { column = dotted (codes "t") (codes "a"); way = way.Plain } ∷ []; limit = None }) ≡ Some (UnknownColumn (codes "t.a")))
    × (first_refusal schemas (bare_items (codes "a" ∷ []) (codes "t" ∷ [])) ≡ None)

-- 64 conjunctions are answered, 128 are too many
abbrev pub ConjunctionsCounted : Type 0
ConjunctionsCounted =
    (first_refusal schemas (either_times 6) ≡ None)
    × (first_refusal schemas (either_times 7) ≡ Some TooManyConjunctions)
    × (length (table_conjunctions (scope_of schemas (either_times 6)) (either_times 6) 0) ≡ 64)

-- a tie with a key, in parentheses too; a tie inside an OR is none
abbrev pub TiesFound : Type 0
TiesFound =
    (first_refusal schemas (joined_by (tie ∷ [])) ≡ None)
    × ((query_of schemas (joined_by (group_of (all_of (tie ∷ is_one (codes "fk") ∷ [])) ∷ []))).ties ≡ record { dimension = 1; column = 0 } ∷ [])
    × ((query_of schemas (joined_by (tie ∷ []))).fact ≡ 0)
    × (first_refusal schemas (joined_by (group_of (any_of ((tie ∷ []) ∷ (is_one (codes "fk") ∷ []) ∷ [])) ∷ [])) ≡ Some NotStar)
    × (first_refusal schemas (joined_by (tie ∷ group_of (any_of ((is_one (codes "fk") ∷ []) ∷ (Test (Compare (bare (codes "n")) op.Equal (literal.Text (codes "two"))) ∷ []) ∷ [])) ∷ [])) ≡ Some NotStar)

pub queries_refused_lem : QueriesRefused
unfolding first_refusal
queries_refused_lem = (refl, refl, refl, refl, refl, refl, refl, refl, refl)

pub conjunctions_counted_lem : ConjunctionsCounted
unfolding first_refusal
conjunctions_counted_lem = (refl, refl, refl)

pub ties_found_lem : TiesFound
unfolding first_refusal query_of
ties_found_lem = (refl, refl, refl, refl, refl)
