-- Worked queries of small tables, as facts that compute. Source: ISO/IEC 9075; the order of ties, the truncated average, LIMIT and the printed names are this project's own.
use Rattle.std.specs.Prelude.{◌≡◌, negsuc, pos, Bool, true, false, List, [], ◌∷◌, codes, Some, None, refl}
use Rattle.blink_base.specs.declared.op.Op.TheVariants as op
use Rattle.blink_base.specs.declared.value.Kind.TheVariants as kind
use Rattle.blink_base.specs.declared.value.Value.TheVariants as value
use Rattle.blink_base.specs.declared.answer.Field.TheVariants as field
use Rattle.blink_base.specs.declared.refusal.Refusal.TheVariants.{UnknownColumn, AmbiguousColumn}
use Rattle.blink_base.specs.Lines.{printed_lines}
use Rattle.star_sql.specs.declared.ast.ColumnName.{ColumnName}
use Rattle.star_sql.specs.declared.ast.Cond.{Cond}
use Rattle.star_sql.specs.declared.ast.Item.{Item}
use Rattle.star_sql.specs.declared.ast.Select.{Select}
use Rattle.star_sql.specs.declared.ast.Literal.TheVariants as literal
use Rattle.star_sql.specs.declared.ast.What.TheVariants as what
use Rattle.star_sql.specs.declared.ast.Expr.TheVariants as expr
use Rattle.star_sql.specs.declared.ast.Way.TheVariants.{Plain, Desc}
use Rattle.star_sql.specs.declared.ast.Primary.{Test}
use Rattle.star_sql.specs.declared.ast.TestWords.TheVariants.{Compare, Between, Among, Like}
use Rattle.star_sql.specs.StatementParts.{bare, dotted, item, any_of, all_of, group_of}
use Rattle.star_meaning.specs.Names.{Scope, places, place_of}
use Rattle.star_meaning.specs.NameRefusals.{name_refusal}
use Rattle.star_meaning.specs.Truth.{is_true}
use Rattle.star_meaning.specs.Answer.{answer, lines, item_meant, printed_name}
use Rattle.star_meaning.specs.Queries.{int_table, int_rows, int_lines, plain, called, query_of, query_of_t}

-- the columns a and b
abbrev a : ColumnName
a = bare (codes "a")

abbrev b : ColumnName
b = bare (codes "b")

-- the table t of one column a, and of two columns a and b
abbrev pub t_a : Scope
t_a = int_table (codes "t") (codes "a" ∷ []) None ∷ []

abbrev pub t_ab : Scope
t_ab = int_table (codes "t") (codes "a" ∷ codes "b" ∷ []) None ∷ []

-- SELECT a FROM t: duplicates stay, and lines rise where nothing else is asked
abbrev pub RowsListed : Type 0
RowsListed = answer t_a (query_of_t (plain (codes "a") ∷ []) [] [] None) (int_rows ((3 ∷ []) ∷ (1 ∷ []) ∷ (3 ∷ []) ∷ []) ∷ [])
    ≡ record { names = codes "a" ∷ []; lines = int_lines ((1 ∷ []) ∷ (3 ∷ []) ∷ (3 ∷ []) ∷ []) }

pub rows_listed_lem : RowsListed
unfolding answer lines
rows_listed_lem = refl

-- SELECT COUNT(*), SUM(a) FROM t of no rows: one line, 0,NULL; with GROUP BY a, no line
abbrev pub NothingTotalled : Type 0
NothingTotalled =
    (answer t_a (query_of_t (item what.Count ∷ item (what.Sum (expr.One a)) ∷ []) [] [] None) ([] ∷ [])
    ≡ record { names = codes "count(*)" ∷ codes "sum(a)" ∷ []; lines = (field.Number (pos 0) ∷ field.Null ∷ []) ∷ [] })
    × (lines t_a (query_of_t (item what.Count ∷ item (what.Sum (expr.One a)) ∷ []) (a ∷ []) [] None) ([] ∷ []) ≡ [])

pub nothing_totalled_lem : NothingTotalled
unfolding answer lines
nothing_totalled_lem = (refl, refl)

-- SELECT AVG(a) FROM t over -3 and -4: -3
abbrev pub AverageCut : Type 0
AverageCut = answer t_a (query_of_t (item (what.Avg (expr.One a)) ∷ []) [] [] None) (((value.Int (negsuc 2) ∷ []) ∷ (value.Int (negsuc 3) ∷ []) ∷ []) ∷ [])
    ≡ record { names = codes "avg(a)" ∷ []; lines = (field.Number (negsuc 2) ∷ []) ∷ [] }

pub average_cut_lem : AverageCut
unfolding answer lines
average_cut_lem = refl

-- NULL stands last in a rising order, and first in a falling one
abbrev pub NullPlaced : Type 0
NullPlaced =
    (printed_lines (record { item = 0; falling = false } ∷ []) None ((field.Null ∷ []) ∷ (field.Number (pos 2) ∷ []) ∷ (field.Number (pos 1) ∷ []) ∷ [])
    ≡ (field.Number (pos 1) ∷ []) ∷ (field.Number (pos 2) ∷ []) ∷ (field.Null ∷ []) ∷ [])
    × (printed_lines (record { item = 0; falling = true } ∷ []) None ((field.Number (pos 1) ∷ []) ∷ (field.Null ∷ []) ∷ (field.Number (pos 2) ∷ []) ∷ [])
    ≡ (field.Null ∷ []) ∷ (field.Number (pos 2) ∷ []) ∷ (field.Number (pos 1) ∷ []) ∷ [])

-- SELECT a, b FROM t ORDER BY b DESC: ties go by a and then b, rising
abbrev pub TiesOrdered : Type 0
TiesOrdered = lines t_ab (query_of_t (plain (codes "a") ∷ plain (codes "b") ∷ []) [] (record { column = b; way = Desc } ∷ []) None) (int_rows ((2 ∷ 1 ∷ []) ∷ (1 ∷ 1 ∷ []) ∷ (5 ∷ 2 ∷ []) ∷ (1 ∷ 2 ∷ []) ∷ []) ∷ [])
    ≡ int_lines ((1 ∷ 2 ∷ []) ∷ (5 ∷ 2 ∷ []) ∷ (1 ∷ 1 ∷ []) ∷ (2 ∷ 1 ∷ []) ∷ [])

pub ties_ordered_lem : TiesOrdered
unfolding lines
ties_ordered_lem = refl

-- SELECT a FROM t LIMIT 2 keeps the first two lines; LIMIT 0 keeps none, of an aggregate too
abbrev pub LimitsCut : Type 0
LimitsCut =
    (lines t_a (query_of_t (plain (codes "a") ∷ []) [] [] (Some 2)) (int_rows ((3 ∷ []) ∷ (1 ∷ []) ∷ (2 ∷ []) ∷ []) ∷ []) ≡ int_lines ((1 ∷ []) ∷ (2 ∷ []) ∷ []))
    × (lines t_a (query_of_t (item what.Count ∷ []) [] [] (Some 0)) (int_rows ((3 ∷ []) ∷ []) ∷ []) ≡ [])

pub limits_cut_lem : LimitsCut
unfolding lines
limits_cut_lem = (refl, refl)

-- SELECT b AS a, a AS b FROM t ORDER BY a: the AS name hides the column, so the lines go by the column b; behind its table it is the column a, which is the second item
abbrev pub NameHides : Type 0
NameHides =
    (lines t_ab (query_of_t (called (what.Column b) (codes "a") ∷ called (what.Column a) (codes "b") ∷ []) [] (record { column = a; way = Plain } ∷ []) None) (int_rows ((1 ∷ 9 ∷ []) ∷ (2 ∷ 8 ∷ []) ∷ []) ∷ [])
    ≡ int_lines ((8 ∷ 2 ∷ []) ∷ (9 ∷ 1 ∷ []) ∷ []))
    × (lines t_ab (query_of_t (called (what.Column b) (codes "a") ∷ called (what.Column a) (codes "b") ∷ []) [] (record { column = dotted (codes "t") (codes "a"); way = Plain } ∷ []) None) (int_rows ((1 ∷ 9 ∷ []) ∷ (2 ∷ 8 ∷ []) ∷ []) ∷ [])
    ≡ int_lines ((9 ∷ 1 ∷ []) ∷ (8 ∷ 2 ∷ []) ∷ []))

pub name_hides_lem : NameHides
unfolding lines
name_hides_lem = (refl, refl)

-- SELECT a, SUM(b), COUNT(*) FROM t GROUP BY a: one line per value of a
abbrev pub RowsGrouped : Type 0
RowsGrouped = lines t_ab (query_of_t (plain (codes "a") ∷ item (what.Sum (expr.One b)) ∷ item what.Count ∷ []) (a ∷ []) [] None) (int_rows ((2 ∷ 10 ∷ []) ∷ (1 ∷ 5 ∷ []) ∷ (2 ∷ 30 ∷ []) ∷ []) ∷ [])
    ≡ int_lines ((1 ∷ 5 ∷ 1 ∷ []) ∷ (2 ∷ 40 ∷ 2 ∷ []) ∷ [])

pub rows_grouped_lem : RowsGrouped
unfolding lines
rows_grouped_lem = refl

-- a name that fits two columns means none, and behind its table it means one, where that stands once; a key means an AS name first
abbrev pub two_tables : Scope
two_tables = int_table (codes "t") (codes "a" ∷ []) None ∷ int_table (codes "u") (codes "a" ∷ codes "b" ∷ []) None ∷ []

abbrev pub NamesMeant : Type 0
NamesMeant =
    (places two_tables a ≡ record { table = 0; column = 0 } ∷ record { table = 1; column = 0 } ∷ [])
    × (place_of two_tables a ≡ None)
    × (place_of two_tables (dotted (codes "u") (codes "a")) ≡ Some (record { table = 1; column = 0 }))
    × (place_of (int_table (codes "t") (codes "a" ∷ []) None ∷ int_table (codes "t") (codes "a" ∷ []) None ∷ []) (dotted (codes "t") (codes "a")) ≡ None)
    × (item_meant two_tables (plain (codes "b") ∷ called what.Count (codes "a") ∷ []) a ≡ Some 1)
    × (item_meant two_tables (plain (codes "b") ∷ []) (dotted (codes "u") (codes "b")) ≡ Some 0)

-- a query of the tables t and u: its items and one rising key
abbrev by_key : List Item → ColumnName → Select
by_key items key = query_of (codes "t" ∷ codes "u" ∷ []) items [] (record { column = key; way = Plain } ∷ []) None

-- unknown names are told first, also where an ambiguous one stands before them; a key is an item
abbrev pub NamesRefused : Type 0
NamesRefused =
    (name_refusal two_tables (by_key (plain (codes "a") ∷ plain (codes "z") ∷ []) b) ≡ Some (UnknownColumn (codes "z")))
    × (name_refusal two_tables (by_key (plain (codes "b") ∷ plain (codes "a") ∷ []) b) ≡ Some (AmbiguousColumn (codes "a")))
    × (name_refusal two_tables (by_key (plain (codes "b") ∷ []) a) ≡ Some (AmbiguousColumn (codes "a")))
    × (name_refusal two_tables (by_key (plain (codes "a") ∷ []) (dotted (codes "t") (codes "a"))) ≡ Some (UnknownColumn (codes "t.a")))
    × (name_refusal two_tables (by_key (called what.Count (codes "a") ∷ []) a) ≡ None)

-- an item's printed name
abbrev pub NamesPrinted : Type 0
NamesPrinted =
    (printed_name (item (what.Column (dotted (codes "t") (codes "a")))) ≡ codes "t.a")
    × (printed_name (item (what.Sum (expr.Times a b))) ≡ codes "sum(a*b)")
    × (printed_name (item (what.Avg (expr.Minus (dotted (codes "t") (codes "a")) b))) ≡ codes "avg(t.a-b)")
    × (printed_name (called what.Count (codes "n")) ≡ codes "n")

-- a table of a text and a date
abbrev pub days : Scope
days = record { name = codes "t"; schema = record { columns = record { name = codes "a"; kind = kind.Text } ∷ record { name = codes "b"; kind = kind.Date } ∷ []; key = None } } ∷ []

-- whether a condition is true of the row ('pear', '2024-02-29')
abbrev pub true_of_pear : Cond → Bool
true_of_pear cond = is_true days cond ((value.Text (codes "pear") ∷ value.Date (pos 20240229) ∷ []) ∷ [])

-- LIKE by the front, BETWEEN with both ends, IN by any, <> by unlike, and parentheses as they stand
abbrev pub ConditionsTold : Type 0
ConditionsTold =
    (true_of_pear (all_of (Test (Like a (codes "pe%")) ∷ [])) ≡ true)
    × (true_of_pear (all_of (Test (Like a (codes "e%")) ∷ [])) ≡ false)
    × (true_of_pear (all_of (Test (Between b (literal.Text (codes "2024-02-29")) (literal.Date (codes "2024-02-29"))) ∷ [])) ≡ true)
    × (true_of_pear (all_of (Test (Among a (literal.Text (codes "fig") ∷ literal.Text (codes "pear") ∷ [])) ∷ Test (Compare a op.Unequal (literal.Text (codes "pear"))) ∷ [])) ≡ false)
    × (true_of_pear (any_of ((Test (Compare a op.Equal (literal.Text (codes "pear"))) ∷ []) ∷ (Test (Compare a op.Equal (literal.Text (codes "fig"))) ∷ Test (Compare b op.Less (literal.Text (codes "2024-01-01"))) ∷ []) ∷ [])) ≡ true)
    × (true_of_pear (all_of (group_of (any_of ((Test (Compare a op.Equal (literal.Text (codes "pear"))) ∷ []) ∷ (Test (Compare a op.Equal (literal.Text (codes "fig"))) ∷ []) ∷ [])) ∷ Test (Compare b op.Less (literal.Text (codes "2024-01-01"))) ∷ [])) ≡ false)
