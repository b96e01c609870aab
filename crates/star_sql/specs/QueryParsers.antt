-- Parsers of the parts of SELECT. Source: this project's own.
use Rattle.std.specs.Prelude.{ℕ, List, [], ◌∷◌, Option, Some, None, codes}
use Rattle.star_lex.specs.declared.token.TokenKind.TheVariants.{Name, Number, Text, Symbol}
use Rattle.star_lex.specs.declared.token.Mark.{Mark}
use Rattle.star_lex.specs.declared.token.Mark.TheVariants as mark
use Rattle.star_lex.specs.Kinds.{is_word}
use Rattle.star_sql.specs.declared.ast.ColumnName.{ColumnName}
use Rattle.star_sql.specs.declared.ast.Way.{Way}
use Rattle.star_sql.specs.declared.ast.Way.TheVariants.{Plain, Asc, Desc}
use Rattle.star_sql.specs.declared.ast.OrderKey.{OrderKey}
use Rattle.star_sql.specs.declared.ast.Expr.{Expr}
use Rattle.star_sql.specs.declared.ast.Expr.TheVariants.{One, Times, Plus, Minus}
use Rattle.star_sql.specs.declared.ast.What.{What}
use Rattle.star_sql.specs.declared.ast.What.TheVariants as what
use Rattle.star_sql.specs.declared.ast.Item.{Item}
use Rattle.star_sql.specs.declared.ast.Cond.{Cond}
use Rattle.star_sql.specs.declared.ast.Select.{Select}
use Rattle.star_sql.specs.Spelling.{Spelled}
use Rattle.star_sql.specs.Parsers.{ParseOf, ◌>>=◌, cases_of, is_mark, behind, name_at, made_of, then_at, after_at, optional_at, inside_at, listed_at, by_at, Form, by_word, limit_at}
use Rattle.star_sql.specs.PredicateParsers.{column_at}
use Rattle.star_sql.specs.ConditionParsers.{condition_at}

-- two columns with this mark between them, where the mark is there, and else what else
abbrev pub joined_by : ColumnName → Mark → (ColumnName → ColumnName → Expr) → ParseOf Expr → Spelled → ParseOf Expr
joined_by a m make otherwise ts = cases_of (behind (is_mark m) ts) otherwise (λ rest. made_of (make a) (column_at rest))

-- an expression that begins with a column
unfoldable pub joined_at : ColumnName → Spelled → ParseOf Expr
joined_at a ts = joined_by a mark.Star Times (joined_by a mark.Plus Plus (joined_by a mark.Minus Minus (Some (One a, ts)) ts) ts) ts

-- an expression
unfoldable pub expr_at : Spelled → ParseOf Expr
expr_at ts = column_at ts >>= λ a. joined_at a.0 a.1

-- the star of COUNT
unfoldable pub star_at : Spelled → ParseOf (Unit {0})
star_at ts = behind (is_mark mark.Star) ts >>= λ rest. Some (tt, rest)

-- the aggregates by their words
abbrev pub aggregates : List (Form What)
aggregates =
    (codes "count", λ ts. made_of (λ u. what.Count) (inside_at star_at ts))
    ∷ (codes "sum", λ ts. made_of what.Sum (inside_at expr_at ts))
    ∷ (codes "avg", λ ts. made_of what.Avg (inside_at expr_at ts))
    ∷ (codes "min", λ ts. made_of what.Min (inside_at column_at ts))
    ∷ (codes "max", λ ts. made_of what.Max (inside_at column_at ts))
    ∷ []

-- what stands behind the word of an aggregate
unfoldable pub aggregate_at : List ℕ → Spelled → ParseOf What
aggregate_at w ts = by_word aggregates w ts

-- a column or an aggregate, by whether a parenthesis is opened behind the word
unfoldable pub what_at : Spelled → ParseOf What
what_at [] = None
what_at (Name w ∷ ts) = cases_of (behind (is_mark mark.Left) ts) (made_of what.Column (column_at (Name w ∷ ts))) (λ inside. aggregate_at w ts)
what_at (Number n ∷ ts) = None
what_at (Text w ∷ ts) = None
what_at (Symbol m ∷ ts) = None

-- an item
unfoldable pub item_at : Spelled → ParseOf Item
item_at ts = made_of (λ (x : What × Option (List ℕ)). record { what = x.0; name = x.1 }) (then_at what_at (optional_at (codes "as") name_at) ts)

-- the way of a key
unfoldable pub way_at : Spelled → ParseOf Way
way_at ts = cases_of (behind (is_word (codes "asc")) ts) (cases_of (behind (is_word (codes "desc")) ts) (Some (Plain, ts)) (λ rest. Some (Desc, rest))) (λ rest. Some (Asc, rest))

-- a key of ORDER BY
unfoldable pub order_at : Spelled → ParseOf OrderKey
order_at ts = made_of (λ (x : ColumnName × Way). record { column = x.0; way = x.1 }) (then_at column_at way_at ts)

-- the parts of a SELECT
abbrev pub Parts : Type 0
Parts = List Item × (List (List ℕ) × (Option Cond × (List ColumnName × (List OrderKey × Option ℕ))))

abbrev pub of_parts : Parts → Select
of_parts x = record { items = x.0; tables = x.1.0; condition = x.1.1.0; groups = x.1.1.1.0; order = x.1.1.1.1.0; limit = x.1.1.1.1.1 }

-- GROUP BY, ORDER BY and LIMIT
unfoldable pub end_at : Spelled → ParseOf (List ColumnName × (List OrderKey × Option ℕ))
end_at ts = then_at (by_at (codes "group") column_at) (then_at (by_at (codes "order") order_at) (optional_at (codes "limit") limit_at)) ts

-- what stands behind SELECT
unfoldable pub select_at : Spelled → ParseOf Select
select_at ts = made_of of_parts (then_at (listed_at item_at) (then_at (after_at (codes "from") (listed_at name_at)) (then_at (optional_at (codes "where") condition_at) end_at)) ts)
