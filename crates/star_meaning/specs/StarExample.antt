-- A worked star query, as a fact that computes. Source: ISO/IEC 9075 for the answer; the orders are after the star schema benchmark (O'Neil et al., 2009).
use Rattle.std.specs.Prelude.{◌≡◌, List, [], ◌∷◌, codes, Some, None, refl}
use Rattle.blink_base.specs.declared.op.Op.TheVariants as op
use Rattle.blink_base.specs.Values.{Row}
use Rattle.star_sql.specs.declared.ast.What.TheVariants as what
use Rattle.star_sql.specs.declared.ast.Expr.TheVariants.{Times}
use Rattle.star_sql.specs.declared.ast.Primary.{Test}
use Rattle.star_sql.specs.declared.ast.TestWords.TheVariants.{Compare, Columns, Between}
use Rattle.star_sql.specs.declared.ast.Select.{Select}
use Rattle.star_sql.specs.StatementParts.{bare, number, all_of}
use Rattle.star_meaning.specs.Names.{Scope}
use Rattle.star_meaning.specs.Answer.{answer, lines}
use Rattle.star_meaning.specs.Queries.{int_table, int_rows, int_lines, called, query_where}

-- six orders and three days
abbrev pub orders : Scope
orders =
    int_table (codes "lineorder") (codes "lo_orderkey" ∷ codes "lo_orderdate" ∷ codes "lo_quantity" ∷ codes "lo_extendedprice" ∷ codes "lo_discount" ∷ []) None
    ∷ int_table (codes "date") (codes "d_datekey" ∷ codes "d_year" ∷ []) (Some 0) ∷ []

abbrev pub order_rows : List (List Row)
order_rows =
    int_rows ((1 ∷ 19930101 ∷ 10 ∷ 1000 ∷ 2 ∷ []) ∷ (2 ∷ 19930615 ∷ 24 ∷ 500 ∷ 3 ∷ []) ∷ (3 ∷ 19930615 ∷ 25 ∷ 700 ∷ 1 ∷ []) ∷ (4 ∷ 19940101 ∷ 5 ∷ 900 ∷ 2 ∷ []) ∷ (5 ∷ 19930101 ∷ 1 ∷ 100 ∷ 4 ∷ []) ∷ (6 ∷ 19930101 ∷ 24 ∷ 200 ∷ 1 ∷ []) ∷ [])
    ∷ int_rows ((19930101 ∷ 1993 ∷ []) ∷ (19930615 ∷ 1993 ∷ []) ∷ (19940101 ∷ 1994 ∷ []) ∷ []) ∷ []

-- SELECT SUM(lo_extendedprice*lo_discount) AS revenue FROM lineorder, date WHERE lo_orderdate = d_datekey AND d_year = 1993 AND lo_discount BETWEEN 1 AND 3 AND lo_quantity < 25
abbrev pub revenue : Select
revenue = query_where (called (what.Sum (Times (bare (codes "lo_extendedprice")) (bare (codes "lo_discount")))) (codes "revenue") ∷ []) (codes "lineorder" ∷ codes "date" ∷ [])
    (all_of (Test (Columns (bare (codes "lo_orderdate")) op.Equal (bare (codes "d_datekey"))) ∷ Test (Compare (bare (codes "d_year")) op.Equal (number 1993))
    ∷ Test (Between (bare (codes "lo_discount")) (number 1) (number 3)) ∷ Test (Compare (bare (codes "lo_quantity")) op.Less (number 25)) ∷ []))

-- three of the orders count: 2000, 1500 and 200
abbrev pub RevenueSummed : Type 0
RevenueSummed = answer orders revenue order_rows ≡ record { names = codes "revenue" ∷ []; lines = int_lines ((3700 ∷ []) ∷ []) }

pub revenue_summed_lem : RevenueSummed
unfolding answer lines
revenue_summed_lem = refl
