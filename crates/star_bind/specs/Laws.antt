-- Laws of bound queries: conjunctions are the condition, and a star keeps at most one combination per row of its fact. Source: this project's own.
use Rattle.std.specs.Prelude.{◌≡◌, ◌==◌, not, ℕ, pos, Bool, true, false, ◌&&◌, List, [], ◌∷◌, map, filter, filter_map, find, length, nat_lt, Option, Some, None, slice_get, slice_index_or, IsTrue}
use Rattle.std.specs.List.{list_any, list_all, zip}
use Rattle.std.specs.Option.{option_and_then}
use Rattle.blink_base.specs.declared.value.Value.{Value}
use Rattle.blink_base.specs.declared.value.Value.TheVariants.{Int}
use Rattle.blink_base.specs.Values.{Row, same_value}
use Rattle.blink_base.specs.RowFits.{fits}
use Rattle.blink_lists.specs.Lists.{all_true, any_true, numbered, are_distinct}
use Rattle.blink_lists.specs.Products.{all_there}
use Rattle.blink_lists.specs.Rearrangement.{Rearranged}
use Rattle.std.specs.Option.{option_map_or}
use Rattle.star_sql.specs.declared.ast.TestWords.{TestWords}
use Rattle.star_sql.specs.declared.ast.Primary.{Primary}
use Rattle.star_sql.specs.declared.ast.Select.{Select}
use Rattle.star_sql.specs.Conditions.{of_prim}
use Rattle.star_sql.specs.Literals.{column_of}
use Rattle.star_meaning.specs.Names.{Scope, FromEntry, Combination, place_of}
use Rattle.star_sql.specs.declared.ast.Cond.{Cond}
use Rattle.star_meaning.specs.Truth.{words_hold, is_true, kept}
use Rattle.star_bind.specs.declared.query.ColumnTest.{ColumnTest}
use Rattle.star_bind.specs.declared.query.Conjunction.{Conjunction}
use Rattle.star_bind.specs.declared.query.Tie.{Tie}
use Rattle.star_bind.specs.declared.query.Query.{Query}
use Rattle.star_bind.specs.StarForm.{compares_columns}
use Rattle.star_bind.specs.Factors.{factors, tests_in}
use Rattle.star_bind.specs.Conjunctions.{factor_subtree, passes_test, filters_of, table_conjunctions, passes}
use Rattle.star_bind.specs.BoundQuery.{Schemas, scope_of, scope_refusal, first_refusal, query_of}

-- whether a test is of one column, and of this table where its name means a column
abbrev pub is_of_table : Scope → ℕ → TestWords → Bool
is_of_table scope table words = not (compares_columns words) && option_map_or (λ p. p.table == table) (place_of scope (column_of words)) true

-- whether a factor is true of a combination
abbrev pub factor_holds : Scope → Combination → Primary → Bool
factor_holds scope rows factor = of_prim (words_hold scope rows) (λ b. b) all_true any_true factor

-- The law that a factor whose tests are all of one table is true of a row exactly where the row passes some conjunction.
abbrev pub FactorsMeet : Type 0
FactorsMeet =
    (scope : Scope) (rows : Combination) (table : ℕ) (factor : Primary) → list_all (is_of_table scope table) (tests_in factor) ≡ true
    → list_any (list_all (passes_test (slice_index_or rows table []))) (factor_subtree scope factor).conjunctions ≡ factor_holds scope rows factor

-- The law that, in a query that is accepted, a row makes its table's condition true exactly where it passes all tests of some conjunction.
abbrev pub ConjunctionsAreCondition : Type 0
ConjunctionsAreCondition =
    (schemas : Schemas) (s : Select) (rows : Combination) (table : ℕ) → first_refusal schemas s ≡ None
    → list_any (passes (slice_index_or rows table [])) (table_conjunctions (scope_of schemas s) s table)
    ≡ list_all (factor_holds (scope_of schemas s) rows) (filters_of (scope_of schemas s) s table)

-- The law that a whole WHERE is the AND of its factors.
abbrev pub FactorsAreCondition : Type 0
FactorsAreCondition = (scope : Scope) (cond : Cond) (rows : Combination) → is_true scope cond rows ≡ list_all (factor_holds scope rows) (factors (Some cond))

-- The law that a query of one table that is accepted keeps the rows that pass some conjunction.
abbrev pub KeptByConjunctions : Type 0
KeptByConjunctions =
    (entry : FromEntry) (s : Select) (rows : List Row) → scope_refusal (entry ∷ []) s ≡ None
    → kept (entry ∷ []) s.condition (rows ∷ []) ≡ map (λ row. row ∷ []) (filter (λ row. list_any (passes row) (table_conjunctions (entry ∷ []) s 0)) rows)

-- The law that the conjunctions of a query of one table name columns of the table.
abbrev pub NamesColumns : Type 0
NamesColumns = (entry : FromEntry) (s : Select) → list_all (λ (c : Conjunction). list_all (λ (t : ColumnTest). nat_lt t.column (length entry.schema.columns)) c.tests) (table_conjunctions (entry ∷ []) s 0) ≡ true

-- the value of a row in a column
abbrev pub value_in : Row → ℕ → Value
value_in row column = slice_index_or row column (Int (pos 0))

-- the first row of a dimension whose key is the value of the fact's row in a tied column
abbrev pub row_of_key : Option ℕ → List Row → Value → Option Row
row_of_key None rows v = None
row_of_key (Some key) rows v = find (λ row. same_value (value_in row key) v) rows

-- the tie of a dimension
abbrev pub tie_of : Query → ℕ → Option Tie
tie_of query table = find (λ t. t.dimension == table) query.ties

-- the dimension row whose key is the value in the tied column
abbrev pub tied_row : FromEntry × List Row → Row → Tie → Option Row
tied_row (entry, rows) row tie = row_of_key entry.schema.key rows (value_in row tie.column)

-- the row that a table gives beside a row of the fact: that row itself, or the one of its tie
abbrev pub row_beside : Query → Row → ℕ × (FromEntry × List Row) → Option Row
row_beside query row (table, entry) = elim (table == query.fact) [ true ↦ Some row | false ↦ option_and_then (tied_row entry row) (tie_of query table) ]

-- the one combination of a row of the fact
abbrev pub combination_of : Query → Scope → List (List Row) → Row → Option Combination
combination_of query scope tables row = all_there (map (row_beside query row) (numbered (zip scope tables)))

-- rows that the tables of a query may hold: they fit, and keys are distinct
abbrev pub has_own_keys : Option ℕ → List Row → Bool
has_own_keys None rows = true
has_own_keys (Some key) rows = are_distinct same_value (map (λ row. value_in row key) rows)

-- whether a table may hold rows: they fit, and its keys are distinct
abbrev pub may_hold : FromEntry × List Row → Bool
may_hold (entry, rows) = list_all (fits entry.schema) rows && has_own_keys entry.schema.key rows

-- the combination, where the whole WHERE is true of it
abbrev pub if_kept : Scope → Select → Combination → Option Combination
if_kept scope s rows = slice_get (kept scope s.condition (map (λ row. row ∷ []) rows)) 0

-- The law that, in a query that is accepted, over rows that its tables may hold, each row of the fact is kept at most once: beside the rows of its ties.
abbrev pub KeptPerFactRow : Type 0
KeptPerFactRow =
    (schemas : Schemas) (s : Select) (tables : List (List Row)) → first_refusal schemas s ≡ None → length tables ≡ length s.tables
    → IsTrue (list_all may_hold (zip (scope_of schemas s) tables))
    → Rearranged (kept (scope_of schemas s) s.condition tables)
    (filter_map (λ row. option_and_then (if_kept (scope_of schemas s) s) (combination_of (query_of schemas s) (scope_of schemas s) tables row))
    (slice_index_or tables (query_of schemas s).fact []))
