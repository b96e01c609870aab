-- Parsers of columns and tests. Source: this project's own.
use Rattle.std.specs.Prelude.{List, ℕ, [], ◌∷◌, Option, Some, None, codes}
use Rattle.blink_base.specs.declared.op.Op.{Op}
use Rattle.blink_base.specs.declared.op.Op.TheVariants as op
use Rattle.star_lex.specs.declared.token.TokenKind.TheVariants.{Name, Number, Text, Symbol}
use Rattle.star_lex.specs.declared.token.Mark.{Mark}
use Rattle.star_lex.specs.declared.token.Mark.TheVariants as mark
use Rattle.star_sql.specs.declared.ast.ColumnName.{ColumnName}
use Rattle.star_sql.specs.declared.ast.Literal.{Literal}
use Rattle.star_sql.specs.declared.ast.TestWords.{TestWords}
use Rattle.star_sql.specs.declared.ast.TestWords.TheVariants.{Compare, Columns, Between, Among, Like}
use Rattle.star_sql.specs.Spelling.{Spelled}
use Rattle.star_sql.specs.Parsers.{ParseOf, ◌>>=◌, cases_of, is_mark, behind, name_at, text_at, literal_at, made_of, then_at, after_at, enclosed_at, Form, by_word}

-- a column behind a first name
unfoldable pub column_behind : List ℕ → Spelled → ParseOf ColumnName
column_behind first ts = cases_of (behind (is_mark mark.Dot) ts) (Some (record { table = None; column = first }, ts)) (λ rest. name_at rest >>= λ second. Some (record { table = Some first; column = second.0 }, second.1))

-- a column
unfoldable pub column_at : Spelled → ParseOf ColumnName
column_at ts = name_at ts >>= λ first. column_behind first.0 first.1

-- the comparison that a mark says
abbrev pub op_of : Mark → Option Op
op_of mark.Equal = Some op.Equal
op_of mark.Unequal = Some op.Unequal
op_of mark.Less = Some op.Less
op_of mark.LessEqual = Some op.LessEqual
op_of mark.Greater = Some op.Greater
op_of mark.GreaterEqual = Some op.GreaterEqual
op_of _ = None

-- what a column is compared with: a literal, or else a column
unfoldable pub compared_at : ColumnName → Op → Spelled → ParseOf TestWords
compared_at c o ts = cases_of (literal_at ts) (made_of (Columns c o) (column_at ts)) (λ x. Some (Compare c o x.0, x.1))

-- two literals with AND between them
unfoldable pub bounds_at : Spelled → ParseOf (Literal × Literal)
bounds_at ts = then_at literal_at (after_at (codes "and") literal_at) ts

-- the tests of a column by their words
abbrev pub worded_tests : ColumnName → List (Form TestWords)
worded_tests c =
    (codes "between", λ ts. made_of (λ (x : Literal × Literal). Between c x.0 x.1) (bounds_at ts))
    ∷ (codes "in", λ ts. made_of (Among c) (enclosed_at literal_at ts))
    ∷ (codes "like", λ ts. made_of (Like c) (text_at ts))
    ∷ []

-- what stands behind the word of a test
unfoldable pub worded_at : ColumnName → List ℕ → Spelled → ParseOf TestWords
worded_at c w ts = by_word (worded_tests c) w ts

-- a test behind its column
unfoldable pub tested_at : ColumnName → Spelled → ParseOf TestWords
tested_at c [] = None
tested_at c (Name w ∷ ts) = worded_at c w ts
tested_at c (Number n ∷ ts) = None
tested_at c (Text w ∷ ts) = None
tested_at c (Symbol m ∷ ts) = op_of m >>= λ o. compared_at c o ts

-- a test
unfoldable pub test_at : Spelled → ParseOf TestWords
test_at ts = column_at ts >>= λ c. tested_at c.0 c.1
