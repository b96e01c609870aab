-- Worked spellings and depths. Source: this project's own.
use Rattle.std.specs.Prelude.{◌≡◌, pos, true, false, List, [], ◌∷◌, Some, Result, Ok, Err, codes}
use Rattle.std.specs.List.{repeat}
use Rattle.blink_base.specs.declared.value.Kind.TheVariants as kind
use Rattle.blink_base.specs.declared.op.Op.TheVariants as op
use Rattle.star_lex.specs.declared.token.Token.{Token}
use Rattle.star_lex.specs.declared.token.LexFault.{LexFault}
use Rattle.star_lex.specs.Lex.{lexed}
use Rattle.star_lex.specs.declared.token.TokenKind.TheVariants.{Name, Number, Text, Symbol}
use Rattle.star_lex.specs.declared.token.Mark.TheVariants as mark
use Rattle.star_lex.specs.Kinds.{kinds_of}
use Rattle.star_sql.specs.declared.ast.Literal.TheVariants as literal
use Rattle.star_sql.specs.declared.ast.Statement.{Statement}
use Rattle.star_sql.specs.declared.ast.Statement.TheVariants as statement
use Rattle.star_sql.specs.declared.ast.What.TheVariants as what
use Rattle.star_sql.specs.declared.ast.Expr.TheVariants.{Times}
use Rattle.star_sql.specs.declared.ast.Way.TheVariants.{Plain, Desc}
use Rattle.star_sql.specs.declared.ast.Primary.{Test}
use Rattle.star_sql.specs.declared.ast.TestWords.TheVariants.{Columns, Between, Among, Like}
use Rattle.star_sql.specs.StatementParts.{bare, dotted, item, number, any_of, all_of, group_of}
use Rattle.star_sql.specs.Spelling.{Spelled, spell}
use Rattle.star_sql.specs.WellFormed.{is_well_formed}
use Rattle.star_sql.specs.ParseResult.{is_deep}

-- CREATE TABLE date (date DATE, n INT PRIMARY KEY)
abbrev pub CreateSpelled : Type 0
CreateSpelled =
    spell (statement.Create (codes "date") (record { name = codes "date"; kind = kind.Date; key = false } ∷ record { name = codes "n"; kind = kind.Int; key = true } ∷ []))
    ≡ Name (codes "create") ∷ Name (codes "table") ∷ Name (codes "date") ∷ Symbol mark.Left
    ∷ Name (codes "date") ∷ Name (codes "date") ∷ Symbol mark.Comma
    ∷ Name (codes "n") ∷ Name (codes "int") ∷ Name (codes "primary") ∷ Name (codes "key") ∷ Symbol mark.Right ∷ []

-- INSERT INTO t VALUES (- 5), ('a')
abbrev pub InsertSpelled : Type 0
InsertSpelled =
    spell (statement.Insert (codes "t") ((literal.Number true (pos 5) ∷ []) ∷ (literal.Text (codes "a") ∷ []) ∷ []))
    ≡ Name (codes "insert") ∷ Name (codes "into") ∷ Name (codes "t") ∷ Name (codes "values")
    ∷ Symbol mark.Left ∷ Symbol mark.Minus ∷ Number (pos 5) ∷ Symbol mark.Right ∷ Symbol mark.Comma
    ∷ Symbol mark.Left ∷ Text (codes "a") ∷ Symbol mark.Right ∷ []

-- a statement with every part of SELECT
abbrev whole_select : Statement
whole_select = statement.Select (record {
  items = record { what = what.Sum (Times (dotted (codes "t") (codes "a")) (bare (codes "b"))); name = Some (codes "r") } ∷ item what.Count ∷ [];
  tables = codes "t" ∷ codes "u" ∷ [];
  condition = Some (any_of (
      (Test (Columns (bare (codes "a")) op.Equal (bare (codes "k"))) ∷ group_of (all_of (Test (Between (bare (codes "b")) (number 1) (literal.Number true (pos 2))) ∷ [])) ∷ [])
      ∷ (Test (Among (bare (codes "c")) (literal.Text (codes "x") ∷ literal.Date (codes "2024-01-01") ∷ [])) ∷ []) ∷ (Test (Like (bare (codes "c")) (codes "p%")) ∷ []) ∷ []));
  groups = bare (codes "a") ∷ [];
  order = record { column = bare (codes "r"); way = Desc } ∷ record { column = bare (codes "a"); way = Plain } ∷ [];
  limit = Some 5;
})

-- what the tokens of a text say, where it has tokens
abbrev kinds_if : Result (List Token) LexFault → Spelled
kinds_if (Ok tokens) = kinds_of tokens
kinds_if (Err fault) = []

-- it is well formed, and spelled as its text
abbrev pub SelectSpelled : Type 0
SelectSpelled =
    (spell whole_select ≡ kinds_if (lexed (codes "SELECT SUM(t.a*b) AS r, COUNT(*) FROM t, u WHERE a = k AND (b BETWEEN 1 AND -2) OR c IN ('x', DATE '2024-01-01') OR c LIKE 'p%' GROUP BY a ORDER BY r DESC, a LIMIT 5")))
    × (is_well_formed whole_select ≡ true)

-- a list without members and a reserved word as a name aren't well formed
abbrev pub FormsRefused : Type 0
FormsRefused =
    (is_well_formed (statement.Insert (codes "t") []) ≡ false)
    × (is_well_formed (statement.Insert (codes "t") ([] ∷ [])) ≡ false)
    × (is_well_formed (statement.Drop (codes "order")) ≡ false)
    × (is_well_formed (statement.Drop (codes "table")) ≡ true)

-- 32 parentheses may be open, and 33 may not
abbrev pub DepthsCounted : Type 0
DepthsCounted =
    (is_deep (repeat 32 (Symbol mark.Left ∷ [])) ≡ false)
    × (is_deep (repeat 33 (Symbol mark.Left ∷ [])) ≡ true)
    × (is_deep (Symbol mark.Right ∷ repeat 33 (Symbol mark.Left ∷ [])) ≡ false)
