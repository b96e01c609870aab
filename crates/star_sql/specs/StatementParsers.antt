-- The parser of a statement. Source: this project's own.
use Rattle.std.specs.Prelude.{ℕ, Bool, List, [], ◌∷◌, Option, Some, None, codes}
use Rattle.blink_base.specs.declared.value.Kind.{Kind}
use Rattle.star_lex.specs.declared.token.TokenKind.TheVariants.{Name, Number, Text, Symbol}
use Rattle.star_sql.specs.declared.ast.ColumnDef.{ColumnDef}
use Rattle.star_sql.specs.declared.ast.Literal.{Literal}
use Rattle.star_sql.specs.declared.ast.Statement.{Statement}
use Rattle.star_sql.specs.declared.ast.Statement.TheVariants as statement
use Rattle.star_sql.specs.Spelling.{Spelled}
use Rattle.star_sql.specs.Parsers.{ParseOf, name_at, text_at, literal_at, kind_at, key_at, made_of, then_at, after_at, listed_at, enclosed_at, Form, by_word}
use Rattle.star_sql.specs.QueryParsers.{select_at}

-- a column of CREATE
unfoldable pub definition_at : Spelled → ParseOf ColumnDef
definition_at ts = made_of (λ (x : List ℕ × (Kind × Bool)). record { name = x.0; kind = x.1.0; key = x.1.1 }) (then_at name_at (then_at kind_at key_at) ts)

-- a word and a name
unfoldable pub named_at : List ℕ → Spelled → ParseOf (List ℕ)
named_at word ts = after_at word name_at ts

-- a word and a name, and behind them a word and a text
unfoldable pub filed_at : List ℕ → List ℕ → Spelled → ParseOf (List ℕ × List ℕ)
filed_at first second ts = then_at (named_at first) (after_at second text_at) ts

-- what stands behind CREATE
unfoldable pub create_at : Spelled → ParseOf (List ℕ × List ColumnDef)
create_at ts = then_at (named_at (codes "table")) (enclosed_at definition_at) ts

-- what stands behind INSERT
unfoldable pub insert_at : Spelled → ParseOf (List ℕ × List (List Literal))
insert_at ts = then_at (named_at (codes "into")) (after_at (codes "values") (listed_at (enclosed_at literal_at))) ts

-- a statement of two parts
abbrev pub of_both : {A B : Type 0} → (A → B → Statement) → A × B → Statement
of_both make x = make x.0 x.1

-- the statements by their first words
abbrev pub forms : List (Form Statement)
forms =
    (codes "create", λ ts. made_of (of_both statement.Create) (create_at ts))
    ∷ (codes "drop", λ ts. made_of statement.Drop (named_at (codes "table") ts))
    ∷ (codes "load", λ ts. made_of (of_both statement.Load) (filed_at (codes "into") (codes "from") ts))
    ∷ (codes "append", λ ts. made_of (of_both statement.Append) (filed_at (codes "into") (codes "from") ts))
    ∷ (codes "insert", λ ts. made_of (of_both statement.Insert) (insert_at ts))
    ∷ (codes "reorganize", λ ts. made_of statement.Reorganize (named_at (codes "table") ts))
    ∷ (codes "select", λ ts. made_of statement.Select (select_at ts))
    ∷ (codes "describe", λ ts. made_of statement.Describe (name_at ts))
    ∷ (codes "explain", λ ts. made_of statement.Explain (after_at (codes "select") select_at ts))
    ∷ (codes "export", λ ts. made_of (of_both statement.Export) (filed_at (codes "table") (codes "to") ts))
    ∷ (codes "import", λ ts. made_of (of_both statement.Import) (filed_at (codes "table") (codes "from") ts))
    ∷ []

-- what stands behind the first word of a statement
unfoldable pub behind_word : List ℕ → Spelled → ParseOf Statement
behind_word w ts = by_word forms w ts

-- a statement
unfoldable pub statement_at : Spelled → ParseOf Statement
statement_at [] = None
statement_at (Name w ∷ ts) = behind_word w ts
statement_at (Number n ∷ ts) = None
statement_at (Text w ∷ ts) = None
statement_at (Symbol m ∷ ts) = None

-- what was read, where nothing is behind it
abbrev pub alone : ParseOf Statement → Option Statement
alone None = None
alone (Some (s, [])) = Some s
alone (Some (s, t ∷ ts)) = None

-- the statement that all of the tokens are
unfoldable pub whole : Spelled → Option Statement
whole ts = alone (statement_at ts)
