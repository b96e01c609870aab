-- What is behind a token, by what stands first.
use Rattle.std.proofs.Common.{◌≡◌, Bool, true, false, [], ◌∷◌, Some, None, drop, refl}
use Rattle.star_lex.specs.declared.token.TokenKind.{TokenKind}
use Rattle.star_lex.specs.declared.token.TokenKind.TheVariants.{Name, Number, Text, Symbol}
use Rattle.star_lex.specs.declared.token.Mark.TheVariants as mark
use Rattle.star_lex.specs.Kinds.{begins_with}
use Rattle.star_sql.specs.Spelling.{Spelled}
use Rattle.star_sql.specs.declared.ast.What.TheVariants as what
use Rattle.star_sql.specs.Parsers.{is_mark, behind, name_at, made_of}
use Rattle.star_sql.specs.PredicateParsers.{column_at}
use Rattle.star_sql.specs.QueryParsers.{what_at}

-- a token that passes the test stands first
pub begun : (test : TokenKind → Bool) (ts : Spelled) → begins_with test ts ≡ true → behind test ts ≡ Some (drop 1 ts)
unfolding behind
begun test [] e = absurd cc
begun test (t ∷ ts) e = rw e refl

-- none does
pub not_begun : (test : TokenKind → Bool) (ts : Spelled) → begins_with test ts ≡ false → behind test ts ≡ None
unfolding behind
not_begun test [] e = refl
not_begun test (t ∷ ts) e = rw e refl

-- an item behind whose first token no parenthesis is opened is a column
pub what_plain : (ts : Spelled) → behind (is_mark mark.Left) (drop 1 ts) ≡ None → what_at ts ≡ made_of what.Column (column_at ts)
unfolding what_at column_at name_at
what_plain [] e = refl
what_plain (Name w ∷ ts) e = rw e refl
what_plain (Number n ∷ ts) e = refl
what_plain (Text w ∷ ts) e = refl
what_plain (Symbol m ∷ ts) e = refl
