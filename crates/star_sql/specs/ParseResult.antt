-- Which statement some tokens are the spelling of, and when too many parentheses are open. Source: this project's own.
use Rattle.std.specs.Prelude.{◌≡◌, ℕ, ◌+◌, ◌<◌, Bool, true, false, ◌||◌, [], ◌∷◌, ◌++◌, nat_lt, IsTrue, count_by, if◌then◌else◌}
use Rattle.star_lex.specs.declared.token.TokenKind.{TokenKind}
use Rattle.star_lex.specs.declared.token.TokenKind.TheVariants as token
use Rattle.star_lex.specs.declared.token.Mark.TheVariants as mark
use Rattle.star_sql.specs.declared.ast.Statement.{Statement}
use Rattle.star_sql.specs.Spelling.{Spelled, spell}
use Rattle.star_sql.specs.WellFormed.{is_well_formed}
use Rattle.blink_base.specs.declared.limits.TheConstants.{MOST_OPEN}

-- whether a token opens a parenthesis
abbrev pub opens : TokenKind → Bool
opens (token.Symbol mark.Left) = true
opens _ = false

-- whether a token closes a parenthesis
abbrev pub closes : TokenKind → Bool
closes (token.Symbol mark.Right) = true
closes _ = false

-- one where the test passes, else none
abbrev pub counted : Bool → ℕ
counted b = if b then 1 else 0

-- whether more parentheses are open at once than may be, behind tokens that opened and closed so many
abbrev pub is_deep_from : ℕ → ℕ → Spelled → Bool
is_deep_from opened closed [] = false
is_deep_from opened closed (t ∷ ts) =
    nat_lt ((closed + counted (closes t)) + MOST_OPEN) (opened + counted (opens t))
    || is_deep_from (opened + counted (opens t)) (closed + counted (closes t)) ts

-- whether more parentheses are open at once than may be
abbrev pub is_deep : Spelled → Bool
is_deep kinds = is_deep_from 0 0 kinds

-- in some prefix a parenthesis is opened more than 32 times oftener than closed
pub record IsDeep (kinds : Spelled) : Type 0 where
  pub front : Spelled
  pub behind : Spelled
  pub parts : kinds ≡ front ++ behind
  pub deep : count_by closes front + MOST_OPEN < count_by opens front

-- The law that so many are open at once exactly where some prefix has them.
abbrev pub DepthByPrefixes : Type 0
DepthByPrefixes = (kinds : Spelled) → (is_deep kinds ≡ true → IsDeep kinds) × (IsDeep kinds → is_deep kinds ≡ true)

-- the kinds are the spelling of a well formed statement
pub record IsSpelled (kinds : Spelled) (s : Statement) : Type 0 where
  pub formed : IsTrue (is_well_formed s)
  pub spelled : spell s ≡ kinds

-- The law that two well formed statements with one spelling are equal.
abbrev pub SpelledOnce : Type 0
SpelledOnce = (s t : Statement) → IsTrue (is_well_formed s) → IsTrue (is_well_formed t) → spell s ≡ spell t → s ≡ t
