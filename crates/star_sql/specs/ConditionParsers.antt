-- Parsers of conditions. Source: this project's own.
use Rattle.std.specs.Prelude.{ℕ, zero, suc, List, length, None, codes}
use Rattle.star_lex.specs.Kinds.{is_word}
use Rattle.star_sql.specs.declared.ast.Primary.{Primary, Test, Group}
use Rattle.star_sql.specs.declared.ast.Conj.{Conj}
use Rattle.star_sql.specs.declared.ast.Cond.{Cond, roll-Cond}
use Rattle.star_sql.specs.Spelling.{Spelled}
use Rattle.star_sql.specs.Parsers.{ParseOf, cases_of, behind, made_of, inside_at, separated_at, is_mark}
use Rattle.star_sql.specs.PredicateParsers.{test_at}
use Rattle.star_lex.specs.declared.token.Mark.TheVariants as mark

-- a conjunction of these primaries, and a condition of these conjunctions
abbrev pub conj_of : List Primary → Conj
conj_of ps = record { all = ps }

abbrev pub cond_of : List Conj → Cond
cond_of cs = roll-Cond (record { any = cs })

-- a test, or what is read inside parentheses
unfoldable pub primary_at : (Spelled → ParseOf Cond) → Spelled → ParseOf Primary
primary_at inner ts = cases_of (behind (is_mark mark.Left) ts) (made_of Test (test_at ts)) (λ rest. made_of Group (inside_at inner ts))

-- primaries with AND between them
unfoldable pub conj_at : (Spelled → ParseOf Cond) → Spelled → ParseOf Conj
conj_at inner ts = made_of conj_of (separated_at (is_word (codes "and")) (primary_at inner) ts)

-- conjunctions with OR between them, with fewer than so many parentheses open at once
unfoldable pub cond_at : ℕ → Spelled → ParseOf Cond
cond_at zero ts = None
cond_at (suc n) ts = made_of cond_of (separated_at (is_word (codes "or")) (conj_at (cond_at n)) ts)

-- a condition
unfoldable pub condition_at : Spelled → ParseOf Cond
condition_at ts = cond_at (suc (length ts)) ts
