-- What is read as a column is spelled so, and what is spelled so is read again.
use Rattle.std.proofs.Common.{◌≡◌, ℕ, true, List, ◌∷◌, ◌++◌, Option, Some, None, refl, sym, ap, subst, ◌∙◌, inl, inr}
use Rattle.std.specs.Prelude.{IsTrue}
use Rattle.blink_base.specs.Identifiers.{is_name}
use Rattle.star_lex.specs.declared.token.TokenKind.TheVariants.{Name, Symbol}
use Rattle.star_lex.specs.declared.token.Mark.TheVariants as mark
use Rattle.star_sql.specs.declared.ast.ColumnName.{ColumnName}
use Rattle.star_sql.specs.Spelling.{Spelled, name_of, qualified, column_spelled}
use Rattle.star_sql.specs.WellFormed.{is_column_name}
use Rattle.star_sql.specs.Parsers.{◌>>=◌, is_mark, behind, name_at}
use Rattle.star_sql.specs.PredicateParsers.{column_behind, column_at}
use Rattle.star_sql.proofs.StepLemmas.{bind_some, cased, some_is}
use Rattle.std.proofs.lemmas.Bool.{and_parts, and_from}
use Rattle.star_sql.proofs.TokenLemmas.{Parses, mark_takes, name_takes, name_again}

abbrev TakesColumn : Spelled → ColumnName × Spelled → Type 0
TakesColumn ts x = IsTrue (is_column_name x.0) × (ts ≡ column_spelled x.0 ++ x.1)

behind_takes_column : (first : List ℕ) (ts : Spelled) (x : ColumnName × Spelled) → is_name first ≡ true → column_behind first ts ≡ Some x → TakesColumn (Name first ∷ ts) x
unfolding column_behind
behind_takes_column first ts x named e =
    elim (cased (behind (is_mark mark.Dot) ts) (Some (record { table = None; column = first }, ts)) (λ rest. name_at rest >>= λ second. Some (record { table = Some first; column = second.0 }, second.1)) (Some x) e) [
      | inl p ↦ subst (TakesColumn (Name first ∷ ts)) (some_is (record { table = None; column = first }, ts) x p.1) (named, refl)
      | inr p ↦
          let a = bind_some (name_at p.0) (λ second. Some (record { table = Some first; column = second.0 }, second.1)) x p.2 in
          let second = name_takes p.0 a.0 a.1 in
          let dot = mark_takes mark.Dot ts p.0 p.1 in
          subst (TakesColumn (Name first ∷ ts)) (some_is (record { table = Some first; column = a.0.0 }, a.0.1) x a.2) (and_from (is_name first) (is_name a.0.0) named second.0, ap (λ (s : Spelled). Name first ∷ s) (dot ∙ ap (λ (s : Spelled). Symbol mark.Dot ∷ s) second.1))
    ]

column_takes : (ts : Spelled) (x : ColumnName × Spelled) → column_at ts ≡ Some x → TakesColumn ts x
unfolding column_at
column_takes ts x e =
    let a = bind_some (name_at ts) (λ first. column_behind first.0 first.1) x e in
    let first = name_takes ts a.0 a.1 in
    subst (λ (s : Spelled). TakesColumn s x) (sym first.1) (behind_takes_column a.0.0 a.0.1 x first.0 a.2)

again_by : (table : Option (List ℕ)) (column : List ℕ) (rest : Spelled) → IsTrue (is_column_name (record { table = table; column = column })) → behind (is_mark mark.Dot) rest ≡ None
    → column_at (qualified table (name_of column) ++ rest) ≡ Some (record { table = table; column = column }, rest)
unfolding column_at column_behind behind
again_by None column rest formed ends = rw (name_again column rest formed, ends) refl
again_by (Some table) column rest formed ends =
    let f = and_parts (is_name table) (is_name column) formed in
    rw (name_again table (Symbol mark.Dot ∷ Name column ∷ rest) f.0, name_again column rest f.1) refl

pub columns : Parses column_at column_spelled is_column_name (is_mark mark.Dot)
columns = record { takes = column_takes; again = λ c rest formed ends. again_by c.table c.column rest formed ends }
