-- What is read as an item of SELECT or a key of ORDER BY is spelled so, and what is spelled so is read again.
use Rattle.std.proofs.Common.{◌≡◌, ℕ, Bool, true, false, ◌&&◌, ◌||◌, List, [], ◌∷◌, ◌++◌, Option, Some, None, refl, sym, ap, subst, ◌∙◌, append_assoc, inl, inr}
use Rattle.std.specs.Prelude.{IsTrue, codes}
use Rattle.star_lex.specs.declared.token.TokenKind.{TokenKind}
use Rattle.star_lex.specs.declared.token.TokenKind.TheVariants.{Name, Number, Text, Symbol}
use Rattle.star_lex.specs.declared.token.Mark.{Mark}
use Rattle.star_lex.specs.declared.token.Mark.TheVariants as mark
use Rattle.star_lex.specs.Kinds.{is_word}
use Rattle.star_sql.specs.declared.ast.ColumnName.{ColumnName}
use Rattle.star_sql.specs.declared.ast.Way.{Way}
use Rattle.star_sql.specs.declared.ast.Way.TheVariants.{Plain, Asc, Desc}
use Rattle.star_sql.specs.declared.ast.Expr.{Expr}
use Rattle.star_sql.specs.declared.ast.Expr.TheVariants.{One, Times, Plus, Minus}
use Rattle.star_sql.specs.declared.ast.What.{What}
use Rattle.star_sql.specs.declared.ast.What.TheVariants as what
use Rattle.star_sql.specs.Spelling.{Spelled, name_of, mark_of, qualified, column_spelled, expr_spelled, what_spelled, item_spelled, way_spelled, order_spelled}
use Rattle.star_sql.specs.WellFormed.{is_column_name, is_expr, is_what, is_item, is_order_key}
use Rattle.star_sql.specs.Parsers.{ParseOf, cases_of, is_mark, behind, made_of}
use Rattle.star_sql.specs.PredicateParsers.{column_at}
use Rattle.star_sql.specs.QueryParsers.{joined_by, joined_at, expr_at, star_at, aggregates, aggregate_at, what_at, item_at, way_at, order_at}
use Rattle.star_sql.proofs.StepLemmas.{bind_some, cased, some_is}
use Rattle.std.proofs.lemmas.Bool.{and_parts, and_from}
use Rattle.std.proofs.Math.Bool.{and-true}
use Rattle.star_sql.proofs.TokenLemmas.{Parses, none_further, never_behind, behind_either, mark_takes, word_takes, names}
use Rattle.star_sql.proofs.CombinatorLemmas.{Passes, passes_some, both, made, optionals, insides, by_word_takes, AllTake, form}
use Rattle.star_sql.proofs.ColumnLemmas.{columns}

-- ---- expressions

-- whether a token joins two columns
abbrev is_joint : TokenKind → Bool
is_joint t = is_mark mark.Star t || (is_mark mark.Plus t || is_mark mark.Minus t)

-- what a mark that joins makes
record Joins (m : Mark) (make : ColumnName → ColumnName → Expr) : Type 0 where
  formed : (a b : ColumnName) → is_expr (make a b) ≡ (is_column_name a && is_column_name b)
  spelled : (a b : ColumnName) → expr_spelled (make a b) ≡ (column_spelled a ++ Symbol m ∷ []) ++ column_spelled b

times : Joins mark.Star Times
times = record { formed = λ a b. refl; spelled = λ a b. refl }

plus : Joins mark.Plus Plus
plus = record { formed = λ a b. refl; spelled = λ a b. refl }

minus : Joins mark.Minus Minus
minus = record { formed = λ a b. refl; spelled = λ a b. refl }

regrouped : (a : Spelled) (t : TokenKind) (b rest : Spelled) → ((a ++ t ∷ []) ++ b) ++ rest ≡ a ++ t ∷ (b ++ rest)
regrouped a t b rest = ap (λ (s : Spelled). s ++ rest) (append_assoc a (t ∷ []) b) ∙ append_assoc a (t ∷ b) rest

abbrev TakesExpr : Spelled → Expr × Spelled → Type 0
TakesExpr ts x = IsTrue (is_expr x.0) × (ts ≡ expr_spelled x.0 ++ x.1)

joint_takes : (a : ColumnName) (m : Mark) (make : ColumnName → ColumnName → Expr) (otherwise : ParseOf Expr) (ts : Spelled) (x : Expr × Spelled) → is_column_name a ≡ true → Joins m make
    → (otherwise ≡ Some x → TakesExpr (column_spelled a ++ ts) x) → joined_by a m make otherwise ts ≡ Some x → TakesExpr (column_spelled a ++ ts) x
joint_takes a m make otherwise ts x f joins else_takes e =
    elim (cased (behind (is_mark m) ts) otherwise (λ rest. made_of (make a) (column_at rest)) (Some x) e) [
      | inl p ↦ else_takes p.1
      | inr p ↦
          let b = bind_some (column_at p.0) (λ c. Some (make a c.0, c.1)) x p.2 in
          let c = columns.takes p.0 b.0 b.1 in
          let whole : ts ≡ Symbol m ∷ (column_spelled b.0.0 ++ b.0.1) = mark_takes m ts p.0 p.1 ∙ ap (λ (s : Spelled). Symbol m ∷ s) c.1 in
          let parts : column_spelled a ++ ts ≡ expr_spelled (make a b.0.0) ++ b.0.1 = ap (λ (s : Spelled). column_spelled a ++ s) whole ∙ sym (regrouped (column_spelled a) (Symbol m) (column_spelled b.0.0) b.0.1) ∙ ap (λ (s : Spelled). s ++ b.0.1) (sym (joins.spelled a b.0.0)) in
          subst (TakesExpr (column_spelled a ++ ts)) (some_is (make a b.0.0, b.0.1) x b.2) (joins.formed a b.0.0 ∙ and_from (is_column_name a) (is_column_name b.0.0) f c.0, parts)
    ]

joined_takes : (a : ColumnName) (ts : Spelled) (x : Expr × Spelled) → is_column_name a ≡ true → joined_at a ts ≡ Some x → TakesExpr (column_spelled a ++ ts) x
unfolding joined_at
joined_takes a ts x f e =
    let last : ParseOf Expr = joined_by a mark.Minus Minus (Some (One a, ts)) ts in
    joint_takes a mark.Star Times (joined_by a mark.Plus Plus last ts) ts x f times
    (joint_takes a mark.Plus Plus last ts x f plus
    (joint_takes a mark.Minus Minus (Some (One a, ts)) ts x f minus (λ one. subst (TakesExpr (column_spelled a ++ ts)) (some_is (One a, ts) x one) (f, refl))))
    e

expr_takes : (ts : Spelled) (x : Expr × Spelled) → expr_at ts ≡ Some x → TakesExpr ts x
unfolding expr_at
expr_takes ts x e =
    let a = bind_some (column_at ts) (λ a. joined_at a.0 a.1) x e in
    let c = columns.takes ts a.0 a.1 in
    subst (λ (s : Spelled). TakesExpr s x) (sym c.1) (joined_takes a.0.0 a.0.1 x c.0 a.2)

one_again : (a : ColumnName) (rest : Spelled) → behind is_joint rest ≡ None → joined_at a rest ≡ Some (One a, rest)
unfolding joined_at
one_again a rest e =
    let star = behind_either (is_mark mark.Star) (λ t. is_mark mark.Plus t || is_mark mark.Minus t) rest e in
    let others = behind_either (is_mark mark.Plus) (is_mark mark.Minus) rest star.1 in
    rw (star.0, others.0, others.1) refl

times_again : (a : ColumnName) (ts : Spelled) → joined_at a (Symbol mark.Star ∷ ts) ≡ made_of (Times a) (column_at ts)
unfolding joined_at behind
times_again a ts = refl

plus_again : (a : ColumnName) (ts : Spelled) → joined_at a (Symbol mark.Plus ∷ ts) ≡ made_of (Plus a) (column_at ts)
unfolding joined_at behind
plus_again a ts = refl

minus_again : (a : ColumnName) (ts : Spelled) → joined_at a (Symbol mark.Minus ∷ ts) ≡ made_of (Minus a) (column_at ts)
unfolding joined_at behind
minus_again a ts = refl

two_again : (m : Mark) (make : ColumnName → ColumnName → Expr) (a b : ColumnName) (rest : Spelled) → ((ts : Spelled) → joined_at a (Symbol m ∷ ts) ≡ made_of (make a) (column_at ts)) → is_mark mark.Dot (Symbol m) ≡ false
    → IsTrue (is_column_name a && is_column_name b) → behind (is_mark mark.Dot) rest ≡ None → expr_at (((column_spelled a ++ Symbol m ∷ []) ++ column_spelled b) ++ rest) ≡ Some (make a b, rest)
unfolding expr_at behind
two_again m make a b rest joint no_dot formed ends =
    let f = and_parts (is_column_name a) (is_column_name b) formed in
    let dot : behind (is_mark mark.Dot) (Symbol m ∷ (column_spelled b ++ rest)) ≡ None = rw no_dot refl in
    let first = columns.again a (Symbol m ∷ (column_spelled b ++ rest)) f.0 dot in
    ap expr_at (regrouped (column_spelled a) (Symbol m) (column_spelled b) rest) ∙ rw (first, joint (column_spelled b ++ rest), columns.again b rest f.1 ends) refl

expr_again : (e : Expr) (rest : Spelled) → IsTrue (is_expr e) → behind (λ t. is_mark mark.Dot t || is_joint t) rest ≡ None → expr_at (expr_spelled e ++ rest) ≡ Some (e, rest)
unfolding expr_at
expr_again (One a) rest formed ends =
    let g = behind_either (is_mark mark.Dot) is_joint rest ends in
    rw (columns.again a rest formed g.0) (one_again a rest g.1)
expr_again (Times a b) rest formed ends = two_again mark.Star Times a b rest (times_again a) refl formed (behind_either (is_mark mark.Dot) is_joint rest ends).0
expr_again (Plus a b) rest formed ends = two_again mark.Plus Plus a b rest (plus_again a) refl formed (behind_either (is_mark mark.Dot) is_joint rest ends).0
expr_again (Minus a b) rest formed ends = two_again mark.Minus Minus a b rest (minus_again a) refl formed (behind_either (is_mark mark.Dot) is_joint rest ends).0

exprs : Parses expr_at expr_spelled is_expr (λ t. is_mark mark.Dot t || is_joint t)
exprs = record { takes = expr_takes; again = expr_again }

-- ---- columns and aggregates

abbrev star_spelled : Unit {0} → Spelled
star_spelled u = mark_of mark.Star

abbrev is_star_there : Unit {0} → Bool
is_star_there u = true

star_takes : (ts : Spelled) (x : Unit {0} × Spelled) → star_at ts ≡ Some x → IsTrue (is_star_there x.0) × (ts ≡ star_spelled x.0 ++ x.1)
unfolding star_at
star_takes ts x e =
    let a = bind_some (behind (is_mark mark.Star) ts) (λ rest. Some (tt, rest)) x e in
    (refl, mark_takes mark.Star ts a.0 a.1 ∙ ap (λ (y : Unit {0} × Spelled). Symbol mark.Star ∷ y.1) (some_is (tt, a.0) x a.2))

star_again : (u : Unit {0}) (rest : Spelled) → IsTrue (is_star_there u) → behind none_further rest ≡ None → star_at (star_spelled u ++ rest) ≡ Some (u, rest)
unfolding star_at behind
star_again u rest formed ends = refl

stars : Parses star_at star_spelled is_star_there none_further
stars = record { takes = star_takes; again = star_again }

abbrev TakesWhat : Spelled → What × Spelled → Type 0
TakesWhat ts x = IsTrue (is_what x.0) × (ts ≡ what_spelled x.0 ++ x.1)

aggregates_take : AllTake TakesWhat aggregates
aggregates_take = (
  form TakesWhat (insides stars refl) (codes "count") (λ u. what.Count) (λ u rest f. (refl, refl)),
  (
    form TakesWhat (insides exprs refl) (codes "sum") what.Sum (λ e rest f. (f, refl)),
    (
      form TakesWhat (insides exprs refl) (codes "avg") what.Avg (λ e rest f. (f, refl)),
      (
        form TakesWhat (insides columns refl) (codes "min") what.Min (λ c rest f. (f, refl)),
        (form TakesWhat (insides columns refl) (codes "max") what.Max (λ c rest f. (f, refl)), tt),
      ),
    ),
  ),
)

what_takes : (ts : Spelled) (x : What × Spelled) → what_at ts ≡ Some x → TakesWhat ts x
unfolding what_at aggregate_at
what_takes [] x e = absurd cc
what_takes (Name w ∷ ts) x e =
    elim (cased (behind (is_mark mark.Left) ts) (made_of what.Column (column_at (Name w ∷ ts))) (λ inside. aggregate_at w ts) (Some x) e) [
      | inl p ↦
          let a = bind_some (column_at (Name w ∷ ts)) (λ c. Some (what.Column c.0, c.1)) x p.1 in
          subst (TakesWhat (Name w ∷ ts)) (some_is (what.Column a.0.0, a.0.1) x a.2) (columns.takes (Name w ∷ ts) a.0 a.1)
      | inr p ↦ by_word_takes TakesWhat aggregates w ts x aggregates_take p.2
    ]
what_takes (Number n ∷ ts) x e = absurd cc
what_takes (Text w ∷ ts) x e = absurd cc
what_takes (Symbol m ∷ ts) x e = absurd cc

-- what a column or an aggregate may be read on with
abbrev what_goes_on : TokenKind → Bool
what_goes_on t = is_mark mark.Dot t || is_mark mark.Left t

column_again : (table : Option (List ℕ)) (column : List ℕ) (rest : Spelled) → IsTrue (is_column_name (record { table = table; column = column })) → behind what_goes_on rest ≡ None
    → what_at (qualified table (name_of column) ++ rest) ≡ Some (what.Column (record { table = table; column = column }), rest)
unfolding what_at behind
column_again None column rest formed ends =
    let g = behind_either (is_mark mark.Dot) (is_mark mark.Left) rest ends in
    rw (g.1, columns.again (record { table = None; column = column }) rest formed g.0) refl
column_again (Some table) column rest formed ends =
    rw (columns.again (record { table = Some table; column = column }) rest formed (behind_either (is_mark mark.Dot) (is_mark mark.Left) rest ends).0) refl

what_again : (w : What) (rest : Spelled) → IsTrue (is_what w) → behind what_goes_on rest ≡ None → what_at (what_spelled w ++ rest) ≡ Some (w, rest)
unfolding what_at aggregate_at behind
what_again (what.Column c) rest formed ends = column_again c.table c.column rest formed ends
what_again what.Count rest formed ends = rw ((insides stars refl).again tt rest refl (never_behind rest)) refl
what_again (what.Sum e) rest formed ends = rw ((insides exprs refl).again e rest formed (never_behind rest)) refl
what_again (what.Avg e) rest formed ends = rw ((insides exprs refl).again e rest formed (never_behind rest)) refl
what_again (what.Min c) rest formed ends = rw ((insides columns refl).again c rest formed (never_behind rest)) refl
what_again (what.Max c) rest formed ends = rw ((insides columns refl).again c rest formed (never_behind rest)) refl

whats : Parses what_at what_spelled is_what what_goes_on
whats = record { takes = what_takes; again = what_again }

-- ---- items

-- what an item may be read on with
abbrev pub item_goes_on : TokenKind → Bool
item_goes_on t = what_goes_on t || (is_word (codes "as") t || none_further t)

pub items : Parses item_at item_spelled is_item item_goes_on
unfolding item_at
items = made (both whats (optionals names (codes "as")) (passes_some what_goes_on (codes "as") name_of refl)) (λ (x : What × Option (List ℕ)). record { what = x.0; name = x.1 }) (λ i. (i.what, i.name)) item_spelled is_item (λ i. refl) (λ x. refl) (λ x. refl)

-- ---- keys of ORDER BY

abbrev any_way : Way → Bool
any_way w = true

way_takes : (ts : Spelled) (x : Way × Spelled) → way_at ts ≡ Some x → IsTrue (any_way x.0) × (ts ≡ way_spelled x.0 ++ x.1)
unfolding way_at
way_takes ts x e =
    let P : Way × Spelled → Type 0 = λ (y : Way × Spelled). IsTrue (any_way y.0) × (ts ≡ way_spelled y.0 ++ y.1) in
    elim (cased (behind (is_word (codes "asc")) ts) (cases_of (behind (is_word (codes "desc")) ts) (Some (Plain, ts)) (λ rest. Some (Desc, rest))) (λ rest. Some (Asc, rest)) (Some x) e) [
      | inl p ↦ elim (cased (behind (is_word (codes "desc")) ts) (Some (Plain, ts)) (λ rest. Some (Desc, rest)) (Some x) p.1) [
        | inl q ↦ subst P (some_is (Plain, ts) x q.1) (refl, refl)
        | inr q ↦ subst P (some_is (Desc, q.0) x q.2) (refl, word_takes (codes "desc") ts q.0 q.1)
      ]
      | inr p ↦ subst P (some_is (Asc, p.0) x p.2) (refl, word_takes (codes "asc") ts p.0 p.1)
    ]

abbrev way_goes_on : TokenKind → Bool
way_goes_on t = is_word (codes "asc") t || is_word (codes "desc") t

way_again : (w : Way) (rest : Spelled) → IsTrue (any_way w) → behind way_goes_on rest ≡ None → way_at (way_spelled w ++ rest) ≡ Some (w, rest)
unfolding way_at behind
way_again Plain rest formed ends =
    let g = behind_either (is_word (codes "asc")) (is_word (codes "desc")) rest ends in
    rw (g.0, g.1) refl
way_again Asc rest formed ends = refl
way_again Desc rest formed ends = refl

ways : Parses way_at way_spelled any_way way_goes_on
ways = record { takes = way_takes; again = way_again }

no_dot : Passes (is_mark mark.Dot) way_spelled
unfolding behind
no_dot Plain rest ends = ends
no_dot Asc rest ends = refl
no_dot Desc rest ends = refl

-- what a key may be read on with
abbrev pub order_goes_on : TokenKind → Bool
order_goes_on t = is_mark mark.Dot t || way_goes_on t

pub orders : Parses order_at order_spelled is_order_key order_goes_on
unfolding order_at
orders = made (both columns ways no_dot) (λ (x : ColumnName × Way). record { column = x.0; way = x.1 }) (λ k. (k.column, k.way)) order_spelled is_order_key (λ k. refl) (λ x. refl) (λ x. sym (and-true (is_column_name x.0)))
