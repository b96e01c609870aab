-- What is read as a test is spelled so, and what is spelled so is read again.
use Rattle.std.proofs.Common.{◌≡◌, ℕ, Bool, true, false, cond, ◌&&◌, ◌||◌, List, [], ◌∷◌, ◌++◌, map, Option, Some, None, refl, sym, ap, subst, ◌∙◌, append_assoc, inl, inr}
use Rattle.std.specs.Prelude.{IsTrue, codes}
use Rattle.std.specs.Str.{bytes_eq}
use Rattle.std.proofs.Math.Bool.{and_assoc, and-true}
use Rattle.blink_base.specs.declared.op.Op.{Op}
use Rattle.blink_base.specs.declared.op.Op.TheVariants as op
use Rattle.star_lex.specs.declared.token.TokenKind.{TokenKind}
use Rattle.star_lex.specs.declared.token.TokenKind.TheVariants.{Name, Number, Text, Symbol}
use Rattle.star_lex.specs.declared.token.Mark.{Mark}
use Rattle.star_lex.specs.declared.token.Mark.TheVariants as mark
use Rattle.star_sql.specs.declared.ast.ColumnName.{ColumnName}
use Rattle.star_sql.specs.declared.ast.Literal.{Literal}
use Rattle.star_sql.specs.declared.ast.TestWords.{TestWords}
use Rattle.star_sql.specs.declared.ast.TestWords.TheVariants.{Compare, Columns, Between, Among, Like}
use Rattle.star_sql.specs.Spelling.{Spelled, name_of, text_of, listed, in_parentheses, op_spelled, literal_spelled, qualified, column_spelled, test_spelled}
use Rattle.star_sql.specs.WellFormed.{some_and_all, is_literal, is_column_name, is_test}
use Rattle.star_sql.specs.Parsers.{ParseOf, is_mark, is_text, behind, plain_at, literal_at, text_at, date_at, made_of, enclosed_at}
use Rattle.star_sql.specs.PredicateParsers.{column_at, op_of, compared_at, bounds_at, worded_tests, worded_at, tested_at, test_at}
use Rattle.star_sql.proofs.StepLemmas.{bind_some, cased, some_is, goes_on_after}
use Rattle.std.proofs.lemmas.Bool.{and_parts, and_from}
use Rattle.star_sql.proofs.TokenLemmas.{Parses, none_further, never_behind, behind_either, text_again, literals, texts}
use Rattle.star_sql.proofs.CombinatorLemmas.{both, after, enclosures, passes_word, by_word_takes, AllTake, form}
use Rattle.star_sql.proofs.ColumnLemmas.{columns}

-- ---- tests behind their column

-- the column of a test, and what stands behind it
abbrev subject : TestWords → ColumnName
subject (Compare c o v) = c
subject (Columns c o d) = c
subject (Between c low high) = c
subject (Among c vs) = c
subject (Like c p) = c

abbrev tail_spelled : TestWords → Spelled
tail_spelled (Compare c o v) = op_spelled o ++ literal_spelled v
tail_spelled (Columns c o d) = op_spelled o ++ column_spelled d
tail_spelled (Between c low high) = Name (codes "between") ∷ (literal_spelled low ++ Name (codes "and") ∷ literal_spelled high)
tail_spelled (Among c vs) = Name (codes "in") ∷ in_parentheses (listed (map literal_spelled vs))
tail_spelled (Like c p) = Name (codes "like") ∷ Text p ∷ []

abbrev is_tail : TestWords → Bool
is_tail (Compare c o v) = is_literal v
is_tail (Columns c o d) = is_column_name d
is_tail (Between c low high) = is_literal low && is_literal high
is_tail (Among c vs) = some_and_all is_literal vs
is_tail (Like c p) = true

abbrev TakesTail : ColumnName → Spelled → TestWords × Spelled → Type 0
TakesTail c ts x = (subject x.0 ≡ c) × IsTrue (is_tail x.0) × (ts ≡ tail_spelled x.0 ++ x.1)

op_takes : (m : Mark) (o : Op) → op_of m ≡ Some o → Symbol m ∷ [] ≡ op_spelled o
op_takes mark.Equal o e = ap op_spelled (some_is op.Equal o e)
op_takes mark.Unequal o e = ap op_spelled (some_is op.Unequal o e)
op_takes mark.Less o e = ap op_spelled (some_is op.Less o e)
op_takes mark.LessEqual o e = ap op_spelled (some_is op.LessEqual o e)
op_takes mark.Greater o e = ap op_spelled (some_is op.Greater o e)
op_takes mark.GreaterEqual o e = ap op_spelled (some_is op.GreaterEqual o e)
op_takes mark.Left o e = absurd cc
op_takes mark.Right o e = absurd cc
op_takes mark.Comma o e = absurd cc
op_takes mark.Dot o e = absurd cc
op_takes mark.Star o e = absurd cc
op_takes mark.Plus o e = absurd cc
op_takes mark.Minus o e = absurd cc

compared_takes : (c : ColumnName) (o : Op) (ts : Spelled) (x : TestWords × Spelled) → compared_at c o ts ≡ Some x → TakesTail c (op_spelled o ++ ts) x
unfolding compared_at
compared_takes c o ts x e =
    let P : TestWords × Spelled → Type 0 = TakesTail c (op_spelled o ++ ts) in
    elim (cased (literal_at ts) (made_of (Columns c o) (column_at ts)) (λ v. Some (Compare c o v.0, v.1)) (Some x) e) [
      | inl p ↦
          let a = bind_some (column_at ts) (λ d. Some (Columns c o d.0, d.1)) x p.1 in
          let t = columns.takes ts a.0 a.1 in
          subst P (some_is (Columns c o a.0.0, a.0.1) x a.2) (refl, t.0, goes_on_after (op_spelled o) (column_spelled a.0.0) a.0.1 refl t.1)
      | inr p ↦
          let t = literals.takes ts p.0 p.1 in
          subst P (some_is (Compare c o p.0.0, p.0.1) x p.2) (refl, t.0, goes_on_after (op_spelled o) (literal_spelled p.0.0) p.0.1 refl t.1)
    ]

bounds : Parses bounds_at (λ (x : Literal × Literal). literal_spelled x.0 ++ Name (codes "and") ∷ literal_spelled x.1) (λ x. is_literal x.0 && is_literal x.1) (λ t. none_further t || none_further t)
unfolding bounds_at
bounds = both literals (after literals (codes "and")) (passes_word none_further (codes "and") literal_spelled refl)

among : Parses (enclosed_at literal_at) (λ (vs : List Literal). in_parentheses (listed (map literal_spelled vs))) (some_and_all is_literal) none_further
among = enclosures literals refl refl

worded_take : (c : ColumnName) → AllTake (TakesTail c) (worded_tests c)
worded_take c = (
  form (TakesTail c) bounds (codes "between") (λ x. Between c x.0 x.1) (λ x rest f. (refl, f, refl)),
  (
    form (TakesTail c) among (codes "in") (Among c) (λ vs rest f. (refl, f, refl)),
    (form (TakesTail c) texts (codes "like") (Like c) (λ p rest f. (refl, refl, refl)), tt),
  ),
)

tested_takes : (c : ColumnName) (ts : Spelled) (x : TestWords × Spelled) → tested_at c ts ≡ Some x → TakesTail c ts x
unfolding tested_at worded_at
tested_takes c [] x e = absurd cc
tested_takes c (Name w ∷ ts) x e = by_word_takes (TakesTail c) (worded_tests c) w ts x (worded_take c) e
tested_takes c (Number n ∷ ts) x e = absurd cc
tested_takes c (Text w ∷ ts) x e = absurd cc
tested_takes c (Symbol m ∷ ts) x e =
    let a = bind_some (op_of m) (λ o. compared_at c o ts) x e in
    subst (λ (s : Spelled). TakesTail c (s ++ ts) x) (sym (op_takes m a.0 a.1)) (compared_takes c a.0 ts x a.2)

-- a test is its column and what stands behind it
spelled_parts : (t : TestWords) → test_spelled t ≡ column_spelled (subject t) ++ tail_spelled t
spelled_parts (Compare c o v) = append_assoc (column_spelled c) (op_spelled o) (literal_spelled v)
spelled_parts (Columns c o d) = append_assoc (column_spelled c) (op_spelled o) (column_spelled d)
spelled_parts (Between c low high) = simp append_assoc
spelled_parts (Among c vs) = append_assoc (column_spelled c) (name_of (codes "in")) (in_parentheses (listed (map literal_spelled vs)))
spelled_parts (Like c p) = append_assoc (column_spelled c) (name_of (codes "like")) (text_of p)

formed_parts : (t : TestWords) → is_test t ≡ (is_column_name (subject t) && is_tail t)
formed_parts (Compare c o v) = refl
formed_parts (Columns c o d) = refl
formed_parts (Between c low high) = and_assoc (is_column_name c) (is_literal low) (is_literal high)
formed_parts (Among c vs) = refl
formed_parts (Like c p) = sym (and-true (is_column_name c))

abbrev TakesTest : Spelled → TestWords × Spelled → Type 0
TakesTest ts x = IsTrue (is_test x.0) × (ts ≡ test_spelled x.0 ++ x.1)

test_takes : (ts : Spelled) (x : TestWords × Spelled) → test_at ts ≡ Some x → TakesTest ts x
unfolding test_at
test_takes ts x e =
    let a = bind_some (column_at ts) (λ c. tested_at c.0 c.1) x e in
    let c = columns.takes ts a.0 a.1 in
    let t = tested_takes a.0.0 a.0.1 x a.2 in
    let named : IsTrue (is_column_name (subject x.0)) = ap is_column_name t.0 ∙ c.0 in
    let first : ts ≡ column_spelled (subject x.0) ++ a.0.1 = c.1 ∙ ap (λ (d : ColumnName). column_spelled d ++ a.0.1) (sym t.0) in
    let parts : ts ≡ (column_spelled (subject x.0) ++ tail_spelled x.0) ++ x.1 = goes_on_after (column_spelled (subject x.0)) (tail_spelled x.0) x.1 first t.2 in
    (formed_parts x.0 ∙ and_from (is_column_name (subject x.0)) (is_tail x.0) named t.1, parts ∙ ap (λ (s : Spelled). s ++ x.1) (sym (spelled_parts x.0)))

-- what a test may be read on with: the second name of a column, and the text of a date
abbrev pub goes_on : TokenKind → Bool
goes_on t = is_mark mark.Dot t || is_text t

same_none : (b : Bool) (read : ParseOf Literal) → cond b read read ≡ read
same_none true read = refl
same_none false read = refl

no_text : (ts : Spelled) → behind is_text ts ≡ None → date_at ts ≡ None
unfolding date_at text_at behind
no_text [] e = refl
no_text (Name w ∷ ts) e = refl
no_text (Number n ∷ ts) e = refl
no_text (Text w ∷ ts) e = absurd cc
no_text (Symbol m ∷ ts) e = refl

-- a column is no literal
no_literal : (table : Option (List ℕ)) (column : List ℕ) (rest : Spelled) → behind is_text rest ≡ None → literal_at (qualified table (name_of column) ++ rest) ≡ None
unfolding literal_at plain_at behind
no_literal None column rest ends = rw (no_text rest ends) (same_none (bytes_eq column (codes "date")) None)
no_literal (Some table) column rest ends = rw (no_text (Symbol mark.Dot ∷ Name column ∷ rest) refl) (same_none (bytes_eq table (codes "date")) None)

op_again : (o : Op) → (m : Mark) × (op_spelled o ≡ Symbol m ∷ []) × (op_of m ≡ Some o)
op_again op.Equal = (mark.Equal, refl, refl)
op_again op.Unequal = (mark.Unequal, refl, refl)
op_again op.Less = (mark.Less, refl, refl)
op_again op.LessEqual = (mark.LessEqual, refl, refl)
op_again op.Greater = (mark.Greater, refl, refl)
op_again op.GreaterEqual = (mark.GreaterEqual, refl, refl)

op_read : (c : ColumnName) (o : Op) (ts : Spelled) → tested_at c (op_spelled o ++ ts) ≡ compared_at c o ts
unfolding tested_at
op_read c o ts =
    let m = op_again o in
    rw (m.1, m.2) refl

value_read : (c : ColumnName) (o : Op) (v : Literal) (rest : Spelled) → IsTrue (is_literal v) → compared_at c o (literal_spelled v ++ rest) ≡ Some (Compare c o v, rest)
unfolding compared_at
value_read c o v rest f = rw (literals.again v rest f (never_behind rest)) refl

column_read : (c : ColumnName) (o : Op) (d : ColumnName) (rest : Spelled) → IsTrue (is_column_name d) → (behind (is_mark mark.Dot) rest ≡ None) × (behind is_text rest ≡ None) → compared_at c o (column_spelled d ++ rest) ≡ Some (Columns c o d, rest)
unfolding compared_at
column_read c o d rest f ends = rw (no_literal d.table d.column rest ends.1, columns.again d rest f ends.0) refl

tested_again : (t : TestWords) (rest : Spelled) → IsTrue (is_tail t) → behind goes_on rest ≡ None → tested_at (subject t) (tail_spelled t ++ rest) ≡ Some (t, rest)
unfolding tested_at worded_at
tested_again (Compare c o v) rest f ends =
    ap (tested_at c) (append_assoc (op_spelled o) (literal_spelled v) rest) ∙ op_read c o (literal_spelled v ++ rest) ∙ value_read c o v rest f
tested_again (Columns c o d) rest f ends =
    ap (tested_at c) (append_assoc (op_spelled o) (column_spelled d) rest) ∙ op_read c o (column_spelled d ++ rest) ∙ column_read c o d rest f (behind_either (is_mark mark.Dot) is_text rest ends)
tested_again (Between c low high) rest f ends = rw (bounds.again (low, high) rest f (never_behind rest)) refl
tested_again (Among c vs) rest f ends = rw (among.again vs rest f (never_behind rest)) refl
tested_again (Like c p) rest f ends = rw (text_again p rest) refl

-- what stands behind a column is no dot
by_op : (o : Op) (s rest : Spelled) → behind (is_mark mark.Dot) ((op_spelled o ++ s) ++ rest) ≡ None
unfolding behind
by_op op.Equal s rest = refl
by_op op.Unequal s rest = refl
by_op op.Less s rest = refl
by_op op.LessEqual s rest = refl
by_op op.Greater s rest = refl
by_op op.GreaterEqual s rest = refl

no_dot : (t : TestWords) (rest : Spelled) → behind (is_mark mark.Dot) (tail_spelled t ++ rest) ≡ None
unfolding behind
no_dot (Compare c o v) rest = by_op o (literal_spelled v) rest
no_dot (Columns c o d) rest = by_op o (column_spelled d) rest
no_dot (Between c low high) rest = refl
no_dot (Among c vs) rest = refl
no_dot (Like c p) rest = refl

test_again : (t : TestWords) (rest : Spelled) → IsTrue (is_test t) → behind goes_on rest ≡ None → test_at (test_spelled t ++ rest) ≡ Some (t, rest)
unfolding test_at
test_again t rest formed ends =
    let f = and_parts (is_column_name (subject t)) (is_tail t) (sym (formed_parts t) ∙ formed) in
    let e : test_spelled t ++ rest ≡ column_spelled (subject t) ++ (tail_spelled t ++ rest) = ap (λ (s : Spelled). s ++ rest) (spelled_parts t) ∙ append_assoc (column_spelled (subject t)) (tail_spelled t) rest in
    let c = columns.again (subject t) (tail_spelled t ++ rest) f.0 (no_dot t rest) in
    ap test_at e ∙ rw c (tested_again t rest f.1 ends)

pub tests : Parses test_at test_spelled is_test goes_on
tests = record { takes = test_takes; again = test_again }

by_table : (table : Option (List ℕ)) (column : List ℕ) (s rest : Spelled) → behind (is_mark mark.Left) ((qualified table (name_of column) ++ s) ++ rest) ≡ None
unfolding behind
by_table None column s rest = refl
by_table (Some table) column s rest = refl

-- a test opens no parenthesis
pub not_opened : (t : TestWords) (rest : Spelled) → behind (is_mark mark.Left) (test_spelled t ++ rest) ≡ None
unfolding behind
not_opened t rest = ap (λ (s : Spelled). behind (is_mark mark.Left) (s ++ rest)) (spelled_parts t) ∙ by_table (subject t).table (subject t).column (tail_spelled t) rest
