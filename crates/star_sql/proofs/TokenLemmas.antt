-- What a parser takes is spelled so, and what is spelled so is read again: of words, marks, names and literals.
use Rattle.std.proofs.Common.{◌≡◌, ℕ, ℤ, pos, negsuc, Bool, true, false, cond, ◌||◌, List, [], ◌∷◌, ◌++◌, Some, None, eqb, refl, sym, ap, ◌∙◌, subst, inl, inr}
use Rattle.std.specs.Prelude.{IsTrue, codes}
use Rattle.std.specs.Str.{bytes_eq}
use Rattle.std.proofs.lemmas.Bool.{eqb-true, eq-eqb, ne_eqb}
use Rattle.std.proofs.lemmas.Slice.Eq.{bytes_eq-Decides}
use Rattle.blink_base.specs.declared.value.Kind.{Kind}
use Rattle.blink_base.specs.declared.value.Kind.TheVariants as kind
use Rattle.blink_base.specs.Identifiers.{is_name}
use Rattle.star_lex.specs.declared.token.TokenKind.{TokenKind}
use Rattle.star_lex.specs.declared.token.TokenKind.TheVariants.{Name, Number, Text, Symbol}
use Rattle.star_lex.specs.declared.token.Mark.{Mark}
use Rattle.star_lex.specs.declared.token.Mark.TheVariants as mark
use Rattle.star_lex.specs.Kinds.{is_word}
use Rattle.star_sql.specs.declared.ast.Literal.{Literal}
use Rattle.star_sql.specs.declared.ast.Literal.TheVariants as literal
use Rattle.star_sql.specs.Spelling.{Spelled, name_of, text_of, kind_spelled, key_mark, literal_spelled, number_spelled}
use Rattle.star_sql.specs.WellFormed.{is_written_number, is_written_limit, is_literal}
use Rattle.star_sql.specs.Parsers.{ParseOf, ◌>>=◌, mark_index, is_mark, behind, name_at, text_at, number_at, date_at, plain_at, literal_at, kind_of_word, kind_at, key_at, limit_of, limit_at}
use Rattle.star_sql.proofs.StepLemmas.{bind_some, guard_some, chosen, cased, some_is}

-- a parser of what has one spelling: it takes what is spelled so, and takes it again, where no token that it would read on with stands behind it
pub record Parses {A : Type 0} (parses : Spelled → ParseOf A) (spelled : A → Spelled) (formed : A → Bool) (further : TokenKind → Bool) : Type 0 where
  pub takes : (ts : Spelled) (x : A × Spelled) → parses ts ≡ Some x → IsTrue (formed x.0) × (ts ≡ spelled x.0 ++ x.1)
  pub again : (a : A) (rest : Spelled) → IsTrue (formed a) → behind further rest ≡ None → parses (spelled a ++ rest) ≡ Some (a, rest)

-- no token is read on with
abbrev pub none_further : TokenKind → Bool
none_further t = false

pub never_behind : (ts : Spelled) → behind none_further ts ≡ None
unfolding behind
never_behind [] = refl
never_behind (t ∷ ts) = refl

-- ---- words and marks

pub word_is : (w : List ℕ) (t : TokenKind) → is_word w t ≡ true → t ≡ Name w
word_is w (Name v) e = ap (λ (u : List ℕ). Name u) ((bytes_eq-Decides v w).0 e)
word_is w (Number n) e = absurd cc
word_is w (Text v) e = absurd cc
word_is w (Symbol m) e = absurd cc

-- words that are not equal
pub other_word : (w v : List ℕ) → (w ≡ v → ⊥) → bytes_eq w v ≡ false
other_word w v other = by (bytes_eq w v) (bytes_eq-Decides w v).0
  where
    by : (b : Bool) → (b ≡ true → w ≡ v) → b ≡ false
    by true same = absurd (other (same refl))
    by false same = refl

-- the mark of a number
abbrev mark_at : ℕ → Mark
mark_at n =
    cond (eqb n 0) mark.LessEqual (cond (eqb n 1) mark.GreaterEqual (cond (eqb n 2) mark.Unequal (cond (eqb n 3) mark.Left
    (cond (eqb n 4) mark.Right (cond (eqb n 5) mark.Comma (cond (eqb n 6) mark.Dot (cond (eqb n 7) mark.Star
    (cond (eqb n 8) mark.Plus (cond (eqb n 9) mark.Minus (cond (eqb n 10) mark.Equal (cond (eqb n 11) mark.Less mark.Greater)))))))))))

index_at : (m : Mark) → mark_at (mark_index m) ≡ m
index_at mark.LessEqual = refl
index_at mark.GreaterEqual = refl
index_at mark.Unequal = refl
index_at mark.Left = refl
index_at mark.Right = refl
index_at mark.Comma = refl
index_at mark.Dot = refl
index_at mark.Star = refl
index_at mark.Plus = refl
index_at mark.Minus = refl
index_at mark.Equal = refl
index_at mark.Less = refl
index_at mark.Greater = refl

same_index : (m s : Mark) → mark_index m ≡ mark_index s → m ≡ s
same_index m s e = sym (index_at m) ∙ ap mark_at e ∙ index_at s

-- marks that are equal or not have numbers that are
pub equal_marks : (m s : Mark) → m ≡ s → eqb (mark_index m) (mark_index s) ≡ true
equal_marks m s e = eq-eqb (mark_index m) (mark_index s) (ap mark_index e)

pub other_marks : (m s : Mark) → (m ≡ s → ⊥) → eqb (mark_index m) (mark_index s) ≡ false
other_marks m s other = ne_eqb (mark_index m) (mark_index s) (λ e. other (same_index m s e))

pub mark_is : (m : Mark) (t : TokenKind) → is_mark m t ≡ true → t ≡ Symbol m
mark_is m (Name w) e = absurd cc
mark_is m (Number n) e = absurd cc
mark_is m (Text w) e = absurd cc
mark_is m (Symbol s) e = ap (λ (k : Mark). Symbol k) (sym (same_index m s (eqb-true (mark_index m) (mark_index s) e)))

pub behind_takes : (test : TokenKind → Bool) (u : TokenKind) → ((t : TokenKind) → test t ≡ true → t ≡ u) → (ts rest : Spelled) → behind test ts ≡ Some rest → ts ≡ u ∷ rest
unfolding behind
behind_takes test u only [] rest e = absurd cc
behind_takes test u only (t ∷ ts) rest e =
    let g = guard_some (test t) ts rest e in
    let h = only t g.0 in
    cc (h, g.1)

-- where none of either kind is behind, none of the one and none of the other is
pub behind_either : (f g : TokenKind → Bool) (ts : Spelled) → behind (λ t. f t || g t) ts ≡ None → (behind f ts ≡ None) × (behind g ts ≡ None)
unfolding behind
behind_either f g [] e = (refl, refl)
behind_either f g (t ∷ ts) e = neither (f t) (g t) ts e
  where
    neither : (a b : Bool) (rest : Spelled) → cond (a || b) (Some rest) None ≡ None → (cond a (Some rest) None ≡ None) × (cond b (Some rest) None ≡ None)
    neither true b rest h = absurd cc
    neither false true rest h = absurd cc
    neither false false rest h = (refl, refl)

pub word_takes : (w : List ℕ) (ts rest : Spelled) → behind (is_word w) ts ≡ Some rest → ts ≡ Name w ∷ rest
word_takes w ts rest e = behind_takes (is_word w) (Name w) (word_is w) ts rest e

pub mark_takes : (m : Mark) (ts rest : Spelled) → behind (is_mark m) ts ≡ Some rest → ts ≡ Symbol m ∷ rest
mark_takes m ts rest e = behind_takes (is_mark m) (Symbol m) (mark_is m) ts rest e

pub word_again : (w : List ℕ) (rest : Spelled) → behind (is_word w) (Name w ∷ rest) ≡ Some rest
unfolding behind
word_again w rest = rw ((bytes_eq-Decides w w).1 refl) refl

-- ---- names, texts and numbers

pub name_takes : (ts : Spelled) (x : List ℕ × Spelled) → name_at ts ≡ Some x → (is_name x.0 ≡ true) × (ts ≡ Name x.0 ∷ x.1)
unfolding name_at
name_takes [] x e = absurd cc
name_takes (Name w ∷ ts) x e =
    let g = guard_some (is_name w) (w, ts) x e in
    subst (λ (y : List ℕ × Spelled). (is_name y.0 ≡ true) × (Name w ∷ ts ≡ Name y.0 ∷ y.1)) g.1 (g.0, refl)
name_takes (Number n ∷ ts) x e = absurd cc
name_takes (Text w ∷ ts) x e = absurd cc
name_takes (Symbol m ∷ ts) x e = absurd cc

pub name_again : (w : List ℕ) (rest : Spelled) → is_name w ≡ true → name_at (Name w ∷ rest) ≡ Some (w, rest)
unfolding name_at
name_again w rest h = rw h refl

pub text_takes : (ts : Spelled) (x : List ℕ × Spelled) → text_at ts ≡ Some x → ts ≡ Text x.0 ∷ x.1
unfolding text_at
text_takes [] x e = absurd cc
text_takes (Name w ∷ ts) x e = absurd cc
text_takes (Number n ∷ ts) x e = absurd cc
text_takes (Text w ∷ ts) x e = subst (λ (y : List ℕ × Spelled). Text w ∷ ts ≡ Text y.0 ∷ y.1) (some_is (w, ts) x e) refl
text_takes (Symbol m ∷ ts) x e = absurd cc

pub text_again : (w : List ℕ) (rest : Spelled) → text_at (Text w ∷ rest) ≡ Some (w, rest)
unfolding text_at
text_again w rest = refl

pub names : Parses name_at name_of is_name none_further
names = record { takes = name_takes; again = λ w rest formed ends. name_again w rest formed }

abbrev pub any_text : List ℕ → Bool
any_text w = true

pub texts : Parses text_at text_of any_text none_further
texts = record { takes = λ ts x e. (refl, text_takes ts x e); again = λ w rest formed ends. text_again w rest }

-- what a parser of literals takes
abbrev TakesLiteral : Spelled → Literal × Spelled → Type 0
TakesLiteral ts x = IsTrue (is_literal x.0) × (ts ≡ literal_spelled x.0 ++ x.1)

-- ---- literals

number_takes : (minus : Bool) (ts : Spelled) (x : Literal × Spelled) → number_at minus ts ≡ Some x → (n : ℤ) × (rest : Spelled) × (is_written_number n ≡ true) × (ts ≡ Number n ∷ rest) × ((literal.Number minus n, rest) ≡ x)
unfolding number_at
number_takes minus [] x e = absurd cc
number_takes minus (Name w ∷ ts) x e = absurd cc
number_takes minus (Number n ∷ ts) x e =
    let g = guard_some (is_written_number n) (literal.Number minus n, ts) x e in
    (n, ts, g.0, refl, g.1)
number_takes minus (Text w ∷ ts) x e = absurd cc
number_takes minus (Symbol m ∷ ts) x e = absurd cc

plain_takes : (ts : Spelled) (x : Literal × Spelled) → plain_at ts ≡ Some x → TakesLiteral ts x
unfolding plain_at date_at
plain_takes [] x e = absurd cc
plain_takes (Name w ∷ ts) x e =
    elim (chosen (bytes_eq w (codes "date")) (date_at ts) None (Some x) e) [
      | inl p ↦
          let a = bind_some (text_at ts) (λ t. Some (literal.Date t.0, t.1)) x p.1 in
          let t = text_takes ts a.0 a.1 in
          let d = (bytes_eq-Decides w (codes "date")).0 p.0 in
          subst (TakesLiteral (Name w ∷ ts)) (some_is (literal.Date a.0.0, a.0.1) x a.2) (refl, cc (d, t))
      | inr p ↦ absurd (cc (p.1))
    ]
plain_takes (Number n ∷ ts) x e =
    let g = number_takes false (Number n ∷ ts) x e in
    subst (TakesLiteral (Number n ∷ ts)) g.4 (g.2, g.3)
plain_takes (Text w ∷ ts) x e = subst (TakesLiteral (Text w ∷ ts)) (some_is (literal.Text w, ts) x e) (refl, refl)
plain_takes (Symbol m ∷ ts) x e = absurd cc

literal_takes : (ts : Spelled) (x : Literal × Spelled) → literal_at ts ≡ Some x → TakesLiteral ts x
unfolding literal_at
literal_takes ts x e =
    elim (cased (behind (is_mark mark.Minus) ts) (plain_at ts) (λ rest. number_at true rest) (Some x) e) [
      | inl p ↦ plain_takes ts x p.1
      | inr p ↦
          let g = number_takes true p.0 x p.2 in
          let minus = mark_takes mark.Minus ts p.0 p.1 in
          subst (TakesLiteral ts) g.4 (g.2, cc (minus, g.3))
    ]

literal_again : (a : Literal) (rest : Spelled) → IsTrue (is_literal a) → behind none_further rest ≡ None → literal_at (literal_spelled a ++ rest) ≡ Some (a, rest)
unfolding literal_at plain_at date_at number_at text_at behind
literal_again (literal.Number false n) rest formed u = rw formed refl
literal_again (literal.Number true n) rest formed u = rw formed refl
literal_again (literal.Text w) rest formed u = refl
literal_again (literal.Date w) rest formed u = refl

pub literals : Parses literal_at literal_spelled is_literal none_further
literals = record { takes = literal_takes; again = literal_again }

-- ---- kinds and PRIMARY KEY

kind_word_takes : (w : List ℕ) (k : Kind) → kind_of_word w ≡ Some k → Name w ∷ [] ≡ kind_spelled k
unfolding kind_of_word
kind_word_takes w k e =
    elim (chosen (bytes_eq w (codes "int")) (Some kind.Int) (cond (bytes_eq w (codes "text")) (Some kind.Text) (cond (bytes_eq w (codes "date")) (Some kind.Date) None)) (Some k) e) [
      | inl p ↦ rw (← some_is kind.Int k p.1, (bytes_eq-Decides w (codes "int")).0 p.0) refl
      | inr q ↦ elim (chosen (bytes_eq w (codes "text")) (Some kind.Text) (cond (bytes_eq w (codes "date")) (Some kind.Date) None) (Some k) q.1) [
        | inl p ↦ rw (← some_is kind.Text k p.1, (bytes_eq-Decides w (codes "text")).0 p.0) refl
        | inr r ↦
            let g = guard_some (bytes_eq w (codes "date")) kind.Date k r.1 in
            rw (← g.1, (bytes_eq-Decides w (codes "date")).0 g.0) refl
      ]
    ]

abbrev pub any_kind : Kind → Bool
any_kind k = true

kind_takes : (ts : Spelled) (x : Kind × Spelled) → kind_at ts ≡ Some x → IsTrue (any_kind x.0) × (ts ≡ kind_spelled x.0 ++ x.1)
unfolding kind_at
kind_takes [] x e = absurd cc
kind_takes (Name w ∷ ts) x e =
    let a = bind_some (kind_of_word w) (λ k. Some (k, ts)) x e in
    let h = kind_word_takes w a.0 a.1 in
    subst (λ (y : Kind × Spelled). IsTrue (any_kind y.0) × (Name w ∷ ts ≡ kind_spelled y.0 ++ y.1)) (some_is (a.0, ts) x a.2) (refl, ap (λ (s : Spelled). s ++ ts) h)
kind_takes (Number n ∷ ts) x e = absurd cc
kind_takes (Text w ∷ ts) x e = absurd cc
kind_takes (Symbol m ∷ ts) x e = absurd cc

kind_again : (k : Kind) (rest : Spelled) → IsTrue (any_kind k) → behind none_further rest ≡ None → kind_at (kind_spelled k ++ rest) ≡ Some (k, rest)
unfolding kind_at kind_of_word
kind_again kind.Int rest formed ends = refl
kind_again kind.Text rest formed ends = refl
kind_again kind.Date rest formed ends = refl

pub kinds : Parses kind_at kind_spelled any_kind none_further
kinds = record { takes = kind_takes; again = kind_again }

abbrev pub any_key : Bool → Bool
any_key k = true

key_takes : (ts : Spelled) (x : Bool × Spelled) → key_at ts ≡ Some x → IsTrue (any_key x.0) × (ts ≡ key_mark x.0 ++ x.1)
unfolding key_at
key_takes ts x e =
    elim (cased (behind (is_word (codes "primary")) ts) (Some (false, ts)) (λ rest. behind (is_word (codes "key")) rest >>= λ r. Some (true, r)) (Some x) e) [
      | inl p ↦ subst (λ (y : Bool × Spelled). IsTrue (any_key y.0) × (ts ≡ key_mark y.0 ++ y.1)) (some_is (false, ts) x p.1) (refl, refl)
      | inr p ↦
          let a = bind_some (behind (is_word (codes "key")) p.0) (λ r. Some (true, r)) x p.2 in
          let first = word_takes (codes "primary") ts p.0 p.1 in
          let second = word_takes (codes "key") p.0 a.0 a.1 in
          subst (λ (y : Bool × Spelled). IsTrue (any_key y.0) × (ts ≡ key_mark y.0 ++ y.1)) (some_is (true, a.0) x a.2) (refl, cc (first, second))
    ]

key_again : (key : Bool) (rest : Spelled) → IsTrue (any_key key) → behind (is_word (codes "primary")) rest ≡ None → key_at (key_mark key ++ rest) ≡ Some (key, rest)
unfolding key_at
key_again true rest formed ends = rw (word_again (codes "primary") (Name (codes "key") ∷ rest), word_again (codes "key") rest) refl
key_again false rest formed ends = rw ends refl

pub keys : Parses key_at key_mark any_key (is_word (codes "primary"))
keys = record { takes = key_takes; again = key_again }

-- ---- the number of LIMIT

limit_is : (n : ℤ) (limit : ℕ) → limit_of n ≡ Some limit → (is_written_limit limit ≡ true) × (n ≡ pos limit)
limit_is (pos n) limit e =
    let g = guard_some (is_written_limit n) n limit e in
    subst (λ (k : ℕ). (is_written_limit k ≡ true) × (pos n ≡ pos k)) g.1 (g.0, refl)
limit_is (negsuc n) limit e = absurd cc

limit_takes : (ts : Spelled) (x : ℕ × Spelled) → limit_at ts ≡ Some x → IsTrue (is_written_limit x.0) × (ts ≡ number_spelled x.0 ++ x.1)
unfolding limit_at
limit_takes [] x e = absurd cc
limit_takes (Name w ∷ ts) x e = absurd cc
limit_takes (Number n ∷ ts) x e =
    let a = bind_some (limit_of n) (λ limit. Some (limit, ts)) x e in
    let h = limit_is n a.0 a.1 in
    subst (λ (y : ℕ × Spelled). IsTrue (is_written_limit y.0) × (Number n ∷ ts ≡ number_spelled y.0 ++ y.1)) (some_is (a.0, ts) x a.2) (h.0, ap (λ (k : ℤ). Number k ∷ ts) h.1)
limit_takes (Text w ∷ ts) x e = absurd cc
limit_takes (Symbol m ∷ ts) x e = absurd cc

limit_again : (n : ℕ) (rest : Spelled) → IsTrue (is_written_limit n) → behind none_further rest ≡ None → limit_at (number_spelled n ++ rest) ≡ Some (n, rest)
unfolding limit_at
limit_again n rest formed ends = rw formed refl

pub limits : Parses limit_at number_spelled is_written_limit none_further
limits = record { takes = limit_takes; again = limit_again }
