-- Parsers made of parsers: one behind another, behind a word, where a word is there, in parentheses, by a first word.
use Rattle.std.proofs.Common.{◌≡◌, ℕ, Bool, false, ◌&&◌, ◌||◌, List, [], ◌∷◌, ◌++◌, map, Option, Some, None, refl, sym, ap, subst, ◌∙◌, append_assoc, inl, inr}
use Rattle.std.specs.Prelude.{IsTrue, codes}
use Rattle.std.specs.List.{list_all}
use Rattle.std.specs.Str.{bytes_eq}
use Rattle.std.proofs.lemmas.Slice.Eq.{bytes_eq-Decides}
use Rattle.star_lex.specs.declared.token.TokenKind.{TokenKind}
use Rattle.star_lex.specs.declared.token.TokenKind.TheVariants.{Name, Symbol}
use Rattle.star_lex.specs.declared.token.Mark.TheVariants as mark
use Rattle.star_lex.specs.Kinds.{is_word}
use Rattle.star_sql.specs.Spelling.{Spelled, name_of, mark_of, listed, in_parentheses, where_some, where_any}
use Rattle.star_sql.specs.WellFormed.{some_and_all, if_there}
use Rattle.star_sql.specs.Parsers.{ParseOf, ◌>>=◌, is_mark, behind, made_of, then_at, after_at, optional_at, closed_at, inside_at, listed_at, enclosed_at, by_at, Form, by_word}
use Rattle.star_sql.proofs.StepLemmas.{bind_some, chosen, cased, some_is, goes_on_after}
use Rattle.std.proofs.lemmas.Bool.{and_parts, and_from}
use Rattle.star_sql.proofs.TokenLemmas.{Parses, none_further, behind_either, word_takes, word_again, mark_is, mark_takes}
use Rattle.star_sql.proofs.SequenceLemmas.{Marks, sequences}

-- ---- what passes a test begins neither this nor what is behind it

abbrev pub Passes : {B : Type 0} → (TokenKind → Bool) → (B → Spelled) → Type 0
Passes {B} test spelled = (b : B) (rest : Spelled) → behind test rest ≡ None → behind test (spelled b ++ rest) ≡ None

pub passes_word : {B : Type 0} (test : TokenKind → Bool) (w : List ℕ) (spelled : B → Spelled) → test (Name w) ≡ false → Passes test (λ (b : B). Name w ∷ spelled b)
unfolding behind
passes_word test w spelled stops b rest ends = rw stops refl

pub passes_some : {B : Type 0} (test : TokenKind → Bool) (w : List ℕ) (spelled : B → Spelled) → test (Name w) ≡ false → Passes test (where_some (name_of w) spelled)
unfolding behind
passes_some test w spelled stops None rest ends = ends
passes_some test w spelled stops (Some b) rest ends = rw stops refl

pub passes_any : {B : Type 0} (test : TokenKind → Bool) (w v : List ℕ) (spelled : B → Spelled) → test (Name w) ≡ false → Passes test (where_any (name_of w ++ name_of v) spelled)
unfolding behind
passes_any test w v spelled stops [] rest ends = ends
passes_any test w v spelled stops (b ∷ bs) rest ends = rw stops refl

pub passes_both : {A B : Type 0} (test : TokenKind → Bool) (first : A → Spelled) (second : B → Spelled) → Passes test first → Passes test second → Passes test (λ (x : A × B). first x.0 ++ second x.1)
passes_both test first second p q x rest ends =
    ap (behind test) (append_assoc (first x.0) (second x.1) rest) ∙ p x.0 (second x.1 ++ rest) (q x.1 rest ends)

-- ---- one behind another

module _ {A B : Type 0} {ra : Spelled → ParseOf A} {sa : A → Spelled} {fa : A → Bool} {ga : TokenKind → Bool} {rb : Spelled → ParseOf B} {sb : B → Spelled} {fb : B → Bool} {gb : TokenKind → Bool} (first : Parses ra sa fa ga) (second : Parses rb sb fb gb) where
  abbrev spelled_both : A × B → Spelled
  spelled_both x = sa x.0 ++ sb x.1

  abbrev formed_both : A × B → Bool
  formed_both x = fa x.0 && fb x.1

  both_takes : (ts : Spelled) (x : (A × B) × Spelled) → then_at ra rb ts ≡ Some x → IsTrue (formed_both x.0) × (ts ≡ spelled_both x.0 ++ x.1)
  both_takes ts x e =
      let a = bind_some (ra ts) (λ a. rb a.1 >>= λ b. Some ((a.0, b.0), b.1)) x e in
      let b = bind_some (rb a.0.1) (λ b. Some ((a.0.0, b.0), b.1)) x a.2 in
      let one = first.takes ts a.0 a.1 in
      let two = second.takes a.0.1 b.0 b.1 in
      let parts : ts ≡ (sa a.0.0 ++ sb b.0.0) ++ b.0.1 = goes_on_after (sa a.0.0) (sb b.0.0) b.0.1 one.1 two.1 in
      subst (λ (y : (A × B) × Spelled). IsTrue (formed_both y.0) × (ts ≡ spelled_both y.0 ++ y.1)) (some_is ((a.0.0, b.0.0), b.0.1) x b.2) (and_from (fa a.0.0) (fb b.0.0) one.0 two.0, parts)

  both_again : Passes ga sb → (x : A × B) (rest : Spelled) → IsTrue (formed_both x) → behind (λ t. ga t || gb t) rest ≡ None → then_at ra rb (spelled_both x ++ rest) ≡ Some (x, rest)
  both_again passes x rest formed ends =
      let f = and_parts (fa x.0) (fb x.1) formed in
      let g = behind_either ga gb rest ends in
      let one = first.again x.0 (sb x.1 ++ rest) f.0 (passes x.1 rest g.0) in
      let two = second.again x.1 rest f.1 g.1 in
      ap (then_at ra rb) (append_assoc (sa x.0) (sb x.1) rest) ∙ rw (one, two) refl

  pub both : Passes ga sb → Parses (then_at ra rb) spelled_both formed_both (λ t. ga t || gb t)
  both passes = record { takes = both_takes; again = both_again passes }

-- ---- from one parser

module _ {A : Type 0} {parses : Spelled → ParseOf A} {spelled : A → Spelled} {formed : A → Bool} {further : TokenKind → Bool} (one : Parses parses spelled formed further) where
  -- the same with a wider end
  pub wider : (wide : TokenKind → Bool) → ((rest : Spelled) → behind wide rest ≡ None → behind further rest ≡ None) → Parses parses spelled formed wide
  wider wide narrow = record { takes = one.takes; again = λ a rest f ends. one.again a rest f (narrow rest ends) }

  -- made into something else that says as much
  pub made : {B : Type 0} (make : A → B) (back : B → A) (spells : B → Spelled) (forms : B → Bool) → ((b : B) → make (back b) ≡ b) → ((a : A) → spells (make a) ≡ spelled a) → ((a : A) → forms (make a) ≡ formed a)
      → Parses (λ ts. made_of make (parses ts)) spells forms further
  made {B} make back spells forms round same_spelling same_form =
      record {
        takes = λ ts x e.
            let a = bind_some (parses ts) (λ y. Some (make y.0, y.1)) x e in
            let t = one.takes ts a.0 a.1 in
            subst (λ (y : B × Spelled). IsTrue (forms y.0) × (ts ≡ spells y.0 ++ y.1)) (some_is (make a.0.0, a.0.1) x a.2) (same_form a.0.0 ∙ t.0, t.1 ∙ ap (λ (s : Spelled). s ++ a.0.1) (sym (same_spelling a.0.0)));
        again = λ b rest f ends.
            let text : spells b ≡ spelled (back b) = ap spells (sym (round b)) ∙ same_spelling (back b) in
            let form : IsTrue (formed (back b)) = sym (same_form (back b)) ∙ ap forms (round b) ∙ f in
            let read : parses (spells b ++ rest) ≡ Some (back b, rest) = ap (λ (s : Spelled). parses (s ++ rest)) text ∙ one.again (back b) rest form ends in
            ap (made_of make) read ∙ ap (λ (y : B). Some (y, rest)) (round b);
      }

  -- behind a word
  pub after : (w : List ℕ) → Parses (after_at w parses) (λ (a : A). Name w ∷ spelled a) formed further
  after w = record {
    takes = λ ts x e.
        let r = bind_some (behind (is_word w) ts) (λ rest. parses rest) x e in
        let t = one.takes r.0 x r.2 in
        (t.0, word_takes w ts r.0 r.1 ∙ ap (λ (s : Spelled). Name w ∷ s) t.1);
    again = λ a rest f ends. rw (word_again w (spelled a ++ rest)) (one.again a rest f ends);
  }

  -- where a word is there
  optional_takes : (w : List ℕ) (ts : Spelled) (x : Option A × Spelled) → optional_at w parses ts ≡ Some x → IsTrue (if_there formed x.0) × (ts ≡ where_some (name_of w) spelled x.0 ++ x.1)
  optional_takes w ts x e =
      let P : Option A × Spelled → Type 0 = λ (y : Option A × Spelled). IsTrue (if_there formed y.0) × (ts ≡ where_some (name_of w) spelled y.0 ++ y.1) in
      elim (cased (behind (is_word w) ts) (Some (None, ts)) (λ rest. parses rest >>= λ y. Some (Some y.0, y.1)) (Some x) e) [
        | inl p ↦ subst P (some_is (None, ts) x p.1) (refl, refl)
        | inr p ↦
            let a = bind_some (parses p.0) (λ y. Some (Some y.0, y.1)) x p.2 in
            let t = one.takes p.0 a.0 a.1 in
            subst P (some_is (Some a.0.0, a.0.1) x a.2) (t.0, word_takes w ts p.0 p.1 ∙ ap (λ (s : Spelled). Name w ∷ s) t.1)
      ]

  optional_again : (w : List ℕ) (a : Option A) (rest : Spelled) → IsTrue (if_there formed a) → behind (λ t. is_word w t || further t) rest ≡ None → optional_at w parses (where_some (name_of w) spelled a ++ rest) ≡ Some (a, rest)
  optional_again w None rest f ends = rw (behind_either (is_word w) further rest ends).0 refl
  optional_again w (Some a) rest f ends = rw (word_again w (spelled a ++ rest), one.again a rest f (behind_either (is_word w) further rest ends).1) refl

  pub optionals : (w : List ℕ) → Parses (optional_at w parses) (where_some (name_of w) spelled) (if_there formed) (λ t. is_word w t || further t)
  optionals w = record { takes = optional_takes w; again = optional_again w }

  -- in parentheses
  closed_takes : (ts : Spelled) (x : A × Spelled) → closed_at parses ts ≡ Some x → IsTrue (formed x.0) × (ts ≡ (spelled x.0 ++ mark_of mark.Right) ++ x.1)
  closed_takes ts x e =
      let a = bind_some (parses ts) (λ y. behind (is_mark mark.Right) y.1 >>= λ rest. Some (y.0, rest)) x e in
      let b = bind_some (behind (is_mark mark.Right) a.0.1) (λ rest. Some (a.0.0, rest)) x a.2 in
      let t = one.takes ts a.0 a.1 in
      let right = mark_takes mark.Right a.0.1 b.0 b.1 in
      subst (λ (y : A × Spelled). IsTrue (formed y.0) × (ts ≡ (spelled y.0 ++ mark_of mark.Right) ++ y.1)) (some_is (a.0.0, b.0) x b.2) (t.0, goes_on_after (spelled a.0.0) (mark_of mark.Right) b.0 t.1 right)

  inside_takes : (ts : Spelled) (x : A × Spelled) → inside_at parses ts ≡ Some x → IsTrue (formed x.0) × (ts ≡ in_parentheses (spelled x.0) ++ x.1)
  inside_takes ts x e =
      let a = bind_some (behind (is_mark mark.Left) ts) (λ inside. closed_at parses inside) x e in
      let t = closed_takes a.0 x a.2 in
      (t.0, mark_takes mark.Left ts a.0 a.1 ∙ ap (λ (s : Spelled). Symbol mark.Left ∷ s) t.1)

  inside_again : further (Symbol mark.Right) ≡ false → (a : A) (rest : Spelled) → IsTrue (formed a) → behind none_further rest ≡ None → inside_at parses (in_parentheses (spelled a) ++ rest) ≡ Some (a, rest)
  unfolding behind
  inside_again stops a rest f ends =
      let ended : behind further (Symbol mark.Right ∷ rest) ≡ None = rw stops refl in
      let inner = one.again a (Symbol mark.Right ∷ rest) f ended in
      let e : (spelled a ++ mark_of mark.Right) ++ rest ≡ spelled a ++ Symbol mark.Right ∷ rest = append_assoc (spelled a) (mark_of mark.Right) rest in
      rw (e, inner) refl

  pub insides : further (Symbol mark.Right) ≡ false → Parses (inside_at parses) (λ (a : A). in_parentheses (spelled a)) formed none_further
  insides stops = record { takes = inside_takes; again = inside_again stops }

-- ---- lists with commas

pub commas : Marks (is_mark mark.Comma) (Symbol mark.Comma)
commas = record { passes = refl; only = mark_is mark.Comma }

module _ {A : Type 0} {parses : Spelled → ParseOf A} {spelled : A → Spelled} {formed : A → Bool} {further : TokenKind → Bool} (one : Parses parses spelled formed further) (stops : further (Symbol mark.Comma) ≡ false) where
  pub lists : Parses (listed_at parses) (λ (xs : List A). listed (map spelled xs)) (some_and_all formed) (λ t. is_mark mark.Comma t || further t)
  lists = sequences one commas stops

  -- in parentheses
  pub enclosures : further (Symbol mark.Right) ≡ false → Parses (enclosed_at parses) (λ (xs : List A). in_parentheses (listed (map spelled xs))) (some_and_all formed) none_further
  enclosures ends = insides lists ends

  -- behind a word and BY
  by_takes : (w : List ℕ) (ts : Spelled) (x : List A × Spelled) → by_at w parses ts ≡ Some x → IsTrue (list_all formed x.0) × (ts ≡ where_any (name_of w ++ name_of (codes "by")) spelled x.0 ++ x.1)
  by_takes w ts x e =
      let P : List A × Spelled → Type 0 = λ (y : List A × Spelled). IsTrue (list_all formed y.0) × (ts ≡ where_any (name_of w ++ name_of (codes "by")) spelled y.0 ++ y.1) in
      elim (cased (behind (is_word w) ts) (Some ([], ts)) (λ rest. after_at (codes "by") (listed_at parses) rest) (Some x) e) [
        | inl p ↦ subst P (some_is ([], ts) x p.1) (refl, refl)
        | inr p ↦ some_taken x.0 x.1 (word_takes w ts p.0 p.1) ((after lists (codes "by")).takes p.0 x p.2)
      ]
    where
      some_taken : (xs : List A) (rest : Spelled) {inner : Spelled} → ts ≡ Name w ∷ inner → IsTrue (some_and_all formed xs) × (inner ≡ (Name (codes "by") ∷ listed (map spelled xs)) ++ rest) → IsTrue (list_all formed xs) × (ts ≡ where_any (name_of w ++ name_of (codes "by")) spelled xs ++ rest)
      some_taken [] rest first t = absurd cc
      some_taken (y ∷ ys) rest first t = (t.0, first ∙ ap (λ (s : Spelled). Name w ∷ s) t.1)

  by_again : (w : List ℕ) (xs : List A) (rest : Spelled) → IsTrue (list_all formed xs) → behind (λ t. is_word w t || (is_mark mark.Comma t || further t)) rest ≡ None → by_at w parses (where_any (name_of w ++ name_of (codes "by")) spelled xs ++ rest) ≡ Some (xs, rest)
  by_again w [] rest f ends = rw (behind_either (is_word w) (λ t. is_mark mark.Comma t || further t) rest ends).0 refl
  by_again w (y ∷ ys) rest f ends =
      let t = (after lists (codes "by")).again (y ∷ ys) rest f (behind_either (is_word w) (λ t. is_mark mark.Comma t || further t) rest ends).1 in
      rw (word_again w (Name (codes "by") ∷ (listed (map spelled (y ∷ ys)) ++ rest))) t

  pub bys : (w : List ℕ) → Parses (by_at w parses) (where_any (name_of w ++ name_of (codes "by")) spelled) (list_all formed) (λ t. is_word w t || (is_mark mark.Comma t || further t))
  bys w = record { takes = by_takes w; again = by_again w }

-- ---- by a first word

module _ {A : Type 0} (Takes : Spelled → A × Spelled → Type 0) where
  -- what a form takes behind its word
  abbrev pub TakesForm : List ℕ → (Spelled → ParseOf A) → Type 0
  TakesForm word parses = (ts : Spelled) (x : A × Spelled) → parses ts ≡ Some x → Takes (Name word ∷ ts) x

  -- what each of some forms takes
  abbrev pub AllTake : List (Form A) → Type 0
  AllTake [] = Unit {0}
  AllTake (form ∷ more) = TakesForm form.0 form.1 × AllTake more

  pub by_word_takes : (fs : List (Form A)) (w : List ℕ) (ts : Spelled) (x : A × Spelled) → AllTake fs → by_word fs w ts ≡ Some x → Takes (Name w ∷ ts) x
  by_word_takes [] w ts x all e = absurd cc
  by_word_takes (form ∷ more) w ts x all e =
      elim (chosen (bytes_eq w form.0) (form.1 ts) (by_word more w ts) (Some x) e) [
        | inl p ↦ subst (λ (v : List ℕ). Takes (Name v ∷ ts) x) (sym ((bytes_eq-Decides w form.0).0 p.0)) (all.0 ts x p.1)
        | inr p ↦ by_word_takes more w ts x all.1 p.1
      ]

  -- a form that makes what a parser takes into something else
  pub form : {B : Type 0} {parses : Spelled → ParseOf B} {spelled : B → Spelled} {formed : B → Bool} {further : TokenKind → Bool} → Parses parses spelled formed further → (word : List ℕ) (make : B → A)
      → ((b : B) (rest : Spelled) → IsTrue (formed b) → Takes (Name word ∷ (spelled b ++ rest)) (make b, rest)) → TakesForm word (λ ts. made_of make (parses ts))
  form {B} {parses} {spelled} {formed} {further} one word make taken ts x e =
      let a = bind_some (parses ts) (λ y. Some (make y.0, y.1)) x e in
      let t = one.takes ts a.0 a.1 in
      subst (Takes (Name word ∷ ts)) (some_is (make a.0.0, a.0.1) x a.2) (subst (λ (s : Spelled). Takes (Name word ∷ s) (make a.0.0, a.0.1)) (sym t.1) (taken a.0.0 a.0.1 t.0))
