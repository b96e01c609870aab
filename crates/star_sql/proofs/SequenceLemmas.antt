-- What is read as a list with something between each two members is spelled so, and what is spelled so is read again.
use Rattle.std.proofs.Common.{◌≡◌, ℕ, zero, suc, ◌+◌, ◌≤◌, Bool, true, false, ◌||◌, List, [], ◌∷◌, ◌++◌, length, map, Some, None, refl, sym, ap, subst, ◌∙◌, append_assoc, arith, inl, inr}
use Rattle.std.specs.Prelude.{IsTrue}
use Rattle.std.specs.List.{list_all}
use Rattle.std.proofs.lemmas.List.{append-nil, length-append}
use Rattle.blink_lists.specs.Lists.{separated}
use Rattle.star_lex.specs.declared.token.TokenKind.{TokenKind}
use Rattle.star_sql.specs.Spelling.{Spelled}
use Rattle.star_sql.specs.WellFormed.{some_and_all}
use Rattle.star_sql.specs.Parsers.{ParseOf, ◌>>=◌, behind, with_first, more_at, separated_at}
use Rattle.star_sql.proofs.StepLemmas.{bind_some, cased, some_is, goes_on_after}
use Rattle.std.proofs.lemmas.Bool.{and_parts, and_from}
use Rattle.star_sql.proofs.TokenLemmas.{Parses, behind_takes, behind_either}

module _ {A : Type 0} (mark : TokenKind) (spelled : A → Spelled) where
  -- members, each behind the mark
  abbrev tail_of : List A → Spelled
  tail_of [] = []
  tail_of (x ∷ xs) = mark ∷ (spelled x ++ tail_of xs)

  separated-tail : (x : A) (xs : List A) → separated (mark ∷ []) (map spelled (x ∷ xs)) ≡ spelled x ++ tail_of xs
  separated-tail x [] = sym (append-nil (spelled x))
  separated-tail x (y ∷ ys) = append_assoc (spelled x) (mark ∷ []) (separated (mark ∷ []) (map spelled (y ∷ ys))) ∙ ap (λ (s : Spelled). spelled x ++ mark ∷ s) (separated-tail y ys)

  tail-length : (xs : List A) (rest : Spelled) → length xs ≤ length (tail_of xs ++ rest)
  tail-length [] rest = omega arith
  tail-length (x ∷ xs) rest =
      let h = tail-length xs rest in
      let e : (spelled x ++ tail_of xs) ++ rest ≡ spelled x ++ (tail_of xs ++ rest) = append_assoc (spelled x) (tail_of xs) rest in
      let l : length ((spelled x ++ tail_of xs) ++ rest) ≡ length (spelled x) + length (tail_of xs ++ rest) = ap length e ∙ length-append (spelled x) (tail_of xs ++ rest) in
      omega arith

-- a test that one mark alone passes
pub record Marks (between : TokenKind → Bool) (mark : TokenKind) : Type 0 where
  pub passes : between mark ≡ true
  pub only : (t : TokenKind) → between t ≡ true → t ≡ mark

module _ {A : Type 0} {parses : Spelled → ParseOf A} {spelled : A → Spelled} {formed : A → Bool} {further : TokenKind → Bool} {between : TokenKind → Bool} {mark : TokenKind} (each : Parses parses spelled formed further) (marks : Marks between mark) where
  -- what a parser of further members takes
  abbrev TakesMore : Spelled → List A × Spelled → Type 0
  TakesMore ts x = (list_all formed x.0 ≡ true) × (ts ≡ tail_of mark spelled x.0 ++ x.1)

  more_takes : (n : ℕ) (ts : Spelled) (x : List A × Spelled) → more_at between parses n ts ≡ Some x → TakesMore ts x
  unfolding more_at
  more_takes zero ts x e = subst (TakesMore ts) (some_is ([], ts) x e) (refl, refl)
  more_takes (suc n) ts x e =
      elim (cased (behind between ts) (Some ([], ts)) (λ rest. parses rest >>= λ y. with_first y.0 (more_at between parses n y.1)) (Some x) e) [
        | inl p ↦ subst (TakesMore ts) (some_is ([], ts) x p.1) (refl, refl)
        | inr p ↦
            let c = behind_takes between mark marks.only ts p.0 p.1 in
            let a = bind_some (parses p.0) (λ y. with_first y.0 (more_at between parses n y.1)) x p.2 in
            let b = bind_some (more_at between parses n a.0.1) (λ xs. Some (a.0.0 ∷ xs.0, xs.1)) x a.2 in
            let one = each.takes p.0 a.0 a.1 in
            let more = more_takes n a.0.1 b.0 b.1 in
            let parts : ts ≡ mark ∷ ((spelled a.0.0 ++ tail_of mark spelled b.0.0) ++ b.0.1) = c ∙ ap (λ (s : Spelled). mark ∷ s) (goes_on_after (spelled a.0.0) (tail_of mark spelled b.0.0) b.0.1 one.1 more.1) in
            subst (TakesMore ts) (some_is (a.0.0 ∷ b.0.0, b.0.1) x b.2) (and_from (formed a.0.0) (list_all formed b.0.0) one.0 more.0, parts)
      ]

  separated_takes : (ts : Spelled) (x : List A × Spelled) → separated_at between parses ts ≡ Some x → IsTrue (some_and_all formed x.0) × (ts ≡ separated (mark ∷ []) (map spelled x.0) ++ x.1)
  unfolding separated_at
  separated_takes ts x e =
      let a = bind_some (parses ts) (λ y. with_first y.0 (more_at between parses (length y.1) y.1)) x e in
      let b = bind_some (more_at between parses (length a.0.1) a.0.1) (λ xs. Some (a.0.0 ∷ xs.0, xs.1)) x a.2 in
      let one = each.takes ts a.0 a.1 in
      let more = more_takes (length a.0.1) a.0.1 b.0 b.1 in
      let parts : ts ≡ separated (mark ∷ []) (map spelled (a.0.0 ∷ b.0.0)) ++ b.0.1 = goes_on_after (spelled a.0.0) (tail_of mark spelled b.0.0) b.0.1 one.1 more.1 ∙ ap (λ (s : Spelled). s ++ b.0.1) (sym (separated-tail mark spelled a.0.0 b.0.0)) in
      subst (λ (y : List A × Spelled). IsTrue (some_and_all formed y.0) × (ts ≡ separated (mark ∷ []) (map spelled y.0) ++ y.1)) (some_is (a.0.0 ∷ b.0.0, b.0.1) x b.2) (and_from (formed a.0.0) (list_all formed b.0.0) one.0 more.0, parts)

  module _ (stops : further mark ≡ false) where
    -- what is behind a member
    ends-tail : (xs : List A) (rest : Spelled) → behind further rest ≡ None → behind further (tail_of mark spelled xs ++ rest) ≡ None
    unfolding behind
    ends-tail [] rest ends = ends
    ends-tail (x ∷ xs) rest ends = rw stops refl

    more_again : (n : ℕ) (xs : List A) (rest : Spelled) → length xs ≤ n → list_all formed xs ≡ true → behind between rest ≡ None → behind further rest ≡ None → more_at between parses n (tail_of mark spelled xs ++ rest) ≡ Some (xs, rest)
    unfolding more_at behind
    more_again zero [] rest le formed_all none ends = refl
    more_again zero (x ∷ xs) rest le formed_all none ends = absurd (omega arith)
    more_again (suc n) [] rest le formed_all none ends = rw none refl
    more_again (suc n) (x ∷ xs) rest le formed_all none ends =
        let f = and_parts (formed x) (list_all formed xs) formed_all in
        let one = each.again x (tail_of mark spelled xs ++ rest) f.0 (ends-tail xs rest ends) in
        let more = more_again n xs rest (omega arith) f.1 none ends in
        let e : (spelled x ++ tail_of mark spelled xs) ++ rest ≡ spelled x ++ (tail_of mark spelled xs ++ rest) = append_assoc (spelled x) (tail_of mark spelled xs) rest in
        rw (marks.passes, e, one, more) refl

    separated_again : (xs : List A) (rest : Spelled) → IsTrue (some_and_all formed xs) → behind (λ t. between t || further t) rest ≡ None → separated_at between parses (separated (mark ∷ []) (map spelled xs) ++ rest) ≡ Some (xs, rest)
    unfolding separated_at
    separated_again [] rest formed_all ends = absurd cc
    separated_again (x ∷ xs) rest formed_all ends =
        let f = and_parts (formed x) (list_all formed xs) formed_all in
        let g = behind_either between further rest ends in
        let one = each.again x (tail_of mark spelled xs ++ rest) f.0 (ends-tail xs rest g.1) in
        let more = more_again (length (tail_of mark spelled xs ++ rest)) xs rest (tail-length mark spelled xs rest) f.1 g.0 g.1 in
        let e : separated (mark ∷ []) (map spelled (x ∷ xs)) ++ rest ≡ spelled x ++ (tail_of mark spelled xs ++ rest) = ap (λ (s : Spelled). s ++ rest) (separated-tail mark spelled x xs) ∙ append_assoc (spelled x) (tail_of mark spelled xs) rest in
        ap (separated_at between parses) e ∙ rw (one, more) refl

    pub sequences : Parses (separated_at between parses) (λ xs. separated (mark ∷ []) (map spelled xs)) (some_and_all formed) (λ t. between t || further t)
    sequences = record { takes = separated_takes; again = separated_again }
