-- The tokens that are computed are the longest forms, and a piece lexes in one way.
use Rattle.std.proofs.Common.{◌≡◌, ◌≤◌, ◌<◌, ◌+◌, ◌-◌, ◌∙◌, ℕ, zero, suc, List, [], ◌∷◌, length, take, drop, ap, sym, Option, Some, None, Result, Ok, Err, inl, inr, refl, arith}
use Rattle.std.specs.List.{slice_range}
use Rattle.std.proofs.lemmas.Bool.{cases_lt, cases_order}
use Rattle.std.proofs.lemmas.List.{length-drop, drop-drop}
use Rattle.star_lex.specs.declared.token.TokenKind.{TokenKind}
use Rattle.star_lex.specs.declared.token.Token.{Token}
use Rattle.star_lex.specs.declared.token.LexFault.{LexFault}
use Rattle.star_lex.specs.Forms.{Form, form_of, content_of, fault_of}
use Rattle.star_lex.specs.Lex.{Lexes, ends, goes, refused, stops, IsLongest, NoneBegins, form_between, front_length, content_if_formed, content_before, lexed_from, LexedIsLongest, LexesOneWay}
use Rattle.star_lex.proofs.FormLemmas.{IsFront, front_is}

-- what stands from a place on, and a part of it
part_is : (text rest : List ℕ) (at n : ℕ) → drop at text ≡ rest → slice_range text at (at + n) ≡ take n rest
part_is text rest at n e = let f : at + n - at ≡ n = omega arith in rw (f, e) refl

behind_is : (text rest : List ℕ) (at n : ℕ) → drop at text ≡ rest → drop (at + n) text ≡ drop n rest
behind_is text rest at n e = sym (drop-drop n at text) ∙ ap (drop n) e

length_is : (text rest : List ℕ) (at : ℕ) → drop at text ≡ rest → length rest ≡ length text - at
length_is text rest at e = sym (ap length e) ∙ length-drop at text

form_is : (text rest : List ℕ) (at n : ℕ) → drop at text ≡ rest → form_between text at (at + n) ≡ form_of (take n rest) (drop n rest)
form_is text rest at n e = rw (part_is text rest at n e, behind_is text rest at n e) refl

longest_is : (text rest : List ℕ) (at : ℕ) (form : Form) → at ≤ length text → drop at text ≡ rest → (n : ℕ) → IsFront rest n
    → form_of (take n rest) (drop n rest) ≡ Some form → IsLongest text at (at + n) form
longest_is text rest at form within e n front is =
    let len = length_is text rest at e in
    let inside = front.within in
    record {
      within = omega arith;
      formed = form_is text rest at n e ∙ is;
      longest = λ later past l.
          let by : later ≡ at + (later - at) = omega arith in
          rw by (form_is text rest at (later - at) e ∙ front.longest (later - at) (omega arith) (omega arith));
    }

none_begins : (text rest : List ℕ) (at : ℕ) → at ≤ length text → drop at text ≡ rest → (n : ℕ) → IsFront rest n
    → form_of (take n rest) (drop n rest) ≡ None → NoneBegins text at
none_begins text rest at within e n front is end past l =
    let len = length_is text rest at e in
    let by : end ≡ at + (end - at) = omega arith in
    rw by (form_is text rest at (end - at) e ∙ none (end - at) (omega arith) (omega arith))
  where
    none : (m : ℕ) → 0 < m → m ≤ length rest → form_of (take m rest) (drop m rest) ≡ None
    none m some l = elim (cases_lt n m) [
      | inl far ↦ front.longest m far l
      | inr near ↦ let short = front.short is in let one : m ≡ n = omega arith in rw one is
    ]

-- one form, and what follows
step : (text rest : List ℕ) (at : ℕ) → at < length text → drop at text ≡ rest → (n : ℕ) → IsFront rest n
    → (o : Option Form) → form_of (take n rest) (drop n rest) ≡ o
    → (more : Result (List Token) LexFault) → (1 ≤ n → Lexes text (at + n) more)
    → (k : Result (Option TokenKind) LexFault) → content_if_formed o n at rest ≡ k
    → Lexes text at (elim k [ Err fault ↦ Err fault | Ok content ↦ content_before content at (at + n) more ])
step text rest at within e n front None is more follows k content =
    let err : Err (fault_of rest at) ≡ k = content in
    rw (← err, ← e) (stops at within (none_begins text rest at (omega arith) e n front is))
step text rest at within e n front (Some form) is more follows k content = by k content
  where
    some : (n : ℕ) → form_of (take n rest) (drop n rest) ≡ Some form → 1 ≤ n
    some zero is = cc
    some (suc n) is = omega arith

    longest : IsLongest text at (at + n) form
    longest = longest_is text rest at form (omega arith) e n front is

    by : (k : Result (Option TokenKind) LexFault) → content_of form (take n rest) at ≡ k
        → Lexes text at (elim k [ Err fault ↦ Err fault | Ok content ↦ content_before content at (at + n) more ])
    by (Err fault) content = refused at (at + n) form fault longest (rw (part_is text rest at n e) content)
    by (Ok token) content = goes at (at + n) form token more longest (rw (part_is text rest at n e) content) (follows (some n is))

at_end : (text : List ℕ) (at : ℕ) → at ≤ length text → drop at text ≡ [] → Lexes text at (Ok [])
at_end text at within e = let len = length_is text [] at e in let is : at ≡ length text = omega arith in rw is ends

lexes_from : (text : List ℕ) (more at : ℕ) (rest : List ℕ) → at ≤ length text → drop at text ≡ rest → length rest ≤ more → Lexes text at (lexed_from more at rest)
lexes_from text zero at [] within e few = at_end text at within e
lexes_from text zero at (b ∷ rest) within e few = absurd (omega arith)
lexes_from text (suc more) at [] within e few = at_end text at within e
lexes_from text (suc more) at (b ∷ rest) within e few =
    let n = front_length (b ∷ rest) in
    let front = front_is b rest in
    let len = length_is text (b ∷ rest) at e in
    let inside : front_length (b ∷ rest) ≤ length (b ∷ rest) = front.within in
    let left = length-drop (front_length (b ∷ rest)) (b ∷ rest) in
    step text (b ∷ rest) at (omega arith) e n front (form_of (take n (b ∷ rest)) (drop n (b ∷ rest))) refl (lexed_from more (at + n) (drop n (b ∷ rest)))
    (λ some. lexes_from text more (at + n) (drop n (b ∷ rest)) (omega arith) (behind_is text (b ∷ rest) at n e) (omega arith)) _ refl

pub lexed_is_longest : LexedIsLongest
lexed_is_longest text = lexes_from text (length text) 0 text (omega arith) refl (omega arith)

-- a longest form has a byte
has_byte : (text : List ℕ) (start end : ℕ) (form : Form) → IsLongest text start end form → start < end
has_byte text start end form is = elim (cases_lt start end) [
  | inl e ↦ e
  | inr e ↦ let none : end - start ≡ 0 = omega arith in absurd (none_some form (rw none at is.formed))
]
  where
    none_some : (form : Form) → ◌≡◌ {A = Option Form} None (Some form) → ⊥
    none_some form e = cc

-- and is the only one
same_longest : (text : List ℕ) (a b c d : ℕ) (f g : Form) → IsLongest text a c f → IsLongest text b d g → a ≡ b → (c ≡ d) × (f ≡ g)
same_longest text a b c d f g p q e = elim (cases_order c d) [
  | inl same ↦ (same, form same)
  | inr (inl less) ↦ absurd (no (p.longest d less q.within) q.formed)
  | inr (inr less) ↦ absurd (yes (q.longest c less p.within) p.formed)
]
  where
    form : c ≡ d → f ≡ g
    form same = cc (p.formed, q.formed)

    no : form_between text a d ≡ None → form_between text b d ≡ Some g → ⊥
    no x y = cc

    yes : form_between text b c ≡ None → form_between text a c ≡ Some f → ⊥
    yes x y = cc

same_content : (text : List ℕ) (a b c d : ℕ) (f g : Form) (x y : Result (Option TokenKind) LexFault) → IsLongest text a c f → IsLongest text b d g → a ≡ b
    → content_of f (slice_range text a c) a ≡ x → content_of g (slice_range text b d) b ≡ y → x ≡ y
same_content text a b c d f g x y p q e k l =
    let same = same_longest text a b c d f g p q e in
    let content : content_of f (slice_range text a c) a ≡ content_of g (slice_range text b d) b = rw (e, same.0, same.1) refl in
    sym k ∙ content ∙ l

same_goes : (a b c d : ℕ) (content content' : Option TokenKind) (rest rest' : Result (List Token) LexFault) → a ≡ b → c ≡ d → ◌≡◌ {A = Result (Option TokenKind) LexFault} (Ok content) (Ok content') → rest ≡ rest'
    → content_before content a c rest ≡ content_before content' b d rest'
same_goes a b c d content content' rest rest' e f g h = let same : content ≡ content' = cc in rw (e, f, same, h) refl

none_begun : (text : List ℕ) (a b c : ℕ) (f : Form) → IsLongest text a c f → NoneBegins text b → a ≡ b → ⊥
none_begun text a b c f p none e =
    let some = has_byte text a c f p in
    no (rw (← e) p.formed) (none c (omega arith) p.within)
  where
    no : form_between text b c ≡ Some f → form_between text b c ≡ None → ⊥
    no x y = cc

beyond : (text : List ℕ) (a c : ℕ) (f : Form) → IsLongest text a c f → a ≡ length text → ⊥
beyond text a c f p e = let some = has_byte text a c f p in let most = p.within in omega arith

one_way : (text : List ℕ) (a b : ℕ) (x y : Result (List Token) LexFault) → Lexes text a x → Lexes text b y → a ≡ b → x ≡ y
one_way text a b x y ends ends e = refl
one_way text a b x y ends (goes t d g content rest q l n) e = absurd (beyond text b d g q (sym e))
one_way text a b x y ends (refused t d g fault q l) e = absurd (beyond text b d g q (sym e))
one_way text a b x y ends (stops t m none) e = absurd (omega arith)
one_way text a b x y (goes s c f content rest p k m) ends e = absurd (beyond text a c f p e)
one_way text a b x y (goes s c f content rest p k m) (goes t d g content' rest' q l n) e =
    let same = same_longest text a b c d f g p q e in
    same_goes a b c d content content' rest rest' e same.0 (same_content text a b c d f g _ _ p q e k l) (one_way text c d rest rest' m n same.0)
one_way text a b x y (goes s c f content rest p k m) (refused t d g fault q l) e = absurd (ok_err (same_content text a b c d f g _ _ p q e k l))
  where
    ok_err : ◌≡◌ {A = Result (Option TokenKind) LexFault} (Ok content) (Err fault) → ⊥
    ok_err h = cc
one_way text a b x y (goes s c f content rest p k m) (stops t l none) e = absurd (none_begun text a b c f p none e)
one_way text a b x y (refused s c f fault p k) ends e = absurd (beyond text a c f p e)
one_way text a b x y (refused s c f fault p k) (goes t d g content rest q l n) e = absurd (err_ok (same_content text a b c d f g _ _ p q e k l))
  where
    err_ok : ◌≡◌ {A = Result (Option TokenKind) LexFault} (Err fault) (Ok content) → ⊥
    err_ok h = cc
one_way text a b x y (refused s c f fault p k) (refused t d g fault' q l) e = err_err (same_content text a b c d f g _ _ p q e k l)
  where
    err_err : ◌≡◌ {A = Result (Option TokenKind) LexFault} (Err fault) (Err fault') → ◌≡◌ {A = Result (List Token) LexFault} (Err fault) (Err fault')
    err_err h = cc
one_way text a b x y (refused s c f fault p k) (stops t l none) e = absurd (none_begun text a b c f p none e)
one_way text a b x y (stops s l none) ends e = absurd (omega arith)
one_way text a b x y (stops s l none) (goes t d g content rest q k n) e = absurd (none_begun text b a d g q none (sym e))
one_way text a b x y (stops s l none) (refused t d g fault q k) e = absurd (none_begun text b a d g q none (sym e))
one_way text a b x y (stops s l none) (stops t l' none') e = rw e refl

pub lexes_one_way : LexesOneWay
lexes_one_way text x y p q = one_way text 0 0 x y p q refl
