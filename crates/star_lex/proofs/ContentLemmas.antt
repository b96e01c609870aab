-- The contents of names and texts.
use Rattle.std.proofs.Common.{◌≡◌, ◌≢◌, ◌<◌, ◌+◌, ◌∙◌, ◌||◌, ℕ, true, false, List, [], ◌∷◌, Option, Some, None, Ok, Err, map, length, drop, get_or, eqb, leb, cond, ap, sym, inl, inr, refl, arith}
use Rattle.std.specs.List.{list_all}
use Rattle.std.specs.Char.{is_ascii, is_ascii_digit, is_ascii_lowercase, is_ascii_uppercase, to_ascii_lowercase}
use Rattle.std.specs.Str.{is_utf8, str_to_ascii_lowercase}
use Rattle.std.proofs.lemmas.Bool.{and_parts, or_cases, or_left, eqb-true, leb-true, lt-ltb, le-ltb, ne_eqb, and_from, cases_lt}
use Rattle.std.proofs.lemmas.List.{drop_more, drop-drop}
use Rattle.blink_base.specs.Texts.{is_text}
use Rattle.blink_base.specs.Identifiers.{begins_name, is_name_byte}
use Rattle.star_lex.specs.declared.token.TokenKind.TheVariants as token
use Rattle.star_lex.specs.declared.token.LexFault.TheVariants as fault
use Rattle.star_lex.specs.Forms.{unpaired, inside, content_of, a_text}

name_high : (b : ℕ) → is_name_byte b ≡ true → b < 123
name_high b h = elim (or_cases (begins_name b) (is_ascii_digit b) h) [
  | inl e ↦ elim (or_cases (is_ascii_lowercase b || is_ascii_uppercase b) (eqb b 95) e) [
    | inl f ↦ elim (or_cases (is_ascii_lowercase b) (is_ascii_uppercase b) f) [
      | inl g ↦ let high = leb-true b 122 (and_parts (leb 97 b) (leb b 122) g).1 in omega arith
      | inr g ↦ let high = leb-true b 90 (and_parts (leb 65 b) (leb b 90) g).1 in omega arith
    ]
    | inr f ↦ let is = eqb-true b 95 f in omega arith
  ]
  | inr e ↦ let high = leb-true b 57 (and_parts (leb 48 b) (leb b 57) e).1 in omega arith
]

lower_ascii : (b : ℕ) → b < 123 → is_ascii (to_ascii_lowercase b) ≡ true
lower_ascii b high = elim (cases_lt b 65) [
  | inl less ↦ rw (lt-ltb b 65 less) (lt-ltb b 128 (omega arith))
  | inr more ↦ elim (cases_lt b 91) [
    | inl less ↦ rw (le-ltb b 65 more, lt-ltb b 91 less) (lt-ltb (b + 32) 128 (omega arith))
    | inr more' ↦ rw (le-ltb b 65 more, le-ltb b 91 more') (lt-ltb b 128 (omega arith))
  ]
]

-- a name in lower case is a text
pub name_text : (bytes : List ℕ) → list_all is_name_byte bytes ≡ true → is_text (str_to_ascii_lowercase bytes) ≡ true
name_text bytes all = or_left _ (is_utf8 (map to_ascii_lowercase bytes)) (by bytes all)
  where
    by : (bytes : List ℕ) → list_all is_name_byte bytes ≡ true → list_all is_ascii (map to_ascii_lowercase bytes) ≡ true
    by [] all = refl
    by (b ∷ rest) all =
        let parts = and_parts (is_name_byte b) (list_all is_name_byte rest) all in
        and_from (is_ascii (to_ascii_lowercase b)) (list_all is_ascii (map to_ascii_lowercase rest)) (lower_ascii b (name_high b parts.0)) (by rest parts.1)

quote_first : (rest : List ℕ) → unpaired (39 ∷ rest) ≡ 39 ∷ unpaired (drop 1 rest)
quote_first [] = refl
quote_first (c ∷ rest) = refl

byte_first : (b : ℕ) (rest : List ℕ) → b ≢ 39 → unpaired (b ∷ rest) ≡ b ∷ unpaired rest
byte_first b [] other = refl
byte_first b (c ∷ rest) other = rw (unpaired, ne_eqb b 39 other) refl

-- one byte of the inside of a text
pub quote_unpaired : (bytes : List ℕ) (at b : ℕ) → at < length bytes → b ≡ get_or bytes at 0 → b ≡ 39 → unpaired (drop at bytes) ≡ b ∷ unpaired (drop (at + 2) bytes)
quote_unpaired bytes at b l is quote =
    let front : drop at bytes ≡ 39 ∷ drop (at + 1) bytes = drop_more bytes at 0 l ∙ ap (λ x. x ∷ drop (at + 1) bytes) (sym is ∙ quote) in
    let two : at + 1 + 1 ≡ at + 2 = omega arith in
    ap unpaired front ∙ quote_first (drop (at + 1) bytes) ∙ rw (drop-drop 1 (at + 1) bytes, two, quote) refl

pub byte_unpaired : (bytes : List ℕ) (at b : ℕ) → at < length bytes → b ≡ get_or bytes at 0 → b ≢ 39 → unpaired (drop at bytes) ≡ b ∷ unpaired (drop (at + 1) bytes)
byte_unpaired bytes at b l is other =
    let front : drop at bytes ≡ b ∷ drop (at + 1) bytes = drop_more bytes at 0 l ∙ ap (λ x. x ∷ drop (at + 1) bytes) (sym is) in
    ap unpaired front ∙ byte_first b (drop (at + 1) bytes) other

-- a text whose content is a word, and one whose content is none
pub text_content : (bytes content w : List ℕ) (at : ℕ) (o : Option (List ℕ)) → content ≡ unpaired (inside bytes) → o ≡ cond (is_text content) (Some content) None → o ≡ Some w
    → Ok (Some (token.Text w)) ≡ content_of a_text bytes at
text_content bytes content w at o is word e =
    rw (← is) (elim (is_text content) as (λ t. o ≡ cond t (Some content) None → Ok (Some (token.Text w)) ≡ cond t (Ok (Some (token.Text content))) (Err (fault.BadByte at))) [
      | true ↦ λ f. let same : w ≡ content = cc in rw same refl
      | false ↦ λ f. cc
    ] word)

pub text_refused : (bytes content : List ℕ) (at : ℕ) (o : Option (List ℕ)) → content ≡ unpaired (inside bytes) → o ≡ cond (is_text content) (Some content) None → o ≡ None
    → Err (fault.BadByte at) ≡ content_of a_text bytes at
text_refused bytes content at o is word e =
    rw (← is) (elim (is_text content) as (λ t. o ≡ cond t (Some content) None → Err (fault.BadByte at) ≡ cond t (Ok (Some (token.Text content))) (Err (fault.BadByte at))) [
      | true ↦ λ f. cc
      | false ↦ λ f. refl
    ] word)
