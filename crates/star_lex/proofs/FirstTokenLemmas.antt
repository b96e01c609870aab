-- The mark or the word that a text begins with.
use Rattle.std.proofs.Common.{◌≡◌, ◌≢◌, ◌<◌, ◌∙◌, ℕ, zero, suc, Bool, true, false, List, [], ◌∷◌, Option, Some, None, Ok, Err, length, take, get_or, eqb, cond, nat_le, pos, sym, refl, arith}
use Rattle.std.specs.Str.{bytes_eq, str_to_ascii_lowercase}
use Rattle.std.specs.Str.Parse.{digits_value}
use Rattle.std.specs.Char.{is_ascii_digit}
use Rattle.std.proofs.lemmas.Bool.{eqb-true}
use Rattle.blink_base.specs.Identifiers.{begins_name}
use Rattle.blink_base.specs.Numbers.{significant}
use Rattle.blink_base.specs.Texts.{is_text}
use Rattle.blink_base.specs.declared.limits.TheConstants.{MOST_DIGITS}
use Rattle.star_lex.specs.declared.token.Mark.{Mark}
use Rattle.star_lex.specs.declared.token.TokenKind.{TokenKind}
use Rattle.star_lex.specs.declared.token.TokenKind.TheVariants as token
use Rattle.star_lex.specs.declared.token.LexFault.{LexFault}
use Rattle.star_lex.specs.declared.token.LexFault.TheVariants as fault
use Rattle.star_lex.specs.Forms.{inside, unpaired, is_blank, mark_of_bytes}
use Rattle.star_lex.specs.Kinds.{first_mark, is_word}
use Rattle.star_lex.specs.Lex.{front_length, front_content, mark_content}
use Rattle.star_lex.specs.TextKinds.{SaysFirst}
use Rattle.star_lex.proofs.TokenLemmas.{name_content, number_content, text_open, text_closed, other_content}

-- a text with no byte has no first token, and any other has a byte
pub no_first : (text : List ℕ) (kind : TokenKind) → true ≡ eqb (length text) 0 → SaysFirst text kind → ⊥
no_first [] kind none says = cc
no_first (b ∷ rest) kind none says = let no : length (b ∷ rest) ≡ 0 = eqb-true (length (b ∷ rest)) 0 (sym none) in omega arith

pub some_bytes : (text : List ℕ) → false ≡ eqb (length text) 0 → 0 < length text
some_bytes [] some = cc
some_bytes (b ∷ rest) some = omega arith

-- what a token says where it is one of two things
said : (t : Bool) (x kind : TokenKind) (f : LexFault) → cond t (Ok (Some x)) (Err f) ≡ Ok (Some kind) → x ≡ kind
said true x kind f e = cc
said false x kind f e = cc

name_first : (text : List ℕ) (kind : TokenKind) → 0 < length text → begins_name (get_or text 0 0) ≡ true → SaysFirst text kind → token.Name (str_to_ascii_lowercase (take (front_length text) text)) ≡ kind
name_first text kind some e says = let content = sym (name_content text (front_length text) 0 some refl e) ∙ says in cc

-- no mark
pub name_no_mark : (text : List ℕ) (kind : TokenKind) (more : List TokenKind) → 0 < length text → begins_name (get_or text 0 0) ≡ true → SaysFirst text kind → None ≡ first_mark (kind ∷ more)
name_no_mark text kind more some e says = rw (← name_first text kind some e says) refl

pub number_no_mark : (text : List ℕ) (kind : TokenKind) (more : List TokenKind) → 0 < length text → begins_name (get_or text 0 0) ≡ false → is_ascii_digit (get_or text 0 0) ≡ true
    → SaysFirst text kind → None ≡ first_mark (kind ∷ more)
number_no_mark text kind more some e f says =
    let bytes = take (front_length text) text in
    rw (← said (nat_le (length (significant bytes)) MOST_DIGITS) (token.Number (pos (digits_value 10 bytes))) kind (fault.LongNumber 0) (sym (number_content text (front_length text) 0 some refl e f) ∙ says)) refl

pub text_no_mark : (text : List ℕ) (kind : TokenKind) (more : List TokenKind) → 0 < length text → get_or text 0 0 ≡ 39 → SaysFirst text kind → None ≡ first_mark (kind ∷ more)
text_no_mark text kind more some e says = by (front_length text) refl says
  where
    by : (n : ℕ) → n ≡ front_length text → front_content n 0 text ≡ Ok (Some kind) → None ≡ first_mark (kind ∷ more)
    by zero size says = let unclosed = sym (text_open text 0 0 some e refl) ∙ says in cc
    by (suc n) size says =
        let w = unpaired (inside (take (suc n) text)) in
        rw (← said (is_text w) (token.Text w) kind (fault.BadByte 0) (sym (text_closed text (suc n) 0 some size e (λ none. omega arith)).1 ∙ says)) refl

-- a mark
pub other_mark : (text : List ℕ) (kind : TokenKind) (more : List TokenKind) → 0 < length text → begins_name (get_or text 0 0) ≡ false → is_ascii_digit (get_or text 0 0) ≡ false → get_or text 0 0 ≢ 39
    → SaysFirst text kind → mark_of_bytes (take (front_length text) text) ≡ first_mark (kind ∷ more)
other_mark text kind more some e f g says = by (is_blank (take n text)) (mark_of_bytes (take n text)) (sym (other_content text n 0 some refl e f g) ∙ says)
  where
    n : ℕ
    n = front_length text

    by : (t : Bool) (m : Option Mark) → cond t (Ok None) (mark_content m 0) ≡ Ok (Some kind) → m ≡ first_mark (kind ∷ more)
    by true m is = cc
    by false None is = cc
    by false (Some m) is = let same : token.Symbol m ≡ kind = cc in rw (← same) refl

-- a word
pub name_word : (text word : List ℕ) (kind : TokenKind) → 0 < length text → begins_name (get_or text 0 0) ≡ true → SaysFirst text kind
    → bytes_eq (str_to_ascii_lowercase (take (front_length text) text)) word ≡ is_word word kind
name_word text word kind some e says = rw (← name_first text kind some e says) refl

pub no_word : (text word : List ℕ) (kind : TokenKind) → 0 < length text → begins_name (get_or text 0 0) ≡ false → SaysFirst text kind → false ≡ is_word word kind
no_word text word kind some e says = by (is_ascii_digit (get_or text 0 0)) (eqb (get_or text 0 0) 39) refl refl
  where
    n : ℕ
    n = front_length text

    bytes : List ℕ
    bytes = take (front_length text) text

    quoted : (n : ℕ) → n ≡ front_length text → get_or text 0 0 ≡ 39 → front_content n 0 text ≡ Ok (Some kind) → false ≡ is_word word kind
    quoted zero size q says = let unclosed = sym (text_open text 0 0 some q refl) ∙ says in cc
    quoted (suc n) size q says =
        let w = unpaired (inside (take (suc n) text)) in
        rw (← said (is_text w) (token.Text w) kind (fault.BadByte 0) (sym (text_closed text (suc n) 0 some size q (λ none. omega arith)).1 ∙ says)) refl

    other : (t : Bool) (m : Option Mark) → cond t (Ok None) (mark_content m 0) ≡ Ok (Some kind) → false ≡ is_word word kind
    other true m is = cc
    other false None is = cc
    other false (Some m) is = let same : token.Symbol m ≡ kind = cc in rw (← same) refl

    by : (d q : Bool) → is_ascii_digit (get_or text 0 0) ≡ d → eqb (get_or text 0 0) 39 ≡ q → false ≡ is_word word kind
    by true q f g = rw (← said (nat_le (length (significant bytes)) MOST_DIGITS) (token.Number (pos (digits_value 10 bytes))) kind (fault.LongNumber 0) (sym (number_content text n 0 some refl e f) ∙ says)) refl
    by false true f g = quoted n refl (eqb-true (get_or text 0 0) 39 g) says
    by false false f g = other (is_blank (take n text)) (mark_of_bytes (take n text)) (sym (other_content text n 0 some refl e f (λ h. let same = rw h at g in cc)) ∙ says)
