-- What the tokens of a text say does not depend on where it stands, and is cut one form at a time.
use Rattle.std.proofs.Common.{◌≡◌, ◌≢◌, ◌≤◌, ◌<◌, ◌+◌, ◌∙◌, ℕ, zero, suc, Bool, true, false, List, [], ◌∷◌, Option, Some, None, Result, Ok, Err, length, take, drop, cond, nat_le, pos, ap, sym, refl, arith}
use Rattle.std.specs.Option.{option_map, option_or}
use Rattle.std.specs.Result.{result_ok}
use Rattle.std.specs.Str.Parse.{digits_value}
use Rattle.std.proofs.lemmas.List.{length-drop}
use Rattle.blink_base.specs.Texts.{is_text}
use Rattle.blink_base.specs.Numbers.{is_digits, significant}
use Rattle.blink_base.specs.declared.limits.TheConstants.{MOST_DIGITS}
use Rattle.star_lex.specs.declared.token.Mark.{Mark}
use Rattle.star_lex.specs.declared.token.Token.{Token}
use Rattle.star_lex.specs.declared.token.TokenKind.{TokenKind}
use Rattle.star_lex.specs.declared.token.TokenKind.TheVariants as token
use Rattle.star_lex.specs.declared.token.LexFault.{LexFault}
use Rattle.star_lex.specs.declared.token.LexFault.TheVariants as fault
use Rattle.star_lex.specs.Forms.{Form, blank, a_name, a_number, a_text, a_mark, form_if, form_of, mark_form, mark_of_bytes, is_blank, is_name_form, is_text_form, content_of, inside, unpaired}
use Rattle.star_lex.specs.Kinds.{kinds_of}
use Rattle.star_lex.specs.Lex.{front_length, content_before, content_if_formed, front_content, lexed_from}
use Rattle.star_lex.specs.TextKinds.{kinds_in, begins_blank, SaysFirst, IsCut}

-- a content is there or not, wherever it stands
chosen : {A : Type 0} (t : Bool) (x : A) (e f : LexFault) → result_ok (cond t (Ok x) (Err e)) ≡ result_ok (cond t (Ok x) (Err f))
chosen true x e f = refl
chosen false x e f = refl

content_there : (form : Form) (bytes : List ℕ) (at to : ℕ) → result_ok (content_of form bytes at) ≡ result_ok (content_of form bytes to)
content_there blank bytes at to = refl
content_there a_name bytes at to = refl
content_there a_number bytes at to = chosen (nat_le (length (significant bytes)) MOST_DIGITS) (Some (token.Number (pos (digits_value 10 bytes)))) (fault.LongNumber at) (fault.LongNumber to)
content_there a_text bytes at to = chosen (is_text (unpaired (inside bytes))) (Some (token.Text (unpaired (inside bytes)))) (fault.BadByte at) (fault.BadByte to)
content_there (a_mark m) bytes at to = refl

front_there : (n at to : ℕ) (rest : List ℕ) → result_ok (front_content n at rest) ≡ result_ok (front_content n to rest)
front_there n at to rest = by (form_of (take n rest) (drop n rest))
  where
    by : (o : Option Form) → result_ok (content_if_formed o n at rest) ≡ result_ok (content_if_formed o n to rest)
    by None = refl
    by (Some form) = content_there form (take n rest) at to

-- a content in front of what the rest says
abbrev pub kind_before : Option TokenKind → Option (List TokenKind) → Option (List TokenKind)
kind_before None kinds = kinds
kind_before (Some kind) kinds = option_map (λ more. kind ∷ more) kinds

abbrev follows : Option (Option TokenKind) → Option (List TokenKind) → Option (List TokenKind)
follows None kinds = None
follows (Some content) kinds = kind_before content kinds

abbrev said : Result (List Token) LexFault → Option (List TokenKind)
said r = option_map kinds_of (result_ok r)

said_before : (content : Option TokenKind) (start end : ℕ) (r : Result (List Token) LexFault) → said (content_before content start end r) ≡ kind_before content (said r)
said_before None start end r = refl
said_before (Some kind) start end (Ok tokens) = refl
said_before (Some kind) start end (Err fault) = refl

said_step : (more at b : ℕ) (rest : List ℕ)
    → said (lexed_from (suc more) at (b ∷ rest))
    ≡ follows (result_ok (front_content (front_length (b ∷ rest)) at (b ∷ rest))) (said (lexed_from more (at + front_length (b ∷ rest)) (drop (front_length (b ∷ rest)) (b ∷ rest))))
said_step more at b rest = by (front_length (b ∷ rest)) (front_content (front_length (b ∷ rest)) at (b ∷ rest))
  where
    by : (n : ℕ) (k : Result (Option TokenKind) LexFault)
        → said (elim k [ Err fault ↦ Err fault | Ok content ↦ content_before content at (at + n) (lexed_from more (at + n) (drop n (b ∷ rest))) ])
        ≡ follows (result_ok k) (said (lexed_from more (at + n) (drop n (b ∷ rest))))
    by n (Err fault) = refl
    by n (Ok content) = said_before content at (at + n) (lexed_from more (at + n) (drop n (b ∷ rest)))

-- what has a content has a byte
has_byte : (left : List ℕ) (n at : ℕ) (content : Option TokenKind) → result_ok (front_content n at left) ≡ Some content → 1 ≤ n
has_byte left zero at content e = cc
has_byte left (suc n) at content e = omega arith

same : (n at : ℕ) (text : List ℕ) (o : Option (Option TokenKind)) (x y : Option (List TokenKind)) → result_ok (front_content n at text) ≡ o → (1 ≤ n → x ≡ y) → follows o x ≡ follows o y
same n at text None x y e rest = refl
same n at text (Some content) x y e rest = ap (kind_before content) (rest (has_byte text n at content e))

said_there : (more much at to : ℕ) (rest : List ℕ) → length rest ≤ more → length rest ≤ much → said (lexed_from more at rest) ≡ said (lexed_from much to rest)
said_there zero zero at to [] few some = refl
said_there zero (suc much) at to [] few some = refl
said_there (suc more) zero at to [] few some = refl
said_there (suc more) (suc much) at to [] few some = refl
said_there zero much at to (b ∷ rest) few some = absurd (omega arith)
said_there (suc more) zero at to (b ∷ rest) few some = absurd (omega arith)
said_there (suc more) (suc much) at to (b ∷ rest) few some =
    said_step more at b rest
    ∙ same (front_length (b ∷ rest)) at (b ∷ rest) (result_ok (front_content (front_length (b ∷ rest)) at (b ∷ rest))) _ _ refl
    (λ byte. let left = length-drop (front_length (b ∷ rest)) (b ∷ rest) in said_there more much (at + front_length (b ∷ rest)) (to + front_length (b ∷ rest)) (drop (front_length (b ∷ rest)) (b ∷ rest)) (omega arith) (omega arith))
    ∙ ap (λ o. follows o (said (lexed_from much (to + front_length (b ∷ rest)) (drop (front_length (b ∷ rest)) (b ∷ rest))))) (front_there (front_length (b ∷ rest)) at to (b ∷ rest))
    ∙ sym (said_step much to b rest)

-- what a text says by its first form
kinds_step : (text : List ℕ) (n at : ℕ) (content : Option TokenKind) → 0 < length text → n ≡ front_length text → front_content n at text ≡ Ok content
    → kinds_in text ≡ kind_before content (kinds_in (drop n text))
kinds_step [] n at content some size is = absurd (omega arith)
kinds_step (b ∷ rest) n at content some size is =
    let e : result_ok (front_content n 0 (b ∷ rest)) ≡ Some content = front_there n 0 at (b ∷ rest) ∙ ap result_ok is in
    let byte = has_byte (b ∷ rest) n 0 content e in
    let left = length-drop n (b ∷ rest) in
    said_step (length rest) 0 b rest
    ∙ ap (λ m. follows (result_ok (front_content m 0 (b ∷ rest))) (said (lexed_from (length rest) (0 + m) (drop m (b ∷ rest))))) (sym size)
    ∙ ap (λ o. follows o (said (lexed_from (length rest) (0 + n) (drop n (b ∷ rest))))) e
    ∙ ap (kind_before content) (said_there (length rest) (length (drop n (b ∷ rest))) (0 + n) 0 (drop n (b ∷ rest)) (omega arith) (omega arith))

-- a text without a fault has a content in front
content_first : (text : List ℕ) (kinds : List TokenKind) → 0 < length text → kinds_in text ≡ Some kinds → (content : Option TokenKind) × (front_content (front_length text) 0 text ≡ Ok content)
content_first [] kinds some read = absurd (omega arith)
content_first (b ∷ rest) kinds some read = by (front_content (front_length (b ∷ rest)) 0 (b ∷ rest)) refl (sym (said_step (length rest) 0 b rest) ∙ read)
  where
    by : (k : Result (Option TokenKind) LexFault) → front_content (front_length (b ∷ rest)) 0 (b ∷ rest) ≡ k
        → follows (result_ok (front_content (front_length (b ∷ rest)) 0 (b ∷ rest))) (said (lexed_from (length rest) (0 + front_length (b ∷ rest)) (drop (front_length (b ∷ rest)) (b ∷ rest)))) ≡ Some kinds
        → (content : Option TokenKind) × (front_content (front_length (b ∷ rest)) 0 (b ∷ rest) ≡ Ok content)
    by (Ok content) e read = (content, e)
    by (Err fault) e read = let none = rw e at read in cc

-- white space says nothing, and what is no white space says something
blank_says : (text : List ℕ) (n at : ℕ) → is_blank (take n text) ≡ true → front_content n at text ≡ Ok None
blank_says text n at e = rw e refl

something : (t : Bool) (x : Option TokenKind) (f : LexFault) → x ≢ None → cond t (Ok x) (Err f) ≢ Ok None
something true x f some e = let none : x ≡ None = cc in some none
something false x f some e = cc

other_says : (text : List ℕ) (n at : ℕ) (s d t : Bool) (m : Option Mark)
    → content_if_formed (option_or (form_if s a_name) (option_or (form_if d a_number) (option_or (form_if t a_text) (mark_form m)))) n at text ≢ Ok None
other_says text n at true d t m e = cc
other_says text n at false true t m e = something (nat_le (length (significant (take n text))) MOST_DIGITS) (Some (token.Number (pos (digits_value 10 (take n text))))) (fault.LongNumber at) (λ f. cc) e
other_says text n at false false true m e = something (is_text (unpaired (inside (take n text)))) (Some (token.Text (unpaired (inside (take n text))))) (fault.BadByte at) (λ f. cc) e
other_says text n at false false false None e = cc
other_says text n at false false false (Some m) e = cc

pub not_blank : (text : List ℕ) (n at : ℕ) → is_blank (take n text) ≡ false → front_content n at text ≢ Ok None
not_blank text n at e = rw e (other_says text n at (is_name_form (take n text)) (is_digits (take n text)) (is_text_form (take n text) (drop n text)) (mark_of_bytes (take n text)))

pub blank_passed : (text : List ℕ) (n : ℕ) → n ≡ front_length text → begins_blank text ≡ true → kinds_in text ≡ kinds_in (drop n text)
blank_passed [] n size e = cc
blank_passed (b ∷ rest) n size e = kinds_step (b ∷ rest) n 0 None (omega arith) size (blank_says (b ∷ rest) n 0 (rw size e))

-- the first token of a text, and those behind it
pub record HasFirst (text : List ℕ) (left : ℕ) : Type 0 where
  pub some : 0 < length text
  pub first : TokenKind
  pub more : List TokenKind
  pub says : SaysFirst text first
  pub parts : kinds_in text ≡ Some (first ∷ more)
  pub behind : kinds_in (drop (front_length text) text) ≡ Some more
  pub count : left ≡ 1 + length more

kinds_behind : (text : List ℕ) (kinds : List TokenKind) → 0 < length text → begins_blank text ≡ false → kinds_in text ≡ Some kinds → HasFirst text (length kinds)
kinds_behind text kinds some begun read = let content = content_first text kinds some read in by content.0 content.1
  where
    by : (content : Option TokenKind) → front_content (front_length text) 0 text ≡ Ok content → HasFirst text (length kinds)
    by None is = absurd (not_blank text (front_length text) 0 begun is)
    by (Some first) is = parts (kinds_in (drop (front_length text) text)) refl (sym (kinds_step text (front_length text) 0 (Some first) some refl is) ∙ read)
      where
        parts : (o : Option (List TokenKind)) → kinds_in (drop (front_length text) text) ≡ o → option_map (λ more. first ∷ more) (kinds_in (drop (front_length text) text)) ≡ Some kinds → HasFirst text (length kinds)
        parts None e all = let none = rw e at all in cc
        parts (Some more) e all =
            let whole = rw e at all in
            let same : kinds ≡ first ∷ more = cc in
            record { some = some; first = first; more = more; says = is; parts = read ∙ ap (λ (x : List TokenKind). Some x) same; behind = e; count = rw same (omega arith) }

pub has_first : (text : List ℕ) (left : ℕ) → IsCut text left → left ≢ 0 → HasFirst text left
has_first [] left cut some = let none = cut.read in let count = cut.count in let empty : cut.kinds ≡ [] = cc in absurd (some (count ∙ ap length empty))
has_first (b ∷ rest) left cut some = rw cut.count (kinds_behind (b ∷ rest) cut.kinds (omega arith) cut.begun cut.read)
