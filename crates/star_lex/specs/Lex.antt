-- The tokens of a piece, or the first place where none begins. Source: ISO/IEC 9075 (lexical elements), in this project's own profile.
use Rattle.std.specs.Prelude.{◌≡◌, ℕ, zero, suc, ◌+◌, ◌<◌, ◌≤◌, true, false, ◌&&◌, ◌==◌, List, [], ◌∷◌, length, take, drop, slice_range, is_some, Option, Some, None, option_map, Result, Ok, Err, if◌then◌else◌}
use Rattle.std.specs.List.{position_or_len, prefix_len}
use Rattle.std.specs.Char.{is_ascii_digit}
use Rattle.std.specs.Option.{option_map_or}
use Rattle.blink_base.specs.Identifiers.{begins_name, is_name_byte}
use Rattle.star_lex.specs.declared.token.Mark.{Mark}
use Rattle.star_lex.specs.declared.token.TokenKind.{TokenKind}
use Rattle.star_lex.specs.declared.token.TokenKind.TheVariants as token
use Rattle.star_lex.specs.declared.token.Token.{Token}
use Rattle.star_lex.specs.declared.token.LexFault.{LexFault}
use Rattle.star_lex.specs.declared.token.LexFault.TheVariants as fault
use Rattle.star_lex.specs.Pieces.{quote, dash, line_feed}
use Rattle.star_lex.specs.Forms.{Form, form_of, content_of, fault_of, mark_of_bytes}

-- the form that the bytes of a piece from one place to another have
abbrev pub form_between : List ℕ → ℕ → ℕ → Option Form
form_between text start end = form_of (slice_range text start end) (drop end text)

-- some bytes of a piece have a form, and no longer ones from the same start have any
pub record IsLongest (text : List ℕ) (start end : ℕ) (form : Form) : Type 0 where
  pub within : end ≤ length text
  pub formed : form_between text start end ≡ Some form
  pub longest : (later : ℕ) → end < later → later ≤ length text → form_between text start later ≡ None

-- no form begins at a place
abbrev pub NoneBegins : List ℕ → ℕ → Type 0
NoneBegins text at = (end : ℕ) → at < end → end ≤ length text → form_between text at end ≡ None

-- the content of a form in front of the tokens of the rest, where the rest has no fault
abbrev pub content_before : Option TokenKind → ℕ → ℕ → Result (List Token) LexFault → Result (List Token) LexFault
content_before None start end rest = rest
content_before (Some kind) start end (Ok tokens) = Ok (record { kind = kind; start = start; end = end } ∷ tokens)
content_before (Some kind) start end (Err fault) = Err fault

-- From a place on a piece is cut into longest forms, one behind the other: its tokens are their contents.
-- Or it is so cut up to a first place, where what the longest form says isn't allowed, or where no form begins.
pub data Lexes (text : List ℕ) : ℕ → Result (List Token) LexFault → Type 0 where
  ends : Lexes text (length text) (Ok [])
  goes : (start end : ℕ) (form : Form) (content : Option TokenKind) (rest : Result (List Token) LexFault)
      → IsLongest text start end form → content_of form (slice_range text start end) start ≡ Ok content
      → Lexes text end rest → Lexes text start (content_before content start end rest)
  refused : (start end : ℕ) (form : Form) (fault : LexFault)
      → IsLongest text start end form → content_of form (slice_range text start end) start ≡ Err fault
      → Lexes text start (Err fault)
  stops : (start : ℕ) → start < length text → NoneBegins text start → Lexes text start (Err (fault_of (drop start text) start))

-- how many bytes stand behind a text's first quote up to the quote that closes it, where one does
abbrev pub closed_length : List ℕ → Option ℕ
closed_length [] = None
closed_length (b ∷ []) = elim (b == quote) [ true ↦ Some 1 | false ↦ None ]
closed_length (b ∷ c ∷ rest) =
    elim (b == quote) [
      | true ↦ elim (c == quote) [ true ↦ option_map (λ n. n + 2) (closed_length rest) | false ↦ Some 1 ]
      | false ↦ option_map (λ n. n + 1) (closed_length (c ∷ rest))
    ]

-- the length of a comment or of a mark of two bytes at the front, and else one byte
abbrev pub other_length : List ℕ → ℕ
other_length [] = 0
other_length (b ∷ []) = 1
other_length (b ∷ c ∷ rest) =
    if b == dash && c == dash then 2 + position_or_len (λ x. x == line_feed) rest
    else if is_some (mark_of_bytes (b ∷ c ∷ [])) then 2
    else 1

-- the length of what begins at the front, where something does
abbrev pub front_length : List ℕ → ℕ
front_length [] = 0
front_length (b ∷ rest) =
    if begins_name b then 1 + prefix_len is_name_byte rest
    else if is_ascii_digit b then 1 + prefix_len is_ascii_digit rest
    else if b == quote then option_map_or (λ n. n + 1) (closed_length rest) 0
    else other_length (b ∷ rest)

-- the content of a mark, or the fault where there is none
abbrev pub mark_content : Option Mark → ℕ → Result (Option TokenKind) LexFault
mark_content None at = Err (fault.BadByte at)
mark_content (Some m) at = Ok (Some (token.Symbol m))

-- the content of the first n bytes, or the fault where they have no form
abbrev pub content_if_formed : Option Form → ℕ → ℕ → List ℕ → Result (Option TokenKind) LexFault
content_if_formed None n at rest = Err (fault_of rest at)
content_if_formed (Some form) n at rest = content_of form (take n rest) at

-- the content of the first n bytes
abbrev pub front_content : ℕ → ℕ → List ℕ → Result (Option TokenKind) LexFault
front_content n at rest = content_if_formed (form_of (take n rest) (drop n rest)) n at rest

-- the content of the front, and then the tokens of the rest
abbrev pub lexed_from : ℕ → ℕ → List ℕ → Result (List Token) LexFault
lexed_from zero at rest = Ok []
lexed_from (suc more) at [] = Ok []
lexed_from (suc more) at (b ∷ rest) =
    let n = front_length (b ∷ rest) in
    elim (front_content n at (b ∷ rest)) [ Err fault ↦ Err fault | Ok content ↦ content_before content at (at + n) (lexed_from more (at + n) (drop n (b ∷ rest))) ]

-- the tokens of a piece, or its first fault
abbrev pub lexed : List ℕ → Result (List Token) LexFault
lexed text = lexed_from (length text) 0 text

-- The law that the two say the same: the tokens computed are the longest forms.
abbrev pub LexedIsLongest : Type 0
LexedIsLongest = (text : List ℕ) → Lexes text 0 (lexed text)

-- The law that a piece lexes in one way.
abbrev pub LexesOneWay : Type 0
LexesOneWay = (text : List ℕ) (x y : Result (List Token) LexFault) → Lexes text 0 x → Lexes text 0 y → x ≡ y
