-- The forms of tokens and of the white space between them. Source: ISO/IEC 9075 (lexical elements), in this project's own profile.
use Rattle.std.specs.Prelude.{ℕ, ◌-◌, Bool, true, false, not, ◌&&◌, ◌||◌, ◌==◌, List, [], ◌∷◌, length, take, drop, nat_le, pos, Option, Some, None, if◌then◌else◌, Result, Ok, Err}
use Rattle.std.specs.List.{list_all}
use Rattle.std.specs.Option.{option_or}
use Rattle.std.specs.Str.{str_to_ascii_lowercase}
use Rattle.blink_base.specs.Texts.{is_text}
use Rattle.std.specs.Str.Parse.{digits_value}
use Rattle.blink_base.specs.Numbers.{is_digits, significant}
use Rattle.blink_base.specs.declared.limits.TheConstants.{MOST_DIGITS}
use Rattle.blink_base.specs.Identifiers.{begins_name, is_name_byte}
use Rattle.star_lex.specs.declared.token.Mark.{Mark}
use Rattle.star_lex.specs.declared.token.Mark.TheVariants as mark
use Rattle.star_lex.specs.declared.token.TokenKind.{TokenKind}
use Rattle.star_lex.specs.declared.token.TokenKind.TheVariants as token
use Rattle.star_lex.specs.declared.token.LexFault.{LexFault}
use Rattle.star_lex.specs.declared.token.LexFault.TheVariants as fault
use Rattle.star_lex.specs.Pieces.{quote, dash, line_feed}

-- what bytes may be: white space, a name, a number, a text, or a mark
pub data Form : Type 0 where
  blank : Form
  a_name : Form
  a_number : Form
  a_text : Form
  a_mark : Mark → Form

-- the form where the test is passed
abbrev pub form_if : Bool → Form → Option Form
form_if true form = Some form
form_if false form = None

-- a space, a tab, a line feed or a carriage return
abbrev pub is_blank_byte : ℕ → Bool
is_blank_byte b = b == 32 || b == 9 || b == line_feed || b == 13

-- two dashes, and no line feed behind them
abbrev pub is_comment : List ℕ → Bool
is_comment (b ∷ c ∷ rest) = b == dash && c == dash && list_all (λ x. not (x == line_feed)) rest
is_comment _ = false

-- one byte of white space, or a comment
abbrev pub is_blank : List ℕ → Bool
is_blank (b ∷ []) = is_blank_byte b
is_blank bytes = is_comment bytes

-- a letter or an underscore, then letters, underscores and digits
abbrev pub is_name_form : List ℕ → Bool
is_name_form [] = false
is_name_form (b ∷ rest) = begins_name b && list_all is_name_byte rest

-- what stands behind a text's first quote: bytes other than quotes, pairs of quotes, and one last quote
abbrev pub closes_text : List ℕ → Bool
closes_text [] = false
closes_text (b ∷ []) = b == quote
closes_text (b ∷ c ∷ rest) = elim (b == quote) [ true ↦ c == quote && closes_text rest | false ↦ closes_text (c ∷ rest) ]

-- all but the first and the last byte
abbrev pub inside : List ℕ → List ℕ
inside bytes = take (length bytes - 2) (drop 1 bytes)

-- whether a quote stands in front
abbrev pub begins_with_quote : List ℕ → Bool
begins_with_quote [] = false
begins_with_quote (b ∷ rest) = b == quote

-- a quote, bytes in which quotes are paired, and a quote that no further quote follows
abbrev pub is_text_form : List ℕ → List ℕ → Bool
is_text_form [] behind = false
is_text_form (b ∷ rest) behind = b == quote && closes_text rest && not (begins_with_quote behind)

-- the mark that the bytes are
abbrev pub mark_of_bytes : List ℕ → Option Mark
mark_of_bytes (b ∷ []) =
    if b == 40 then Some mark.Left else if b == 41 then Some mark.Right else if b == 44 then Some mark.Comma else if b == 46 then Some mark.Dot
    else if b == 42 then Some mark.Star else if b == 43 then Some mark.Plus else if b == 45 then Some mark.Minus else if b == 61 then Some mark.Equal
    else if b == 60 then Some mark.Less else if b == 62 then Some mark.Greater else None
mark_of_bytes (b ∷ c ∷ []) =
    if b == 60 && c == 61 then Some mark.LessEqual else if b == 62 && c == 61 then Some mark.GreaterEqual else if b == 60 && c == 62 then Some mark.Unequal else None
mark_of_bytes _ = None

-- the form of a mark
abbrev pub mark_form : Option Mark → Option Form
mark_form None = None
mark_form (Some m) = Some (a_mark m)

-- the form of these bytes, where they have one; what stands behind them matters to a text alone
abbrev pub form_of : List ℕ → List ℕ → Option Form
form_of bytes behind =
    option_or (form_if (is_blank bytes) blank)
    (option_or (form_if (is_name_form bytes) a_name)
    (option_or (form_if (is_digits bytes) a_number)
    (option_or (form_if (is_text_form bytes behind) a_text) (mark_form (mark_of_bytes bytes)))))

-- a text's inside, each pair of quotes as one
abbrev pub unpaired : List ℕ → List ℕ
unpaired [] = []
unpaired (b ∷ []) = b ∷ []
unpaired (b ∷ c ∷ rest) = b ∷ (elim (b == quote) [ true ↦ unpaired rest | false ↦ unpaired (c ∷ rest) ])

-- the content of bytes of a form that begin at a place: none of white space, or a token's kind; or the fault there
abbrev pub content_of : Form → List ℕ → ℕ → Result (Option TokenKind) LexFault
content_of blank bytes at = Ok None
content_of a_name bytes at = Ok (Some (token.Name (str_to_ascii_lowercase bytes)))
content_of a_number bytes at = if nat_le (length (significant bytes)) MOST_DIGITS then Ok (Some (token.Number (pos (digits_value 10 bytes)))) else Err (fault.LongNumber at)
content_of a_text bytes at = let w = unpaired (inside bytes) in if is_text w then Ok (Some (token.Text w)) else Err (fault.BadByte at)
content_of (a_mark m) bytes at = Ok (Some (token.Symbol m))

-- the fault at a place where no form begins
abbrev pub fault_of : List ℕ → ℕ → LexFault
fault_of rest at = if begins_with_quote rest then fault.OpenText at else fault.BadByte at
