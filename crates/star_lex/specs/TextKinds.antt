-- What the tokens of a text say, and whether white space stands before the first. Source: this project's own.
use Rattle.std.specs.Prelude.{◌≡◌, ◌≤◌, ℕ, Bool, false, ◌&&◌, ◌==◌, List, ◌∷◌, length, take, Option, Some, None, Result, Ok, Err, option_map, if◌then◌else◌}
use Rattle.std.specs.Result.{result_ok}
use Rattle.blink_base.specs.declared.limits.TheConstants.{LONGEST_INPUT}
use Rattle.star_lex.specs.declared.token.Token.{Token}
use Rattle.star_lex.specs.declared.token.TokenKind.{TokenKind}
use Rattle.star_lex.specs.declared.token.LexFault.{LexFault}
use Rattle.star_lex.specs.Forms.{is_blank}
use Rattle.star_lex.specs.Pieces.{dash}
use Rattle.star_lex.specs.Kinds.{kinds_of}
use Rattle.star_lex.specs.Lex.{lexed, front_length, front_content}

-- what the tokens of a text say, where it has no fault
abbrev pub kinds_in : List ℕ → Option (List TokenKind)
kinds_in text = option_map kinds_of (result_ok (lexed text))

-- whether two dashes stand in front
abbrev pub begins_comment : List ℕ → Bool
begins_comment (b ∷ c ∷ rest) = b == dash && c == dash
begins_comment _ = false

-- whether white space stands in front
abbrev pub begins_blank : List ℕ → Bool
begins_blank text = is_blank (take (front_length text) text)

-- the length of the white space in front
abbrev pub blank_length : List ℕ → ℕ
blank_length text = if begins_blank text then front_length text else 0

-- a text begins with a token that says this
abbrev pub SaysFirst : List ℕ → TokenKind → Type 0
SaysFirst text kind = front_content (front_length text) 0 text ≡ Ok (Some kind)

-- a text of so many tokens, which begins with the first of them
pub record IsCut (text : List ℕ) (left : ℕ) : Type 0 where
  pub short : length text ≤ LONGEST_INPUT
  pub begun : begins_blank text ≡ false
  pub kinds : List TokenKind
  pub read : kinds_in text ≡ Some kinds
  pub count : left ≡ length kinds

-- one for a token, and none for white space
abbrev pub counted : Option TokenKind → ℕ
counted None = 0
counted (Some kind) = 1

-- the same of what may have a fault
abbrev pub counted_or_fault : Result (Option TokenKind) LexFault → Result ℕ LexFault
counted_or_fault (Ok content) = Ok (counted content)
counted_or_fault (Err fault) = Err fault

-- how many tokens there are, or the fault
abbrev pub count_or_fault : Result (List Token) LexFault → Result ℕ LexFault
count_or_fault (Ok tokens) = Ok (length tokens)
count_or_fault (Err fault) = Err fault
