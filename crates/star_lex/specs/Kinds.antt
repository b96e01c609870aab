-- What tokens say, without their places. Source: ISO/IEC 9075 (lexical elements), in this project's own profile.
use Rattle.std.specs.Prelude.{ℕ, Bool, false, List, [], ◌∷◌, map, Option, Some, None, Result, Ok, Err}
use Rattle.std.specs.Str.{bytes_eq}
use Rattle.star_lex.specs.declared.token.Mark.{Mark}
use Rattle.star_lex.specs.declared.token.Token.{Token}
use Rattle.star_lex.specs.declared.token.TokenKind.{TokenKind}
use Rattle.star_lex.specs.declared.token.TokenKind.TheVariants.{Name, Number, Text, Symbol}
use Rattle.star_lex.specs.declared.token.LexFault.{LexFault}

-- what tokens say, without their places
abbrev pub kinds_of : List Token → List TokenKind
kinds_of tokens = map (λ t. t.kind) tokens

-- what the tokens of a piece say, or its first fault
abbrev pub kinds_or_fault : Result (List Token) LexFault → Result (List TokenKind) LexFault
kinds_or_fault (Ok tokens) = Ok (kinds_of tokens)
kinds_or_fault (Err fault) = Err fault

-- the mark that stands first, where one does
abbrev pub first_mark : List TokenKind → Option Mark
first_mark (Symbol m ∷ ts) = Some m
first_mark _ = None

-- whether a token is this word
abbrev pub is_word : List ℕ → TokenKind → Bool
is_word word (Name w) = bytes_eq w word
is_word word (Number n) = false
is_word word (Text w) = false
is_word word (Symbol m) = false

-- whether a token stands first that passes the test
abbrev pub begins_with : (TokenKind → Bool) → List TokenKind → Bool
begins_with test [] = false
begins_with test (t ∷ ts) = test t
