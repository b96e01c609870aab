-- What a list of tokens or a text stands for. Source: this project's own.
use Rattle.std.specs.Prelude.{◌≡◌, ℕ, List, [], length, Option, Some, None}
use Rattle.star_lex.specs.declared.token.TokenKind.{TokenKind}
use Rattle.star_lex.specs.declared.token_list.Source.{Source}
use Rattle.star_lex.specs.declared.token_list.Source.TheVariants.{Listed, Written}
use Rattle.star_lex.specs.Kinds.{kinds_of}
use Rattle.star_lex.specs.TextKinds.{kinds_in, IsCut}

-- some tokens, or none
abbrev pub kinds_or_none : Option (List TokenKind) → List TokenKind
kinds_or_none (Some kinds) = kinds
kinds_or_none None = []

-- what the tokens say
abbrev pub kinds_left : Source → List TokenKind
kinds_left (Listed tokens) = kinds_of tokens.now
kinds_left (Written text) = kinds_or_none (kinds_in text.now)

-- so many tokens are left, and a text begins with the first of them
abbrev pub AreLeft : Source → ℕ → Type 0
AreLeft (Listed tokens) left = left ≡ length tokens.now
AreLeft (Written text) left = IsCut text.now left
