-- What a piece of a script says: a statement, or the refusal of its text. Source: this project's own.
use Rattle.std.specs.Prelude.{◌≡◌, Bool, true, false, List, [], ◌∷◌, ℕ, Result, Ok, Err}
use Rattle.std.specs.Bool.{MatchBool}
use Rattle.blink_base.specs.declared.refusal.Refusal.{Refusal}
use Rattle.blink_base.specs.declared.refusal.Refusal.TheVariants.{Syntax, TooDeep, NumberTooLong}
use Rattle.star_lex.specs.declared.token.Token.{Token}
use Rattle.star_lex.specs.declared.token.LexFault.{LexFault}
use Rattle.star_lex.specs.declared.token.LexFault.TheVariants as fault
use Rattle.star_lex.specs.Lex.{lexed}
use Rattle.star_lex.specs.Kinds.{kinds_of}
use Rattle.star_sql.specs.declared.ast.Statement.{Statement}
use Rattle.star_sql.specs.Spelling.{Spelled}
use Rattle.star_sql.specs.ParseResult.{is_deep, IsSpelled}

-- the refusal of a piece that has no tokens; want of memory is no fault of a text
abbrev pub text_refusal : LexFault → Refusal
text_refusal (fault.BadByte at) = Syntax
text_refusal (fault.OpenText at) = Syntax
text_refusal (fault.LongNumber at) = NumberTooLong
text_refusal fault.Memory = Syntax

-- what a piece may say
abbrev pub Said : Type 0
Said = Result Statement Refusal

-- the statement so spelled, and otherwise that there is none
abbrev pub SaysKinds : Spelled → Said → Type 0
SaysKinds kinds (Ok s) = IsSpelled kinds s
SaysKinds kinds (Err why) = (why ≡ Syntax) × ((s : Statement) → IsSpelled kinds s → ⊥)

-- first the first place at fault, then the depth, then the spelling
abbrev pub SaysTokens : Result (List Token) LexFault → Said → Type 0
SaysTokens (Err fault) said = said ≡ Err (text_refusal fault)
SaysTokens (Ok tokens) said = MatchBool (is_deep (kinds_of tokens)) (said ≡ Err TooDeep) (SaysKinds (kinds_of tokens) said)

-- what a piece says
abbrev pub Says : List ℕ → Said → Type 0
Says text said = SaysTokens (lexed text) said

-- neither a token nor a fault
abbrev pub is_empty_lexed : Result (List Token) LexFault → Bool
is_empty_lexed (Ok []) = true
is_empty_lexed (Ok (t ∷ ts)) = false
is_empty_lexed (Err fault) = false

-- whether a piece is passed over, since it has neither a token nor a fault
abbrev pub is_passed_over : List ℕ → Bool
is_passed_over text = is_empty_lexed (lexed text)
