-- What a piece says, by the tokens that it has.
use Rattle.std.proofs.Common.{◌≡◌, ◌≢◌, ◌≤◌, ◌∙◌, false, true, List, [], ◌∷◌, length, refl, sym, ap, subst, arith}
use Rattle.std.proofs.lemmas.List.{length-map}
use Rattle.std.specs.Prelude.{Ok, Err, Result, ℕ}
use Rattle.blink_base.specs.declared.limits.TheConstants.{LONGEST_INPUT}
use Rattle.blink_base.specs.declared.refusal.Refusal.{Refusal}
use Rattle.blink_base.specs.declared.refusal.Refusal.TheVariants.{Syntax, TooDeep}
use Rattle.star_lex.specs.declared.token.Token.{Token}
use Rattle.star_lex.specs.declared.token.LexFault.{LexFault}
use Rattle.star_lex.specs.Kinds.{kinds_of, kinds_or_fault}
use Rattle.star_lex.specs.Lex.{lexed}
use Rattle.star_sql.specs.declared.ast.Statement.{Statement}
use Rattle.star_sql.specs.ParseResult.{is_deep, IsSpelled}
use Rattle.star_sql.specs.PieceStatement.{Said, Says, SaysTokens, is_empty_lexed, is_passed_over, text_refusal}
use Rattle.star_sql.specs.Spelling.{Spelled, HasFewTokens}

none_both : {A B : Type 0} {a : A} {b : B} → Err a ≡ Ok b → ⊥
none_both e = cc

by_statement : (r : Result (List Token) LexFault) (kinds : Spelled) (s : Statement) → Ok kinds ≡ kinds_or_fault r → is_deep kinds ≡ false → IsSpelled kinds s → SaysTokens r (Ok s)
by_statement (Ok tokens) kinds s are shallow spelled = let same : kinds ≡ kinds_of tokens = cc are in rw (← same, shallow) spelled
by_statement (Err fault) kinds s are shallow spelled = absurd (none_both (sym are))

-- tokens that aren't too deep say the statement that they are the spelling of
pub says_statement : (text : List ℕ) (kinds : Spelled) (s : Statement) → Ok kinds ≡ kinds_or_fault (lexed text) → is_deep kinds ≡ false → IsSpelled kinds s → Says text (Ok s)
says_statement text kinds s are shallow spelled = by_statement (lexed text) kinds s are shallow spelled

by_some : (r : Result (List Token) LexFault) (kinds : Spelled) → Ok kinds ≡ kinds_or_fault r → length kinds ≢ 0 → is_empty_lexed r ≡ false
by_some (Ok []) kinds are some = let same : kinds ≡ [] = cc are in absurd (some (ap length same))
by_some (Ok (t ∷ ts)) kinds are some = refl
by_some (Err fault) kinds are some = refl

-- a piece with tokens is not passed over
pub not_passed : (text : List ℕ) (kinds : Spelled) → Ok kinds ≡ kinds_or_fault (lexed text) → length kinds ≢ 0 → is_passed_over text ≡ false
not_passed text kinds are some = by_some (lexed text) kinds are some

-- a piece is not longer than an input, so its statement has few tokens
pub few_tokens : (text : List ℕ) (kinds : Spelled) (s : Statement) → length kinds ≤ length text → length text ≤ LONGEST_INPUT → IsSpelled kinds s → HasFewTokens s
few_tokens text kinds s fewer short spelled = (let same = ap length spelled.spelled in omega arith)
