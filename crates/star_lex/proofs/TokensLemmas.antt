-- The tokens of a text, counted and taken one at a time.
use Rattle.std.proofs.Common.{◌≡◌, ◌≢◌, ◌+◌, ◌∙◌, ℕ, List, [], ◌∷◌, Option, Some, None, Result, Ok, Err, length, Bor, ap, sym, refl, arith}
use Rattle.std.proofs.lemmas.List.{length-append, length-map}
use Rattle.std.specs.Option.{option_map}
use Rattle.std.specs.Result.{result_ok}
use Rattle.star_lex.specs.declared.token.Token.{Token}
use Rattle.star_lex.specs.declared.token.TokenKind.{TokenKind}
use Rattle.star_lex.specs.declared.token.LexFault.{LexFault}
use Rattle.star_lex.specs.declared.token_list.Source.{Source}
use Rattle.star_lex.specs.declared.token_list.Source.TheVariants.{Written}
use Rattle.star_lex.specs.Kinds.{kinds_of}
use Rattle.star_lex.specs.Lex.{lexed}
use Rattle.star_lex.specs.TextKinds.{IsCut, counted, counted_or_fault, count_or_fault, kinds_in}
use Rattle.star_lex.specs.TokensRepr.{kinds_left, kinds_or_none, AreLeft}
use Rattle.star_lex.proofs.ProgressLemmas.{taken_with}
use Rattle.star_lex.proofs.TextKindsLemmas.{HasFirst, has_first}

-- a token more, or none
pub count_taken : (tokens : List Token) (content : Option TokenKind) (start end : ℕ) → length (taken_with tokens content start end) ≡ length tokens + counted content
count_taken tokens None start end = omega arith
count_taken tokens (Some kind) start end = length-append tokens (record { kind = kind; start = start; end = end } ∷ [])

-- what was counted was there
pub counted_there : (content : Result (Option TokenKind) LexFault) (n : ℕ) → Ok n ≡ counted_or_fault content → (x : Option TokenKind) × (Ok x ≡ content) × (n ≡ counted x)
counted_there (Ok x) n e = let same : n ≡ counted x = cc in (x, refl, same)
counted_there (Err fault) n e = cc

pub counted_fault : (content : Result (Option TokenKind) LexFault) (fault : LexFault) → Err fault ≡ counted_or_fault content → Err fault ≡ content
counted_fault (Ok x) fault e = cc
counted_fault (Err f) fault e = let same : fault ≡ f = cc in ap (λ (x : LexFault). Err x) same

pub kinds_there : (text : List ℕ) (n : ℕ) → Ok n ≡ count_or_fault (lexed text) → (kinds : List TokenKind) × (kinds_in text ≡ Some kinds) × (n ≡ length kinds)
kinds_there text n = by (lexed text)
  where
    by : (r : Result (List Token) LexFault) → Ok n ≡ count_or_fault r → (kinds : List TokenKind) × (option_map kinds_of (result_ok r) ≡ Some kinds) × (n ≡ length kinds)
    by (Ok tokens) e = let same : n ≡ length tokens = cc in (kinds_of tokens, refl, same ∙ sym (length-map tokens (λ t. t.kind)))
    by (Err fault) e = cc

-- tokens that are written, where one is left
pub record Opened (text : List ℕ) (left : ℕ) (now : List TokenKind) : Type 0 where
  pub cut : IsCut text left
  pub first : HasFirst text left
  pub parts : now ≡ first.first ∷ first.more

pub opened : (source : Source) (text : Bor (List ℕ)) (left : ℕ) (now : List TokenKind) → AreLeft source left → kinds_left source ≡ now → source ≡ Written text → left ≢ 0 → Opened text.now left now
opened source text left now are view is some =
    let cut = rw is at are in
    let seen = rw is at view in
    let first = has_first text.now left cut some in
    record { cut = cut; first = first; parts = sym seen ∙ ap kinds_or_none first.parts }
