-- A piece whose tokens were taken up to a place.
use Rattle.std.proofs.Common.{◌≡◌, ◌≤◌, ◌<◌, ◌+◌, ◌∙◌, ℕ, zero, suc, List, [], ◌∷◌, ◌++◌, Option, Some, None, Result, Ok, Err, length, drop, ap, sym, refl, arith}
use Rattle.std.proofs.lemmas.List.{append_assoc, append-nil, drop-drop, drop_all, length-drop}
use Rattle.star_lex.specs.declared.token.Token.{Token}
use Rattle.star_lex.specs.declared.token.TokenKind.{TokenKind}
use Rattle.star_lex.specs.declared.token.LexFault.{LexFault}
use Rattle.star_lex.specs.declared.token.LexFault.TheVariants as wants
use Rattle.star_lex.specs.Lex.{front_length, content_before, front_content, lexed_from, lexed}

-- some tokens in front of those of the rest, where the rest has no fault
abbrev pub taken_before : List Token → Result (List Token) LexFault → Result (List Token) LexFault
taken_before tokens (Ok rest) = Ok (tokens ++ rest)
taken_before tokens (Err fault) = Err fault

-- the tokens that were taken and those that are still to come are all tokens
abbrev pub IsLexedTo : List ℕ → List Token → ℕ → Type 0
IsLexedTo text tokens at = (more : ℕ) × (length text ≤ at + more) × (taken_before tokens (lexed_from more at (drop at text)) ≡ lexed text)

pub lexed_none : (text : List ℕ) → IsLexedTo text [] 0
lexed_none text = (length text, omega arith, by (lexed text))
  where
    by : (r : Result (List Token) LexFault) → taken_before [] r ≡ r
    by (Ok rest) = refl
    by (Err fault) = refl

-- what is computed at a place
abbrev follows : ℕ → ℕ → Result (List Token) LexFault → Result (Option TokenKind) LexFault → Result (List Token) LexFault
follows at n rest (Err fault) = Err fault
follows at n rest (Ok content) = content_before content at (at + n) rest

next_left : (left : List ℕ) (more at n : ℕ) → 0 < length left → n ≡ front_length left → lexed_from (suc more) at left ≡ follows at n (lexed_from more (at + n) (drop n left)) (front_content n at left)
next_left [] more at n some size = absurd (omega arith)
next_left (b ∷ rest) more at n some size = ap (λ m. follows at m (lexed_from more (at + m) (drop m (b ∷ rest))) (front_content m at (b ∷ rest))) (sym size)

next_is : (text : List ℕ) (more at n : ℕ) (k : Result (Option TokenKind) LexFault) → at < length text → n ≡ front_length (drop at text) → front_content n at (drop at text) ≡ k
    → lexed_from (suc more) at (drop at text) ≡ follows at n (lexed_from more (at + n) (drop (at + n) text)) k
next_is text more at n k l size content =
    let left = length-drop at text in
    next_left (drop at text) more at n (omega arith) size
    ∙ ap (λ xs. follows at n (lexed_from more (at + n) xs) (front_content n at (drop at text))) (drop-drop n at text)
    ∙ ap (follows at n (lexed_from more (at + n) (drop (at + n) text))) content

-- a place further on, with the token that was taken there, if any
abbrev pub taken_with : List Token → Option TokenKind → ℕ → ℕ → List Token
taken_with tokens None start end = tokens
taken_with tokens (Some kind) start end = tokens ++ record { kind = kind; start = start; end = end } ∷ []

content_taken : (tokens : List Token) (content : Option TokenKind) (start end : ℕ) (r : Result (List Token) LexFault)
    → taken_before (taken_with tokens content start end) r ≡ taken_before tokens (content_before content start end r)
content_taken tokens None start end r = refl
content_taken tokens (Some kind) start end (Ok rest) = rw append_assoc refl
content_taken tokens (Some kind) start end (Err fault) = refl

some_size : (left : List ℕ) (n at : ℕ) (content : Option TokenKind) → front_content n at left ≡ Ok content → 1 ≤ n
some_size left zero at content e = cc
some_size left (suc n) at content e = omega arith

pub lexed_on : (text : List ℕ) (tokens : List Token) (at n : ℕ) (content : Option TokenKind) → IsLexedTo text tokens at → at < length text → n ≡ front_length (drop at text)
    → Ok content ≡ front_content n at (drop at text) → (1 ≤ n) × IsLexedTo text (taken_with tokens content at (at + n)) (at + n)
lexed_on text tokens at n content (zero, enough, all) l size is = absurd (omega arith)
lexed_on text tokens at n content (suc more, enough, all) l size is =
    let some = some_size (drop at text) n at content (sym is) in
    (some, (more, omega arith, content_taken tokens content at (at + n) (lexed_from more (at + n) (drop (at + n) text)) ∙ ap (taken_before tokens) (sym (next_is text more at n (Ok content) l size (sym is))) ∙ all))

pub lexed_fault : (text : List ℕ) (tokens : List Token) (at n : ℕ) (fault : LexFault) → IsLexedTo text tokens at → at < length text → n ≡ front_length (drop at text)
    → Err fault ≡ front_content n at (drop at text) → Err fault ≡ lexed text
lexed_fault text tokens at n fault (zero, enough, all) l size is = absurd (omega arith)
lexed_fault text tokens at n fault (suc more, enough, all) l size is = ap (taken_before tokens) (sym (next_is text more at n (Err fault) l size (sym is))) ∙ all

pub lexed_all : (text : List ℕ) (tokens : List Token) (at : ℕ) → IsLexedTo text tokens at → length text ≤ at → Ok tokens ≡ lexed text
lexed_all text tokens at (more, enough, all) l = let none = drop_all at text l in rw (← all, none) (by more)
  where
    by : (more : ℕ) → Ok tokens ≡ taken_before tokens (lexed_from more at [])
    by zero = rw append-nil refl
    by (suc more) = rw append-nil refl

-- a fault that isn't want of memory, as a content and as tokens
pub not_memory : (fault : LexFault) → (◌≡◌ {A = Result (List Token) LexFault} (Err fault) (Err wants.Memory) → ⊥) → ◌≡◌ {A = Result (Option TokenKind) LexFault} (Err fault) (Err wants.Memory) → ⊥
not_memory fault told e = let same : fault ≡ wants.Memory = cc in told (ap (λ (f : LexFault). Err f) same)
