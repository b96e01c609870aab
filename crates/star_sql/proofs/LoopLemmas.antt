-- Parsing the members of a list one after the other, as a loop does.
use Rattle.std.proofs.Common.{◌≡◌, ℕ, zero, suc, ◌-◌, ◌+◌, ◌≤◌, ◌<◌, Bool, List, [], ◌∷◌, ◌++◌, length, Some, None, refl, sym, ap, ◌∙◌, append_assoc, arith}
use Rattle.std.proofs.lemmas.List.{append-nil}
use Rattle.star_lex.specs.declared.token.TokenKind.{TokenKind}
use Rattle.star_sql.specs.declared.fault.ParseFault.{ParseFault}
use Rattle.star_sql.specs.declared.fault.ParseFault.TheVariants as fault
use Rattle.star_sql.specs.Spelling.{Spelled}
use Rattle.star_sql.specs.Parsers.{ParseOf, ◌>>=◌, Fails, behind, made_of, with_first, more_at, separated_at}

-- the members that were parsed before, and what is still parsed
abbrev pub with_earlier : {A : Type 0} → List A → ParseOf (List A) → ParseOf (List A)
with_earlier earlier read = read >>= λ x. Some (earlier ++ x.0, x.1)

regroup : {A : Type 0} (earlier : List A) (x : A) (read : ParseOf (List A)) → with_earlier earlier (with_first x read) ≡ with_earlier (earlier ++ x ∷ []) read
regroup {A} earlier x (Some y) = ap (λ (xs : List A). Some (xs, y.1)) (sym (append_assoc earlier (x ∷ []) y.0))
regroup earlier x None = refl

pub begins : {A : Type 0} (between : TokenKind → Bool) (parses : Spelled → ParseOf A) (x : A) (earlier : List A) (count : ℕ) (ts : Spelled) → earlier ≡ [] ++ x ∷ [] → with_earlier earlier (more_at between parses (count - 0) ts) ≡ with_first x (more_at between parses count ts)
begins between parses x earlier count ts e =
    let k : count - 0 ≡ count = omega arith in
    rw (e, k) refl

-- the members of a list, from its first one on
pub sets_out : {A : Type 0} (between : TokenKind → Bool) (parses : Spelled → ParseOf A) (x : A) (earlier : List A) (count : ℕ) (ts rest : Spelled) → parses ts ≡ Some (x, rest) → count ≡ length rest → earlier ≡ [] ++ x ∷ [] → with_earlier earlier (more_at between parses (count - 0) rest) ≡ separated_at between parses ts
unfolding separated_at
sets_out {A} between parses x earlier count ts rest h c e =
    let k : with_first x (more_at between parses count rest) ≡ with_first x (more_at between parses (length rest) rest) = ap (λ (n : ℕ). with_first x (more_at between parses n rest)) c in
    let s : separated_at between parses ts ≡ with_first x (more_at between parses (length rest) rest) = rw h refl in
    begins between parses x earlier count rest e ∙ k ∙ sym s

-- a fault is one of what is made too
pub fails_made : {A B : Type 0} (e : ParseFault) (make : A → B) (read : ParseOf A) → Fails e read → Fails e (made_of make read)
fails_made fault.Memory make read h = tt
fails_made fault.Deep make read h = h
fails_made fault.Syntax make read h = ap (made_of make) h

pub goes_on : {A : Type 0} (between : TokenKind → Bool) (parses : Spelled → ParseOf A) (earlier : List A) (count i : ℕ) (ts rest after : Spelled) (x : A) (total : ParseOf (List A)) → i < count → behind between ts ≡ Some rest → parses rest ≡ Some (x, after)
    → with_earlier earlier (more_at between parses (count - i) ts) ≡ total → with_earlier (earlier ++ x ∷ []) (more_at between parses (count - (i + 1)) after) ≡ total
unfolding more_at
goes_on between parses earlier count i ts rest after x total lt c h so_far =
    let k : count - i ≡ suc (count - (i + 1)) = omega arith in
    let one : with_earlier earlier (more_at between parses (count - i) ts) ≡ with_earlier (earlier ++ x ∷ []) (more_at between parses (count - (i + 1)) after) = rw (k, c, h) (regroup earlier x (more_at between parses (count - (i + 1)) after)) in
    sym one ∙ so_far

pub ends : {A : Type 0} (between : TokenKind → Bool) (e : ParseFault) (parses : Spelled → ParseOf A) (earlier : List A) (count i : ℕ) (ts rest : Spelled) (total : ParseOf (List A)) → i < count → behind between ts ≡ Some rest → Fails e (parses rest)
    → with_earlier earlier (more_at between parses (count - i) ts) ≡ total → Fails e total
unfolding more_at
ends between fault.Memory parses earlier count i ts rest total lt c h so_far = tt
ends between fault.Deep parses earlier count i ts rest total lt c h so_far = h
ends {A} between fault.Syntax parses earlier count i ts rest total lt c h so_far =
    let k : count - i ≡ suc (count - (i + 1)) = omega arith in
    let one : with_earlier earlier (more_at between parses (count - i) ts) ≡ None = rw (k, c, h) refl in
    sym so_far ∙ one

pub stops : {A : Type 0} (between : TokenKind → Bool) (parses : Spelled → ParseOf A) (earlier : List A) (n : ℕ) (ts : Spelled) (total : ParseOf (List A)) → behind between ts ≡ None
    → with_earlier earlier (more_at between parses n ts) ≡ total → total ≡ Some (earlier, ts)
unfolding more_at
stops {A} between parses earlier zero ts total c so_far = sym so_far ∙ ap (λ (xs : List A). Some (xs, ts)) (append-nil earlier)
stops {A} between parses earlier (suc n) ts total c so_far =
    let one : with_earlier earlier (more_at between parses (suc n) ts) ≡ Some (earlier, ts) = rw c (ap (λ (xs : List A). Some (xs, ts)) (append-nil earlier)) in
    sym so_far ∙ one

pub is_done : {A : Type 0} (between : TokenKind → Bool) (parses : Spelled → ParseOf A) (earlier : List A) (count i : ℕ) (ts : Spelled) (total : ParseOf (List A)) → count ≤ i → with_earlier earlier (more_at between parses (count - i) ts) ≡ total → total ≡ Some (earlier, ts)
unfolding more_at
is_done {A} between parses earlier count i ts total le so_far =
    let k : count - i ≡ 0 = omega arith in
    let one : with_earlier earlier (more_at between parses (count - i) ts) ≡ Some (earlier, ts) = rw k (ap (λ (xs : List A). Some (xs, ts)) (append-nil earlier)) in
    sym so_far ∙ one
