-- Blocks given back one by one.
use Rattle.std.proofs.Common.{ℕ, ◌+◌, ◌≡◌, ◌≢◌, ◌≤◌, ◌<◌, refl, sym, ◌∙◌, ap, subst, arith, zero, suc, Bool, true, false, true≢false, ◌||◌, nat_eq, List, [], ◌∷◌, ◌++◌, length, length-append, take, get_or, Option, None, ◌⊎◌, inl, inr}
use Rattle.std.specs.List.{list_any}
use Rattle.std.proofs.lemmas.Bool.{cases_eq, or_cases, eqb-true, ne_eqb}
use Rattle.std.proofs.lemmas.List.Folds.{list_any-append}
use Rattle.word_pool.specs.Region.{Region, block_at, IsLive}
use Rattle.bank_pack.specs.BankRepr.{IsAmong, IsOther, AreApart, AreLive}
use Rattle.bank_pack.specs.BankGrowth.{HasReleased}
use Rattle.bank_pack.proofs.BlockLemmas.{other-more, other-pushed, apart-first, other-at}

-- a number is none of those before it
pub apart-at : (ids : List ℕ) (i : ℕ) → AreApart ids → i < length ids → IsOther (get_or ids i 0) (take i ids)
apart-at [] i apart within = absurd (omega arith)
apart-at (x ∷ xs) zero apart within = refl
apart-at (x ∷ xs) (suc i) apart within =
    let a = apart-first x xs apart in
    other-more (get_or xs i 0) x (take i xs) (λ e. other-at x xs i a.0 (omega arith) (sym e)) (apart-at xs i a.1 (omega arith))

among-pushed : (k : ℕ) (ids : List ℕ) (x : ℕ) → IsAmong k (ids ++ x ∷ []) → k ≢ x → IsAmong k ids
among-pushed k ids x among differs = elim (or_cases (list_any (nat_eq k) ids) (list_any (nat_eq k) (x ∷ [])) (sym (list_any-append (nat_eq k) ids (x ∷ [])) ∙ among)) [
  | inl here ↦ here
  | inr last ↦ elim (or_cases (nat_eq k x) false last) [
    | inl same ↦ absurd (differs (eqb-true k x same))
    | inr none ↦ absurd (true≢false (sym none))
  ]
]

pub released_none : (region : Region) → HasReleased region region []
released_none region = record {
  free = λ k among. absurd (true≢false (sym among));
  others = λ k other. refl;
  limit = refl;
  spare = omega arith;
}

pub released_more : (before mid after : Region) (ids : List ℕ) (x : ℕ) → HasReleased before mid ids → block_at after.slots x ≡ None → ((k : ℕ) → k ≢ x → block_at after.slots k ≡ block_at mid.slots k) → after.limit ≡ mid.limit → after.spare ≡ mid.spare + 1 → HasReleased before after (ids ++ x ∷ [])
released_more before mid after ids x released slot others limit spare = record {
  free = λ k among. elim (cases_eq k x) [
    | inl e ↦ ap (block_at after.slots) e ∙ slot
    | inr differs ↦ others k differs ∙ released.free k (among-pushed k ids x among differs)
  ];
  others = λ k other. let both = other-pushed k ids x other in others k both.1 ∙ released.others k both.0;
  limit = limit ∙ released.limit;
  spare = omega (arith, released.spare, length-append ids (x ∷ []));
}
