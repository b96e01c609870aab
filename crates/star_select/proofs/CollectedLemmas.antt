-- Keys that are collected part by part.
use Rattle.std.proofs.Common.{◌≡◌, ◌<◌, ◌≤◌, ◌+◌, ◌*◌, ℕ, List, [], ◌∷◌, ◌++◌, map, take, drop, length, get_or, refl, sym, ap, ◌∙◌, subst, arith, length-append}
use Rattle.std.specs.Prelude.{IsTrue}
use Rattle.std.proofs.lemmas.List.{append-nil, append_assoc, map-append, take-append-drop, take_all, take_more}
use Rattle.blink_base.specs.Values.{Row}
use Rattle.blink_lists.specs.Lists.{joined}
use Rattle.code_join.specs.KeyLaws.{FirstKeysAreKeys}
use Rattle.code_join.specs.Keys.{Keyed, are_keys}
use Rattle.dim_filter.specs.Entries.{collected, entry_of}
use Rattle.dim_filter.proofs.PageLemmas.{length-collected}

joined-append : {X : Type 0} (xs ys : List (List X)) → joined (xs ++ ys) ≡ joined xs ++ joined ys
joined-append [] ys = refl
joined-append (x ∷ xs) ys = ap (λ l. x ++ l) (joined-append xs ys) ∙ sym (append_assoc x (joined xs) (joined ys))

module _ (key : ℕ) (wanted : List ℕ) where
  -- rows behind rows
  pub collected-again : (old : Keyed) (xs ys : List Row) → collected key wanted (collected key wanted old xs) ys ≡ collected key wanted old (xs ++ ys)
  collected-again old xs ys = append_assoc old (map (entry_of key wanted) xs) (map (entry_of key wanted) ys) ∙ ap (λ l. old ++ l) (sym (map-append (entry_of key wanted) xs ys))

  -- the keys of those in front
  pub first_absent : (old : Keyed) (xs ys : List Row) → FirstKeysAreKeys → IsTrue (are_keys (collected key wanted old (xs ++ ys))) → IsTrue (are_keys (collected key wanted old xs))
  first_absent old xs ys first are = first (collected key wanted old xs) (map (entry_of key wanted) ys) (subst (λ k. IsTrue (are_keys k)) (sym (collected-again old xs ys)) are)

-- a part at its place among the parts of a whole
pub record IsPart (parts : List (List Row)) (i : ℕ) (part whole : List Row) : Type 0 where
  pub within : i < length parts
  pub here : get_or parts i [] ≡ part
  pub all : joined parts ≡ whole

module _ (parts : List (List Row)) (i : ℕ) (part whole : List Row) (at : IsPart parts i part whole) where
  front : joined (take (i + 1) parts) ≡ joined (take i parts) ++ part
  front =
      ap joined (take_more parts i [] at.within) ∙ joined-append (take i parts) (get_or parts i [] ∷ [])
      ∙ ap (λ l. joined (take i parts) ++ l) (append-nil (get_or parts i []) ∙ at.here)

  behind : whole ≡ joined (take (i + 1) parts) ++ joined (drop (i + 1) parts)
  behind = sym at.all ∙ ap joined (sym (take-append-drop (i + 1) parts)) ∙ joined-append (take (i + 1) parts) (drop (i + 1) parts)

  -- how many values are decoded
  pub next_counted : (each start now after : ℕ) → now ≤ start + length (joined (take i parts)) * each → after ≤ now + length part * each
      → (after ≤ start + length (joined (take (i + 1) parts)) * each) × (after ≤ start + length whole * each)
  next_counted each start now after before more =
      let long = ap (λ n. n * each) (ap (λ (l : List Row). length l) front ∙ length-append (joined (take i parts)) part) in
      let rest = ap (λ n. n * each) (ap (λ (l : List Row). length l) behind ∙ length-append (joined (take (i + 1) parts)) (joined (drop (i + 1) parts))) in
      (omega (arith, before, more, long), omega (arith, before, more, long, rest))

  -- where the parts in front are collected
  module _ (key : ℕ) (wanted : List ℕ) (old into : Keyed) (so_far : into ≡ collected key wanted old (joined (take i parts))) where
    with_part : collected key wanted into part ≡ collected key wanted old (joined (take (i + 1) parts))
    with_part = ap (λ k. collected key wanted k part) so_far ∙ collected-again key wanted old (joined (take i parts)) part ∙ ap (collected key wanted old) (sym front)

    pub next_absent : FirstKeysAreKeys → IsTrue (are_keys (collected key wanted old whole)) → IsTrue (are_keys (collected key wanted into part))
    next_absent first are =
        subst (λ k. IsTrue (are_keys k)) (sym with_part)
        (first_absent key wanted old (joined (take (i + 1) parts)) (joined (drop (i + 1) parts)) first (subst (λ (l : List Row). IsTrue (are_keys (collected key wanted old l))) behind are))

    pub next_few : (most : ℕ) → length old + length whole ≤ most → length into + length part ≤ most
    next_few most few =
        let long = sym (length-collected key wanted into part) ∙ ap (λ (k : Keyed). length k) with_part ∙ length-collected key wanted old (joined (take (i + 1) parts)) in
        let rest = ap (λ (l : List Row). length l) behind ∙ length-append (joined (take (i + 1) parts)) (joined (drop (i + 1) parts)) in
        omega (arith, few, long, rest)

    pub next_put : (new : Keyed) → new ≡ collected key wanted into part → new ≡ collected key wanted old (joined (take (i + 1) parts))
    next_put new put = put ∙ with_part

-- behind the last part
all_parts : (parts : List (List Row)) (i : ℕ) (whole : List Row) → joined parts ≡ whole → length parts ≤ i → joined (take i parts) ≡ whole
all_parts parts i whole all past = ap joined (take_all i parts past) ∙ all

pub last_put : (parts : List (List Row)) (i : ℕ) (whole : List Row) → joined parts ≡ whole → length parts ≤ i → (key : ℕ) (wanted : List ℕ) (old into : Keyed)
    → into ≡ collected key wanted old (joined (take i parts)) → into ≡ collected key wanted old whole
last_put parts i whole all past key wanted old into so_far = so_far ∙ ap (collected key wanted old) (all_parts parts i whole all past)

pub last_counted : (parts : List (List Row)) (i : ℕ) (whole : List Row) → joined parts ≡ whole → length parts ≤ i → (each start now : ℕ) → now ≤ start + length (joined (take i parts)) * each → now ≤ start + length whole * each
last_counted parts i whole all past each start now before = subst (λ (rows : List Row). now ≤ start + length rows * each) (all_parts parts i whole all past) before
