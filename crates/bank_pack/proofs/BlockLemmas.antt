-- Blocks of a bank: where one changes, and where one is taken.
use Rattle.std.proofs.Common.{ℕ, ◌+◌, ◌-◌, ◌*◌, ◌^◌, ◌≡◌, ◌≢◌, ◌≤◌, ◌<◌, refl, sym, ◌∙◌, ap, subst, arith, zero, suc, Bool, true, false, true≢false, ◌||◌, not, eqb, nat_eq, List, [], ◌∷◌, ◌++◌, length, map, take, drop, get_or, replicate, bit_or, Option, Some, None, IsSome, IsTrue}
use Rattle.std.specs.List.{list_any}
use Rattle.std.proofs.Math.ListN.{set}
use Rattle.std.proofs.lemmas.Bool.{or_parts, or_from, or_left, or_right, and_parts, and_from, eqb-false, ne_eqb, eq-eqb, not-true, not_from_false}
use Rattle.std.proofs.lemmas.List.{set-append_left, set-append_right, get_or_append_left, get_or-append_right, length-set, length-append, append-nil, append_assoc, length-replicate, take_at, drop_at, drop-drop}
use Rattle.std.proofs.lemmas.List.Folds.{list_any-append}
use Rattle.blink_lists.specs.Lists.{joined, are_distinct}
use Rattle.masked_compare.specs.Fields.{is_shape, lane_bits, lane_count}
use Rattle.masked_compare.specs.Words.{lane_of, IsRow}
use Rattle.word_pool.specs.Region.{block_at, words_of, tag_at, or_at, IsLive}
use Rattle.bank_pack.specs.BankRepr.{packed, bank_words, IsOther, AreApart, AreWhole, AreLive, AreTagged, IsPacked}
use Rattle.bank_pack.proofs.PackedLemmas.{packed-push, packed-more, rows-push}

-- what is other than some numbers
pub other-first : (x i : ℕ) (is : List ℕ) → IsOther x (i ∷ is) → (x ≢ i) × IsOther x is
other-first x i is other = let parts = or_parts (nat_eq x i) (list_any (nat_eq x) is) other in (eqb-false x i parts.0, parts.1)

pub other-more : (x i : ℕ) (is : List ℕ) → x ≢ i → IsOther x is → IsOther x (i ∷ is)
other-more x i is apart other = or_from (nat_eq x i) (list_any (nat_eq x) is) (ne_eqb x i apart) other

pub apart-first : (i : ℕ) (is : List ℕ) → AreApart (i ∷ is) → IsOther i is × AreApart is
apart-first i is apart = let parts = and_parts (not (list_any (nat_eq i) is)) (are_distinct nat_eq is) apart in (not-true (list_any (nat_eq i) is) parts.0, parts.1)

pub apart-more : (i : ℕ) (is : List ℕ) → IsOther i is → AreApart is → AreApart (i ∷ is)
apart-more i is other apart = and_from (not (list_any (nat_eq i) is)) (are_distinct nat_eq is) (not_from_false (list_any (nat_eq i) is) other) apart

pub other-push : (x : ℕ) (is : List ℕ) (y : ℕ) → IsOther x is → x ≢ y → IsOther x (is ++ y ∷ [])
other-push x [] y other apart = other-more x y [] apart refl
other-push x (i ∷ is) y other apart = let first = other-first x i is other in other-more x i (is ++ y ∷ []) first.0 (other-push x is y first.1 apart)

pub other-pushed : (x : ℕ) (is : List ℕ) (y : ℕ) → IsOther x (is ++ y ∷ []) → IsOther x is × (x ≢ y)
other-pushed x [] y other = (refl, (other-first x y [] other).0)
other-pushed x (i ∷ is) y other =
    let first = other-first x i (is ++ y ∷ []) other in
    let rest = other-pushed x is y first.1 in
    (other-more x i is first.0 rest.0, rest.1)

pub apart-push : (is : List ℕ) (y : ℕ) → AreApart is → IsOther y is → AreApart (is ++ y ∷ [])
apart-push [] y apart other = refl
apart-push (i ∷ is) y apart other =
    let a = apart-first i is apart in
    let o = other-first y i is other in
    apart-more i (is ++ y ∷ []) (other-push i is y a.0 (λ e. o.0 (sym e))) (apart-push is y a.1 o.1)

pub other-at : (x : ℕ) (is : List ℕ) (q : ℕ) → IsOther x is → q < length is → x ≢ get_or is q 0
other-at x [] q other within = absurd (omega arith)
other-at x (i ∷ is) zero other within = (other-first x i is other).0
other-at x (i ∷ is) (suc q) other within = other-at x is q (other-first x i is other).1 (omega arith)

-- blocks that are the same in two regions
pub same-words : (old new : List (Option (ℕ × List ℕ))) (ids : List ℕ) → ((k : ℕ) → list_any (nat_eq k) ids ≡ true → block_at new k ≡ block_at old k) → bank_words new ids ≡ bank_words old ids
same-words old new [] same = refl
same-words old new (i ∷ is) same =
    let here : block_at new i ≡ block_at old i = same i (or_left (nat_eq i i) (list_any (nat_eq i) is) (eq-eqb i i refl)) in
    rw (here, same-words old new is (λ k among. same k (or_right (nat_eq k i) (list_any (nat_eq k) is) among))) refl

pub same-whole : (old new : List (Option (ℕ × List ℕ))) (ids : List ℕ) → ((k : ℕ) → list_any (nat_eq k) ids ≡ true → block_at new k ≡ block_at old k) → AreWhole old ids → AreWhole new ids
same-whole old new [] same whole = tt
same-whole old new (i ∷ is) same whole =
    let here : block_at new i ≡ block_at old i = same i (or_left (nat_eq i i) (list_any (nat_eq i) is) (eq-eqb i i refl)) in
    (rw here (whole.0), same-whole old new is (λ k among. same k (or_right (nat_eq k i) (list_any (nat_eq k) is) among)) whole.1)

-- a number among some is not other than them
pub among_differs : (x k : ℕ) (ids : List ℕ) → IsOther x ids → list_any (nat_eq k) ids ≡ true → k ≢ x
among_differs x k ids other among same = true≢false (sym among ∙ subst (λ (n : ℕ). list_any (nat_eq n) ids ≡ false) (sym same) other)

-- one word of the block at place q changes
pub record IsChanged (old new : List (Option (ℕ × List ℕ))) (ids : List ℕ) (q r v : ℕ) : Type 0 where
  pub words : bank_words new ids ≡ set (bank_words old ids) (128 * q + r) v
  pub whole : AreWhole new ids
  pub reads : get_or (words_of (block_at old (get_or ids q 0))) r 0 ≡ get_or (bank_words old ids) (128 * q + r) 0

pub changed : (old new : List (Option (ℕ × List ℕ))) (ids : List ℕ) (q r v : ℕ) → AreApart ids → AreWhole old ids → q < length ids → r < 128 → words_of (block_at new (get_or ids q 0)) ≡ set (words_of (block_at old (get_or ids q 0))) r v → ((k : ℕ) → k ≢ get_or ids q 0 → block_at new k ≡ block_at old k) → IsChanged old new ids q r v
changed old new [] q r v apart whole within low here others = absurd (omega arith)
changed old new (i ∷ is) zero r v apart whole within low here others =
    let W : List ℕ = words_of (block_at old i) in
    let z : 128 * 0 + r ≡ r = omega arith in
    let inside : r < length W = omega (arith, whole.0) in
    let rest = λ (k : ℕ) (among : list_any (nat_eq k) is ≡ true). others k (among_differs i k is (apart-first i is apart).0 among) in
    record {
      words = rw (here, same-words old new is rest, z) (sym (set-append_left W (bank_words old is) r v inside));
      whole = (rw here (length-set W r v ∙ whole.0), same-whole old new is rest whole.1);
      reads = rw z (sym (get_or_append_left W (bank_words old is) 0 r inside));
    }
changed old new (i ∷ is) (suc q) r v apart whole within low here others =
    let W : List ℕ = words_of (block_at old i) in
    let a = apart-first i is apart in
    let first : block_at new i ≡ block_at old i = others i (other-at i is q a.0 (omega arith)) in
    let rest = changed old new is q r v a.1 whole.1 (omega arith) low here others in
    let z : 128 * suc q + r - 128 ≡ 128 * q + r = omega arith in
    record {
      words = rw (first, rest.words) (sym (rw (set-append_right W (bank_words old is) 128 (128 * suc q + r) v whole.0 (omega arith), z) refl));
      whole = (rw first (whole.0), rest.whole);
      reads = rest.reads ∙ sym (get_or-append_right W (bank_words old is) 128 (128 * suc q + r) 0 whole.0 (omega arith) ∙ ap (λ n. get_or (bank_words old is) n 0) z);
    }

-- the bits of one lane added to the word of its row
pub packed_row : (ws : List ℕ) (old new : List (Option (ℕ × List ℕ))) (ids : List ℕ) (tag : ℕ) (rows : List (List ℕ)) (r : List ℕ) (word q at lane : ℕ) → 0 < lane_count ws → IsTrue (is_shape ws) → IsPacked ws old ids rows → IsRow ws r → length rows ≡ lane_count ws * word + lane → lane < lane_count ws → word ≡ 128 * q + at → at < 128 → q < length ids
    → block_at new (get_or ids q 0) ≡ Some (tag, or_at (words_of (block_at old (get_or ids q 0))) at (lane_of ws r * 2 ^ (lane_bits ws * lane))) → ((k : ℕ) → k ≢ get_or ids q 0 → block_at new k ≡ block_at old k) → IsPacked ws new ids (rows ++ r ∷ [])
packed_row ws old new ids tag rows r word q at lane some shape bank row place low whole_word within inside here others =
    let B : ℕ = lane_of ws r * 2 ^ (lane_bits ws * lane) in
    let W : List ℕ = words_of (block_at old (get_or ids q 0)) in
    let written : words_of (block_at new (get_or ids q 0)) ≡ set W at (bit_or (get_or W at 0) B) = ap words_of here in
    let c = changed old new ids q at (bit_or (get_or W at 0) B) bank.apart bank.whole inside within written others in
    let p = packed-push ws (lane_count ws) (128 * length ids) rows r some shape bank.coded word lane place low (omega arith) in
    record {
      apart = bank.apart;
      whole = c.whole;
      coded = rows-push ws rows r bank.coded row;
      words = c.words ∙ (rw (c.reads, ← whole_word, bank.words) (sym p));
    }

-- whole blocks are live, so a free number is none of them
pub free_is_other : (slots : List (Option (ℕ × List ℕ))) (ids : List ℕ) (x : ℕ) → AreWhole slots ids → block_at slots x ≡ None → IsOther x ids
free_is_other slots [] x whole free = refl
free_is_other slots (i ∷ is) x whole free =
    let differs : x ≢ i = λ e. absurd (let l : length (words_of (block_at slots x)) ≡ 0 = ap (λ (b : Option (ℕ × List ℕ)). length (words_of b)) free in
    let m : length (words_of (block_at slots x)) ≡ 128 = subst (λ (n : ℕ). length (words_of (block_at slots n)) ≡ 128) (sym e) whole.0 in omega arith) in
    other-more x i is differs (free_is_other slots is x whole.1 free)

words-append : (slots : List (Option (ℕ × List ℕ))) (is js : List ℕ) → bank_words slots (is ++ js) ≡ bank_words slots is ++ bank_words slots js
words-append slots [] js = refl
words-append slots (i ∷ is) js = ap (λ l. words_of (block_at slots i) ++ l) (words-append slots is js) ∙ sym (append_assoc (words_of (block_at slots i)) (bank_words slots is) (bank_words slots js))

whole-push : (slots : List (Option (ℕ × List ℕ))) (is : List ℕ) (y : ℕ) → AreWhole slots is → length (words_of (block_at slots y)) ≡ 128 → AreWhole slots (is ++ y ∷ [])
whole-push slots [] y whole one = (one, tt)
whole-push slots (i ∷ is) y whole one = (whole.0, whole-push slots is y whole.1 one)

-- a fresh block of zeros holds no further rows
pub packed_block : (ws : List ℕ) (old new : List (Option (ℕ × List ℕ))) (ids : List ℕ) (tag x : ℕ) (rows : List (List ℕ)) → length rows ≤ lane_count ws * (128 * length ids) → block_at old x ≡ None → block_at new x ≡ Some (tag, replicate 128 0) → ((k : ℕ) → k ≢ x → block_at new k ≡ block_at old k)
    → IsPacked ws old ids rows → IsPacked ws new (ids ++ x ∷ []) rows
packed_block ws old new ids tag x rows few free here others bank =
    let other = free_is_other old ids x bank.whole free in
    let same = λ (k : ℕ) (among : list_any (nat_eq k) ids ≡ true). others k (among_differs x k ids other among) in
    let fresh : words_of (block_at new x) ≡ replicate 128 0 = ap words_of here in
    let long : length (ids ++ x ∷ []) ≡ length ids + 1 = length-append ids (x ∷ []) in
    let all : 128 * length (ids ++ x ∷ []) ≡ 128 * length ids + 128 = omega arith in
    let zeros : bank_words new (x ∷ []) ≡ replicate 128 0 = append-nil (words_of (block_at new x)) ∙ fresh in
    record {
      apart = apart-push ids x bank.apart other;
      whole = whole-push new ids x (same-whole old new ids same bank.whole) (ap (λ (l : List ℕ). length l) fresh ∙ length-replicate {A = ℕ} 128 0);
      coded = bank.coded;
      words = words-append new ids (x ∷ []) ∙ (rw (same-words old new ids same, zeros, bank.words, all) (sym (packed-more ws (lane_count ws) (128 * length ids) 128 rows few)));
    }

-- a further block leaves those of the tag
tagged_kept : (tag : ℕ) (old new : List (Option (ℕ × List ℕ))) (ids : List ℕ) (x : ℕ) → ((k : ℕ) → k ≢ x → block_at new k ≡ block_at old k) → block_at old x ≡ None → AreTagged tag old ids → AreTagged tag new ids
tagged_kept tag old new [] x others free tagged = tt
tagged_kept tag old new (i ∷ is) x others free tagged =
    let differs : i ≢ x = λ e. let live : IsSome (block_at old x) = subst (λ (n : ℕ). IsSome (block_at old n)) e tagged.0 in
    let none : IsSome {T = ℕ × List ℕ} None = subst (λ (b : Option (ℕ × List ℕ)). IsSome b) free live in absurd (true≢false (sym none)) in
    let here : block_at new i ≡ block_at old i = others i differs in
    (rw here (tagged.0), rw here (tagged.1), tagged_kept tag old new is x others free tagged.2)

tagged-push : (tag : ℕ) (slots : List (Option (ℕ × List ℕ))) (ids : List ℕ) (x : ℕ) → AreTagged tag slots ids → IsLive slots x → tag_at (block_at slots x) ≡ tag → AreTagged tag slots (ids ++ x ∷ [])
tagged-push tag slots [] x tagged live one = (live, one, tt)
tagged-push tag slots (i ∷ is) x tagged live one = (tagged.0, tagged.1, tagged-push tag slots is x tagged.2 live one)

pub tagged_block : (tag : ℕ) (old new : List (Option (ℕ × List ℕ))) (ids : List ℕ) (x : ℕ) (words : List ℕ) → block_at old x ≡ None → block_at new x ≡ Some (tag, words) → ((k : ℕ) → k ≢ x → block_at new k ≡ block_at old k) → AreTagged tag old ids → AreTagged tag new (ids ++ x ∷ [])
tagged_block tag old new ids x words free here others tagged =
    tagged-push tag new ids x (tagged_kept tag old new ids x others free tagged) (rw here refl) (ap tag_at here)

pub tagged-at : (tag : ℕ) (slots : List (Option (ℕ × List ℕ))) (ids : List ℕ) (q : ℕ) → AreTagged tag slots ids → q < length ids → IsLive slots (get_or ids q 0) × (tag_at (block_at slots (get_or ids q 0)) ≡ tag)
tagged-at tag slots [] q tagged within = absurd (omega arith)
tagged-at tag slots (i ∷ is) zero tagged within = (tagged.0, tagged.1)
tagged-at tag slots (i ∷ is) (suc q) tagged within = tagged-at tag slots is q tagged.2 (omega arith)

pub live-at : (slots : List (Option (ℕ × List ℕ))) (ids : List ℕ) (q : ℕ) → AreLive slots ids → q < length ids → IsLive slots (get_or ids q 0)
live-at slots [] q live within = absurd (omega arith)
live-at slots (i ∷ is) zero live within = live.0
live-at slots (i ∷ is) (suc q) live within = live-at slots is q live.1 (omega arith)

-- the words of one block
pub block-words : (slots : List (Option (ℕ × List ℕ))) (ids : List ℕ) (q : ℕ) → AreWhole slots ids → q < length ids → words_of (block_at slots (get_or ids q 0)) ≡ take 128 (drop (128 * q) (bank_words slots ids))
block-words slots [] q whole within = absurd (omega arith)
block-words slots (i ∷ is) zero whole within = sym (take_at (words_of (block_at slots i)) (bank_words slots is) 128 whole.0)
block-words slots (i ∷ is) (suc q) whole within =
    let W : List ℕ = words_of (block_at slots i) in
    let all : 128 * suc q ≡ 128 + 128 * q = omega arith in
    let rest : drop 128 (W ++ bank_words slots is) ≡ bank_words slots is = drop_at W (bank_words slots is) 128 whole.0 in
    block-words slots is q whole.1 (omega arith)
    ∙ ap (take 128) (ap (drop (128 * q)) (sym rest) ∙ (drop-drop (128 * q) 128 (W ++ bank_words slots is) ∙ ap (λ n. drop n (W ++ bank_words slots is)) (sym all)))
