-- Words in fours.
use Rattle.std.proofs.Common.{ℕ, zero, suc, ◌+◌, ◌-◌, ◌*◌, ◌/◌, ◌%◌, ◌^◌, ◌≡◌, ◌≤◌, ◌<◌, refl, sym, ◌∙◌, ap, subst, arith, Bool, List, [], ◌∷◌, ◌++◌, length, take, drop, get_or, All, flat_map, bit_or, Fits, w64}
use Rattle.std.specs.Simd.{first_chunks}
use Rattle.std.specs.Simd.Lanes.{Each1, chunk, mask_l}
use Rattle.std.proofs.lemmas.Grind.{flat_map-append}
use Rattle.std.proofs.lemmas.List.{drop-drop, length-take-le, take_all}
use Rattle.std.proofs.Math.Seq.{take-add}
use Rattle.std.proofs.lemmas.Simd.{length-chunk, chunk-fits, below_from_Fits, Each1-chunk, Each1-from_get_or}
use Rattle.lane_scan.proofs.MaskLemmas.{mask_or}
use Rattle.lane_scan.proofs.RoundLemmas.{length_flat}

chunk_at : (n k i : ℕ) (xs : List ℕ) → i < k → get_or (first_chunks n k xs) i [] ≡ chunk (i * n) n xs
chunk_at n zero i xs lt = absurd (omega (arith, lt))
chunk_at n (suc k) zero xs lt = let e : 0 ≡ zero * n = omega arith in ap (λ m. take n (drop m xs)) e
chunk_at n (suc k) (suc i) xs lt =
    let e : n + i * n ≡ suc i * n = omega arith in
    chunk_at n k i (drop n xs) (omega (arith, lt)) ∙ ap (take n) (drop-drop (i * n) n xs ∙ ap (λ m. drop m xs) e)

-- four of the words, the fours counted from zero
module _ (xs : List ℕ) (fours : List (List ℕ)) (i : ℕ) (is : fours ≡ first_chunks 4 (length xs / 4) xs) (many : length fours ≡ length xs / 4) (lt : i < length fours) where
  pub four_is : get_or fours i [] ≡ chunk (i * 4) 4 xs
  four_is = ap (λ l. get_or l i []) is ∙ chunk_at 4 (length xs / 4) i xs (omega (arith, lt, many))

  pub four_within : i * 4 + 4 ≤ length xs
  four_within = omega (arith, lt, many)

  pub four_long : length (get_or fours i []) ≡ 4
  four_long = ap length four_is ∙ length-chunk (i * 4) 4 xs four_within

  pub four_fits : ((k : ℕ) → Fits w64 (get_or xs k 0)) → Each1 (λ w. w < 2 ^ 64) (get_or fours i [])
  four_fits fit = subst (Each1 (λ w. w < 2 ^ 64)) (sym four_is) (below_from_Fits w64 (chunk (i * 4) 4 xs) (chunk-fits w64 (i * 4) 4 xs fit))

  pub four_each : (P : ℕ → Type 0) → All P xs → Each1 P (get_or fours i [])
  four_each P each = subst (Each1 P) (sym four_is) (Each1-chunk P (i * 4) 4 xs (Each1-from_get_or P xs 0 (λ k lt. each k 0 lt)))

-- the mask of four words behind that of those before
module _ (f : ℕ → List Bool) (n : ℕ) (each : (x : ℕ) → length (f x) ≡ n) (xs : List ℕ) (i : ℕ) (within : i * 4 + 4 ≤ length xs) where
  pub mask_more : (four : List ℕ) (before here place : ℕ) → before ≡ mask_l (flat_map f (take (i * 4) xs)) → place ≡ i * 4 * n → here ≡ mask_l (flat_map f four) → four ≡ chunk (i * 4) 4 xs → i * 4 * n + 4 * n ≤ 64
      → bit_or before (here * 2 ^ place % 2 ^ 64) ≡ mask_l (flat_map f (take ((i + 1) * 4) xs))
  mask_more four before here place b p h is room =
      let front = flat_map f (take (i * 4) xs) in
      let next = flat_map f (chunk (i * 4) 4 xs) in
      let long : length front ≡ i * 4 * n = length_flat f n each (take (i * 4) xs) ∙ ap (λ k. k * n) (length-take-le (i * 4) xs (omega (arith, within))) in
      let more : length next ≡ 4 * n = length_flat f n each (chunk (i * 4) 4 xs) ∙ ap (λ k. k * n) (length-chunk (i * 4) 4 xs within) in
      let e : i * 4 + 4 ≡ (i + 1) * 4 = omega arith in
      (λ j. bit_or (b j) ((h ∙ ap (λ l. mask_l (flat_map f l)) is) j * 2 ^ place % 2 ^ 64))
      ∙ mask_or front next place (p ∙ sym long) (omega (arith, long, more, room))
      ∙ ap mask_l (sym (flat_map-append f (take (i * 4) xs) (chunk (i * 4) 4 xs)) ∙ ap (flat_map f) (sym (take-add (i * 4) 4 xs) ∙ ap (λ k. take k xs) e))

pub place_more : (i n place lanes : ℕ) → place ≡ i * 4 * n → lanes ≡ n → place + 4 * lanes ≡ (i + 1) * 4 * n
place_more i n place lanes p same = ap (λ k. k + 4 * lanes) p ∙ ap (λ k. i * 4 * n + 4 * k) same ∙ omega arith

pub all_fours : (f : ℕ → List Bool) (xs : List ℕ) (i : ℕ) → length xs % 4 ≡ 0 → length xs / 4 ≤ i → mask_l (flat_map f (take (i * 4) xs)) ≡ mask_l (flat_map f xs)
all_fours f xs i whole end = ap (λ l. mask_l (flat_map f l)) (take_all (i * 4) xs (omega (arith, whole, end)))
