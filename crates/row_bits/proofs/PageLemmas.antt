-- The truth values of a page.
use Rattle.std.proofs.Common.{◌≡◌, ℕ, zero, suc, ◌+◌, ◌-◌, ◌*◌, ◌/◌, ◌%◌, ◌<◌, ◌≤◌, ◌==◌, Bool, true, false, ◌||◌, bit_or, List, [], ◌∷◌, map, replicate, length, get_or, set, refl, sym, ap, ◌∙◌, arith, inl, inr, length-append, Option, Some, None, IfSome, IfNone}
use Rattle.std.specs.List.{zip}
use Rattle.std.proofs.lemmas.Bool.{cases_eq, cases_lt}
use Rattle.std.proofs.lemmas.List.{ext_get_or, length-replicate, length-set, get_or-set_same, get_or-set_other, get_or-replicate, get_or_append_left, get_or-append_right, get_or_past}
use Rattle.std.specs.Int.{bit_at}
use Rattle.std.proofs.lemmas.Nat.Bits.{bit_at-zero, bit_at-lt, bit_at_or}
use Rattle.row_bits.specs.Bits.{is_set, bits_of, first_true}
use Rattle.row_bits.proofs.WordLemmas.{bits_at, length_bits, clear_behind, set_at, same_word, other_word, max_some}

-- truth values told place by place
pub same_bits : (n : ℕ) (words : List ℕ) (bits : List Bool) → length bits ≡ n → ((k : ℕ) → k < n → is_set words k ≡ get_or bits k false) → bits_of n words ≡ bits
same_bits n words bits long same =
    ext_get_or false (bits_of n words) bits (length_bits n words ∙ sym long)
    (λ k lt. let in_n : k < n = omega (arith, lt, length_bits n words) in bits_at n words k false in_n ∙ same k in_n)

-- beyond the last place nothing is true
pub bits_anywhere : (n : ℕ) (words : List ℕ) (k : ℕ) → length words * 64 ≤ n → get_or (bits_of n words) k false ≡ is_set words k
bits_anywhere n words k le =
    elim (cases_lt k n) [
      | inl lt ↦ bits_at n words k false lt
      | inr past ↦ get_or_past (bits_of n words) k false (omega (arith, past, length_bits n words)) ∙ sym (clear_behind words k (omega (arith, past, le)))
    ]

zeros_at : (n k : ℕ) → get_or (replicate n zero) k zero ≡ zero
zeros_at zero k = refl
zeros_at (suc n) zero = refl
zeros_at (suc n) (suc k) = zeros_at n k

pub zeros_clear : (n k : ℕ) → is_set (replicate n 0) k ≡ false
unfolding is_set
zeros_clear n k = rw (zeros_at n (k / 64), bit_at-zero (k % 64)) refl

pub none_true : bits_of 1024 (replicate 16 0) ≡ replicate 1024 false
none_true = same_bits 1024 (replicate 16 0) (replicate 1024 false) (length-replicate 1024 false) (λ k lt. zeros_clear 16 k ∙ sym (get_or-replicate 1024 k false false lt))

replicate_at : (n k : ℕ) → get_or (replicate n false) k false ≡ false
replicate_at zero k = refl
replicate_at (suc n) zero = refl
replicate_at (suc n) (suc k) = replicate_at n k

-- the first so many places of zeros, filled
pub first_filled : (rows : ℕ) (words : List ℕ) → rows ≤ 1024 → ((k : ℕ) → 0 ≤ k → k < rows → is_set words k ≡ true) → ((k : ℕ) → rows ≤ k → is_set words k ≡ is_set (replicate 16 0) k) → bits_of 1024 words ≡ first_true rows
first_filled rows words le inside above =
    same_bits 1024 words (first_true rows)
    (length-append (replicate rows true) (replicate (1024 - rows) false) ∙ (λ i. length-replicate rows true i + length-replicate (1024 - rows) false i) ∙ omega arith)
    (λ k lt. elim (cases_lt k rows) [
      | inl front ↦ inside k (omega arith) front ∙ sym (get_or_append_left (replicate rows true) (replicate (1024 - rows) false) false k (omega (arith, front, length-replicate rows true)) ∙ get_or-replicate rows k true false front)
      | inr behind ↦ above k behind ∙ zeros_clear 16 k ∙ sym (get_or-append_right (replicate rows true) (replicate (1024 - rows) false) rows k false (length-replicate rows true) behind ∙ replicate_at (1024 - rows) (k - rows))
    ])

module _ (op : Bool → Bool → Bool) where
  abbrev zipped : List Bool → List Bool → List Bool
  zipped xs ys = map (λ p. op p.0 p.1) (zip xs ys)

  zipped_long : (xs ys : List Bool) → length xs ≡ length ys → length (zipped xs ys) ≡ length xs
  zipped_long [] ys e = refl
  zipped_long (x ∷ xs) [] e = absurd (omega (arith, e))
  zipped_long (x ∷ xs) (y ∷ ys) e = ap suc (zipped_long xs ys (omega (arith, e)))

  zipped_at : (xs ys : List Bool) (k : ℕ) → length xs ≡ length ys → k < length xs → get_or (zipped xs ys) k false ≡ op (get_or xs k false) (get_or ys k false)
  zipped_at [] ys k e lt = absurd (omega (arith, lt))
  zipped_at (x ∷ xs) [] k e lt = absurd (omega (arith, e))
  zipped_at (x ∷ xs) (y ∷ ys) zero e lt = refl
  zipped_at (x ∷ xs) (y ∷ ys) (suc k) e lt = zipped_at xs ys k (omega (arith, e)) (omega (arith, lt))

  -- words joined bit by bit, seen as truth values
  pub joined_below : (n : ℕ) (old other new : List ℕ) → ((k : ℕ) → k < n → is_set new k ≡ op (is_set old k) (is_set other k)) → bits_of n new ≡ zipped (bits_of n old) (bits_of n other)
  joined_below n old other new same =
      let same_long : length (bits_of n old) ≡ length (bits_of n other) = length_bits n old ∙ sym (length_bits n other) in
      same_bits n new (zipped (bits_of n old) (bits_of n other)) (zipped_long (bits_of n old) (bits_of n other) same_long ∙ length_bits n old)
      (λ k lt.
      let a = bits_at n old k false lt in
      let b = bits_at n other k false lt in
      same k lt ∙ (λ i. op (sym a i) (sym b i)) ∙ sym (zipped_at (bits_of n old) (bits_of n other) k same_long (omega (arith, lt, length_bits n old))))

  pub joined_bits : (n : ℕ) (old other new : List ℕ) → ((k : ℕ) → is_set new k ≡ op (is_set old k) (is_set other k)) → bits_of n new ≡ zipped (bits_of n old) (bits_of n other)
  joined_bits n old other new same = joined_below n old other new (λ k lt. same k)

-- what is found among the words is found among the truth values
module _ (words : List ℕ) (bits : List Bool) (long : length words ≡ 16) (is : bits_of 1024 words ≡ bits) (from : ℕ) where
  told : (k : ℕ) → get_or bits k false ≡ is_set words k
  told k = ap (λ l. get_or l k false) (sym is) ∙ bits_anywhere 1024 words k (omega (arith, long))

  pub told_place : (o : Option ℕ) → IfSome o (λ place. (from ≤ place) × (place < length words * 64) × (is_set words place ≡ true))
      → IfSome o (λ place. (from ≤ place) × (place < 1024) × (get_or bits place false ≡ true))
  told_place None h = tt
  told_place (Some place) h = (h.0, omega (arith, h, long), told place ∙ h.2)

  pub told_least : (o : Option ℕ) → IfSome o (λ place. (k : ℕ) → from ≤ k → k < place → is_set words k ≡ false) → IfSome o (λ place. (k : ℕ) → from ≤ k → k < place → get_or bits k false ≡ false)
  told_least None h = tt
  told_least (Some place) h = λ k le lt. told k ∙ h k le lt

  pub told_none : (o : Option ℕ) → IfNone o ((k : ℕ) → from ≤ k → is_set words k ≡ false) → IfNone o ((k : ℕ) → from ≤ k → get_or bits k false ≡ false)
  told_none None h = λ k le. told k ∙ h k le
  told_none (Some place) h = tt

-- ---- a place that is put

pub page_put : (old new : List ℕ) (bits : List Bool) (place : ℕ) (value : Bool) → bits_of 1024 old ≡ bits → place < 1024 → is_set new place ≡ value
    → ((k : ℕ) → (k ≡ place → ⊥) → is_set new k ≡ is_set old k) → bits_of 1024 new ≡ set bits place value
page_put old new bits place value view lt here others =
    let long : length bits ≡ 1024 = sym (ap length view) ∙ length_bits 1024 old in
    same_bits 1024 new (set bits place value) (length-set bits place value ∙ long)
    (λ k in_page. elim (cases_eq k place) [
      | inl same ↦ ap (is_set new) same ∙ here ∙ sym (ap (λ j. get_or (set bits place value) j false) same ∙ get_or-set_same bits place value false (omega (arith, lt, long)))
      | inr ne ↦ others k ne ∙ sym (get_or-set_other bits place k value false ne ∙ ap (λ l. get_or l k false) (sym view) ∙ bits_at 1024 old k false in_page)
    ])

-- ---- a place that is made true

module _ (old new : List ℕ) (bits : List Bool) (place : ℕ) (view : bits_of 1024 old ≡ bits) where
  or_true : (b : Bool) → (b || true) ≡ true
  or_true true = refl
  or_true false = refl

  pub true_here : (value : Bool) → value ≡ true → place < 1024 → is_set new place ≡ true → get_or (bits_of 1024 new) place false ≡ (get_or bits place false || value)
  true_here value is lt here = bits_at 1024 new place false lt ∙ here ∙ sym (ap (λ b. get_or bits place false || b) is ∙ or_true (get_or bits place false))

  pub true_elsewhere : ((k : ℕ) → (k ≡ place → ⊥) → is_set new k ≡ is_set old k) → (k : ℕ) → (k ≡ place → ⊥) → get_or (bits_of 1024 new) k false ≡ get_or bits k false
  true_elsewhere others k ne =
      elim (cases_lt k 1024) [
        | inl lt ↦ bits_at 1024 new k false lt ∙ others k ne ∙ sym (bits_at 1024 old k false lt) ∙ ap (λ l. get_or l k false) view
        | inr past ↦ get_or_past (bits_of 1024 new) k false (omega (arith, past, length_bits 1024 new)) ∙ sym (get_or_past bits k false (omega (arith, past, length_bits 1024 old, ap length view)))
      ]

-- ---- a word that is added

added_at : (old : List ℕ) (at truths bit : ℕ) → at < length old → bit < 64
    → is_set (set old at (bit_or (get_or old at 0) truths)) (at * 64 + bit) ≡ (is_set old (at * 64 + bit) || bit_at truths bit == 1)
added_at old at truths bit there lt =
    let x = get_or old at 0 in
    same_word old at (bit_or x truths) bit (at * 64 + bit) there refl lt
    ∙ ap (λ n. n == 1) (bit_at_or x truths bit)
    ∙ max_some (bit_at x bit) (bit_at truths bit) (bit_at-lt x bit) (bit_at-lt truths bit)
    ∙ ap (λ b. b || bit_at truths bit == 1) (sym (set_at old at bit (at * 64 + bit) refl lt))

module _ (old : List ℕ) (bits : List Bool) (at truths : ℕ) (view : bits_of 1024 old ≡ bits) (long : length old ≡ 16) (within : at < 16) where
  abbrev new : List ℕ
  new = set old at (bit_or (get_or old at 0) truths)

  pub added_here : (bit : ℕ) → bit < 64 → get_or (bits_of 1024 new) (at * 64 + bit) false ≡ (get_or bits (at * 64 + bit) false || bit_at truths bit == 1)
  added_here bit lt =
      bits_at 1024 new (at * 64 + bit) false (omega arith)
      ∙ added_at old at truths bit (omega (arith, long)) lt
      ∙ ap (λ b. b || bit_at truths bit == 1) (sym (bits_at 1024 old (at * 64 + bit) false (omega arith)) ∙ ap (λ l. get_or l (at * 64 + bit) false) view)

  pub added_elsewhere : (k : ℕ) → (k / 64 ≡ at → ⊥) → get_or (bits_of 1024 new) k false ≡ get_or bits k false
  added_elsewhere k ne =
      let same_long : length new ≡ 16 = length-set old at (bit_or (get_or old at 0) truths) ∙ long in
      bits_anywhere 1024 new k (omega (arith, same_long))
      ∙ other_word old at (bit_or (get_or old at 0) truths) k ne
      ∙ sym (bits_anywhere 1024 old k (omega (arith, long)))
      ∙ ap (λ l. get_or l k false) view
