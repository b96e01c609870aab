-- Words that keep a bit for each code, and the codes that they have.
use Rattle.std.proofs.Common.{◌≡◌, ℕ, ◌+◌, ◌-◌, ◌*◌, ◌/◌, ◌^◌, ◌<◌, ◌≤◌, Bool, true, false, ◌&&◌, ◌||◌, List, [], ◌∷◌, ◌++◌, take, drop, replicate, length, get_or, set, nat_le, nat_lt, sym, ap, ◌∙◌, arith, inl, inr, true≢false, zero-add}
use Rattle.std.proofs.lemmas.Bool.{cases_lt, cases_eq, le-leb, lt-leb, lt-ltb, le-ltb}
use Rattle.std.proofs.lemmas.List.{drop_all, append-nil, take_all, length-replicate, length-set, length-map, get_or-map, get_or-replicate, get_or-set_same, get_or-set_other, get_or_past}
use Rattle.blink_lists.specs.Lists.{numbered}
use Rattle.blink_lists.proofs.BoolLemmas.{or-true}
use Rattle.blink_lists.proofs.NumberLemmas.{numbered-at, length-numbered}
use Rattle.row_bits.specs.Bits.{is_set, bits_of}
use Rattle.row_bits.proofs.WordLemmas.{or_none, bits_at, length_bits, clear_behind}
use Rattle.row_bits.proofs.PageLemmas.{same_bits, zeros_clear}
use Rattle.page_synopsis.specs.BitSets.{codes_set_from, with_range, AreCodeWords}
use Rattle.page_synopsis.specs.Runs.{runs_of}
use Rattle.page_synopsis.proofs.RunLemmas.{from_next, from_past, from_run}

-- words that a call has written, back in their place
pub written : (len : ℕ) (items words : List ℕ) → length items ≡ len → length words ≡ length items → take len (words ++ drop (length words) items) ≡ words
written len items words long same =
    rw (drop_all (length words) items (omega (arith, same)), append-nil words) (take_all len words (omega (arith, long, same)))

module _ (size : ℕ) (words : List ℕ) (bits : List Bool) (view : bits_of size words ≡ bits) where
  pub size_is : length bits ≡ size
  size_is = sym (ap length view) ∙ length_bits size words

  pub bit_is : (k : ℕ) → k < size → get_or bits k false ≡ is_set words k
  bit_is k lt = ap (λ l. get_or l k false) (sym view) ∙ bits_at size words k false lt

  pub bit_anywhere : AreCodeWords size words → (k : ℕ) → get_or bits k false ≡ is_set words k
  bit_anywhere are k =
      elim (cases_lt k size) [
        | inl lt ↦ bit_is k lt
        | inr past ↦ get_or_past bits k false (omega (arith, past, size_is)) ∙ sym (are.clear k past)
      ]

pub empty_words : (size : ℕ) → size < 2 ^ 32 → AreCodeWords size (replicate ((size + 63) / 64) 0)
empty_words size few = record { long = length-replicate ((size + 63) / 64) 0; few = few; clear = λ k le. zeros_clear ((size + 63) / 64) k }

pub empty_bits : (size n : ℕ) → bits_of size (replicate n 0) ≡ replicate size false
empty_bits size n = same_bits size (replicate n 0) (replicate size false) (length-replicate size false) (λ k lt. zeros_clear n k ∙ sym (get_or-replicate size k false false lt))

pub filled_words : (size low high : ℕ) (old new : List ℕ) → AreCodeWords size old → length new ≡ length old → high ≤ size → ((k : ℕ) → high ≤ k → is_set new k ≡ is_set old k) → AreCodeWords size new
filled_words size low high old new are same le above = record { long = same ∙ are.long; few = are.few; clear = λ k past. above k (omega (arith, le, past)) ∙ are.clear k past }

pub set_bits : (size code : ℕ) (old new : List ℕ) (bits : List Bool) → bits_of size old ≡ bits → code < size
    → ((k : ℕ) → code ≤ k → k < code + 1 → is_set new k ≡ true) → ((k : ℕ) → k < code → is_set new k ≡ is_set old k) → ((k : ℕ) → code + 1 ≤ k → is_set new k ≡ is_set old k)
    → bits_of size new ≡ set bits code true
set_bits size code old new bits view lt inside below above =
    let long = size_is size old bits view in
    same_bits size new (set bits code true) (length-set bits code true ∙ long)
    (λ k in_size. elim (cases_eq k code) [
      | inl here ↦ inside k (omega (arith, here)) (omega (arith, here)) ∙ sym (ap (λ j. get_or (set bits code true) j false) here ∙ get_or-set_same bits code true false (omega (arith, lt, long)))
      | inr ne ↦
          let same : get_or (set bits code true) k false ≡ is_set old k = get_or-set_other bits code k true false ne ∙ bit_is size old bits view k in_size in
          elim (cases_lt k code) [ inl under ↦ below k under ∙ sym same | inr le ↦ above k (omega (arith, le, ne)) ∙ sym same ]
    ])

pub length_range : (low high : ℕ) (bits : List Bool) → length (with_range low high bits) ≡ length bits
length_range low high bits = length-map (numbered bits) (λ (p : ℕ × Bool). p.1 || nat_le low p.0 && nat_lt p.0 high) ∙ length-numbered 0 bits

pub with_range_at : (low high : ℕ) (bits : List Bool) (k : ℕ) → k < length bits → get_or (with_range low high bits) k false ≡ (get_or bits k false || nat_le low k && nat_lt k high)
with_range_at low high bits k lt =
    let f = λ (p : ℕ × Bool). p.1 || nat_le low p.0 && nat_lt p.0 high in
    get_or-map f (numbered bits) k (0, false) false (omega (arith, lt, length-numbered 0 bits)) ∙ ap f (numbered-at 0 bits k false lt) ∙ ap (λ j. get_or bits k false || nat_le low j && nat_lt j high) (zero-add k)

pub range_bits : (size low high : ℕ) (old new : List ℕ) (bits : List Bool) → bits_of size old ≡ bits
    → ((k : ℕ) → low ≤ k → k < high → is_set new k ≡ true) → ((k : ℕ) → k < low → is_set new k ≡ is_set old k) → ((k : ℕ) → high ≤ k → is_set new k ≡ is_set old k)
    → bits_of size new ≡ with_range low high bits
range_bits size low high old new bits view inside below above =
    let long = size_is size old bits view in
    same_bits size new (with_range low high bits) (length_range low high bits ∙ long)
    (λ k in_size.
    let here = with_range_at low high bits k (omega (arith, in_size, long)) in
    let was = bit_is size old bits view k in_size in
    elim (cases_lt k low) [
      | inl under ↦ below k under ∙ sym (here ∙ rw (was, lt-leb low k under) (or_none (is_set old k)))
      | inr le ↦ elim (cases_lt k high) [
        | inl lt ↦ inside k le lt ∙ sym (here ∙ rw (le-leb low k le, lt-ltb k high lt) (or-true (get_or bits k false)))
        | inr past ↦ above k past ∙ sym (here ∙ rw (was, le-leb low k le, le-ltb k high past) (or_none (is_set old k)))
      ]
    ])

pub added_words : (size : ℕ) (old other new : List ℕ) → AreCodeWords size old → ((k : ℕ) → size ≤ k → is_set other k ≡ false) → length new ≡ length old
    → ((k : ℕ) → k < length old * 64 → is_set new k ≡ (is_set old k || is_set other k)) → AreCodeWords size new
added_words size old other new are none same each = record {
  long = same ∙ are.long;
  few = are.few;
  clear = λ k past. elim (cases_lt k (length old * 64)) [
    | inl lt ↦ each k lt ∙ (λ i. are.clear k past i || none k past i)
    | inr behind ↦ clear_behind new k (omega (arith, behind, same))
  ];
}

pub in_words : (size : ℕ) (words : List ℕ) (k : ℕ) → AreCodeWords size words → k < size → k < length words * 64
in_words size words k are lt = omega (arith, lt, are.long)

pub joined_words : (op : Bool → Bool → Bool) (size : ℕ) (old other new : List ℕ) → op false false ≡ false → AreCodeWords size old → AreCodeWords size other → length new ≡ length old
    → ((k : ℕ) → is_set new k ≡ op (is_set old k) (is_set other k)) → AreCodeWords size new
joined_words op size old other new none are others same each = record {
  long = same ∙ are.long;
  few = are.few;
  clear = λ k past. each k ∙ (λ i. op (are.clear k past i) (others.clear k past i)) ∙ none;
}

-- words of one size are as many
pub one_length : (size other : ℕ) (words others : List ℕ) (bits more : List Bool) → AreCodeWords size words → AreCodeWords other others → bits_of size words ≡ bits → bits_of other others ≡ more
    → length more ≡ length bits → (other ≡ size) × (length others ≡ length words)
one_length size other words others bits more are ares view views same =
    let a = size_is size words bits view in
    let b = size_is other others more views in
    let e : other ≡ size = omega (arith, a, b, same) in
    (e, ares.long ∙ ap (λ n. (n + 63) / 64) e ∙ sym are.long)

-- ---- the first run from a code on

module _ (size : ℕ) (words : List ℕ) (bits : List Bool) (view : bits_of size words ≡ bits) (are : AreCodeWords size words) where
  pub no_run : (from : ℕ) → from ≤ length bits → ((k : ℕ) → from ≤ k → is_set words k ≡ false) → codes_set_from from bits ≡ []
  no_run from le clear =
      from_next bits (length bits - from) from (length bits) (omega (arith, le)) (λ k after lt. bit_anywhere size words bits view are k ∙ clear k after)
      ∙ from_past bits (length bits) (omega arith)

  inside : (k : ℕ) → is_set words k ≡ true → k < size
  inside k set = elim (cases_lt k size) [ inl lt ↦ lt | inr past ↦ absurd (true≢false (sym set ∙ are.clear k past)) ]

  pub run_ends : (low behind : ℕ) → is_set words low ≡ true → low ≤ behind → is_set words behind ≡ false → ((k : ℕ) → low ≤ k → k < behind → is_set words k ≡ true) → (low < behind) × (behind ≤ size)
  run_ends low behind set le gap all =
      let in_size = inside low set in
      let more : low < behind = elim (cases_eq low behind) [ inl same ↦ absurd (true≢false (sym set ∙ ap (is_set words) same ∙ gap)) | inr ne ↦ omega (arith, le, ne) ] in
      (more, elim (cases_lt size behind) [ inl past ↦ absurd (true≢false (sym (all size (omega (arith, in_size)) past) ∙ are.clear size (omega arith))) | inr within ↦ within ])

  pub first_run : (from low behind : ℕ) → from ≤ low → is_set words low ≡ true → ((k : ℕ) → from ≤ k → k < low → is_set words k ≡ false) → low ≤ behind → is_set words behind ≡ false
      → ((k : ℕ) → low ≤ k → k < behind → is_set words k ≡ true) → runs_of (codes_set_from from bits) ≡ record { low = low; high = behind - 1 } ∷ runs_of (codes_set_from (behind - 1 + 1) bits)
  first_run from low behind le set clear after gap all =
      let ends = run_ends low behind set after gap all in
      let at = bit_anywhere size words bits view are in
      let long = size_is size words bits view in
      let same : behind ≡ behind - 1 + 1 = omega (arith, ends) in
      ap runs_of (from_next bits (low - from) from low (omega (arith, le)) (λ k f lt. at k ∙ clear k f lt))
      ∙ from_run bits (behind - low - 1) low behind (omega (arith, ends)) (λ k f lt. at k ∙ all k f lt) (omega (arith, ends, long)) (at behind ∙ gap)
      ∙ ap (λ b. record { low = low; high = behind - 1 } ∷ runs_of (codes_set_from b bits)) same
