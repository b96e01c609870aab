-- Sets of codes as lists that rise.
use Rattle.std.proofs.Common.{◌≡◌, ℕ, zero, suc, ◌+◌, ◌-◌, ◌<◌, ◌≤◌, ◌==◌, Bool, true, false, ◌&&◌, ◌||◌, List, [], ◌∷◌, ◌++◌, map, filter, take, replicate, length, get_or, set, not, nat_le, nat_lt, refl, sym, ap, subst, ◌∙◌, arith, inl, inr, zero-add}
use Rattle.std.specs.Bool.{⊤}
use Rattle.std.specs.List.{list_any}
use Rattle.std.proofs.lemmas.Bool.{and_from, cases_lt, cases_eq, eq-eqb, ne_eqb, ltb-true, le-leb, lt-leb, lt-ltb, le-ltb, and_parts}
use Rattle.std.proofs.lemmas.List.{length-map, get_or-map, ext_get_or, length-replicate, get_or-replicate, length-set, take_more_set, append-nil, append_assoc, length-take-le, length-append}
use Rattle.std.proofs.lemmas.List.Folds.{list_any-append}
use Rattle.blink_lists.specs.Lists.{numbered, numbers_from}
use Rattle.blink_lists.proofs.NumberLemmas.{numbered-at, length-numbered, numbers-at, length-numbers}
use Rattle.row_bits.specs.Bits.{is_set, bits_of, both_true}
use Rattle.row_bits.proofs.WordLemmas.{or_none}
use Rattle.row_bits.proofs.PageLemmas.{same_bits}
use Rattle.page_synopsis.specs.declared.limits.TheConstants.{MOST_RUNS}
use Rattle.page_synopsis.specs.declared.narrow.Range.{Range}
use Rattle.page_synopsis.specs.BitSets.{codes_set, codes_set_from, with_range, with_codes, all_below, bits_of_codes}
use Rattle.page_synopsis.specs.Runs.{runs_of, run_codes, runs_codes, in_both, is_narrow, are_runs}
use Rattle.page_synopsis.proofs.BitSetLemmas.{length_range, with_range_at}
use Rattle.page_synopsis.proofs.RunLemmas.{From, set_codes, in_run, expanded, from_runs, are_runs_from, from_are_runs}
use Rattle.page_synopsis.specs.declared.ranges.Ranges.{Ranges}
use Rattle.page_synopsis.specs.declared.ranges.Ranges.TheVariants.{Narrow, Wide}
use Rattle.page_synopsis.specs.Sets.{codes_in, is_fair}

abbrev has : List ℕ → ℕ → Bool
has codes code = list_any (λ c. c == code) codes

-- ---- the codes of bits

set_before : (bits : List Bool) (from code : ℕ) → code < from → has (set_codes from bits) code ≡ false
set_before [] from code lt = refl
set_before (true ∷ bits) from code lt = rw (ne_eqb from code (λ e. omega (arith, lt, e))) (set_before bits (from + 1) code (omega (arith, lt)))
set_before (false ∷ bits) from code lt = set_before bits (from + 1) code (omega (arith, lt))

set_there : (bits : List Bool) (from code k : ℕ) → code ≡ from + k → has (set_codes from bits) code ≡ get_or bits k false
set_there [] from code k e = refl
set_there (true ∷ bits) from code zero e = rw (eq-eqb from code (omega (arith, e))) refl
set_there (false ∷ bits) from code zero e = set_before bits (from + 1) code (omega (arith, e))
set_there (true ∷ bits) from code (suc k) e = rw (ne_eqb from code (λ s. omega (arith, e, s))) (set_there bits (from + 1) code k (omega (arith, e)))
set_there (false ∷ bits) from code (suc k) e = set_there bits (from + 1) code k (omega (arith, e))

-- a code is among the set ones where its bit is set
pub in_set : (bits : List Bool) (code : ℕ) → list_any (λ c. c == code) (codes_set bits) ≡ get_or bits code false
in_set bits code = set_there bits 0 code code (sym (zero-add code))

pub not_below : (size code : ℕ) (codes : List ℕ) → all_below size codes ≡ true → size ≤ code → list_any (λ c. c == code) codes ≡ false
not_below size code [] all le = refl
not_below size code (c ∷ codes) all le =
    let parts = and_parts (nat_lt c size) (all_below size codes) all in
    let lt : c < size = ltb-true c size parts.0 in
    rw (ne_eqb c code (λ e. omega (arith, lt, le, e))) (not_below size code codes parts.1 le)

-- ---- bits with codes

pub with_codes_at : (codes : List ℕ) (bits : List Bool) (k : ℕ) → k < length bits → get_or (with_codes codes bits) k false ≡ (get_or bits k false || list_any (λ c. c == k) codes)
with_codes_at codes bits k lt =
    let f = λ (p : ℕ × Bool). p.1 || list_any (λ c. c == p.0) codes in
    get_or-map f (numbered bits) k (0, false) false (omega (arith, lt, length-numbered 0 bits)) ∙ ap f (numbered-at 0 bits k false lt) ∙ ap (λ j. get_or bits k false || list_any (λ c. c == j) codes) (zero-add k)

pub length_with : (codes : List ℕ) (bits : List Bool) → length (with_codes codes bits) ≡ length bits
length_with codes bits = length-map (numbered bits) (λ (p : ℕ × Bool). p.1 || list_any (λ c. c == p.0) codes) ∙ length-numbered 0 bits

or_assoc : (a b c : Bool) → ((a || b) || c) ≡ (a || (b || c))
or_assoc true b c = refl
or_assoc false b c = refl

to_end : (high k : ℕ) → nat_lt k (high + 1) ≡ nat_le k high
to_end high k = elim (cases_lt high k) [
  | inl past ↦ le-ltb k (high + 1) (omega (arith, past)) ∙ sym (lt-leb k high past)
  | inr within ↦ lt-ltb k (high + 1) (omega (arith, within)) ∙ sym (le-leb k high within)
]

-- one more run
pub with_run : (codes : List ℕ) (run : Range) (bits : List Bool) → run.low ≤ run.high → with_range run.low (run.high + 1) (with_codes codes bits) ≡ with_codes (codes ++ run_codes run) bits
with_run codes run bits le =
    let a = length_range run.low (run.high + 1) (with_codes codes bits) in
    let b = length_with codes bits in
    let d = length_with (codes ++ run_codes run) bits in
    ext_get_or false (with_range run.low (run.high + 1) (with_codes codes bits)) (with_codes (codes ++ run_codes run) bits) (a ∙ b ∙ sym d)
    (λ k lt.
    let in_bits : k < length bits = omega (arith, lt, a, b) in
    with_range_at run.low (run.high + 1) (with_codes codes bits) k (omega (arith, in_bits, b))
    ∙ (λ i. with_codes_at codes bits k in_bits i || nat_le run.low k && to_end run.high k i)
    ∙ or_assoc (get_or bits k false) (list_any (λ c. c == k) codes) (nat_le run.low k && nat_le k run.high)
    ∙ ap (λ x. get_or bits k false || (list_any (λ c. c == k) codes || x)) (sym (in_run k run le))
    ∙ ap (λ x. get_or bits k false || x) (sym (list_any-append (λ c. c == k) codes (run_codes run)))
    ∙ sym (with_codes_at (codes ++ run_codes run) bits k in_bits))

pub with_none : (bits : List Bool) → with_codes [] bits ≡ bits
with_none bits =
    ext_get_or false (with_codes [] bits) bits (length_with [] bits) (λ k lt. with_codes_at [] bits k (omega (arith, lt, length_with [] bits)) ∙ or_none (get_or bits k false))

bits_of_codes_at : (size : ℕ) (codes : List ℕ) (k : ℕ) → k < size → get_or (bits_of_codes size codes) k false ≡ list_any (λ c. c == k) codes
bits_of_codes_at size codes k lt = numbers-at (has codes) 0 size k false lt ∙ ap (has codes) (zero-add k)

pub only_codes : (size : ℕ) (codes : List ℕ) → with_codes codes (replicate size false) ≡ bits_of_codes size codes
only_codes size codes =
    let a = length_with codes (replicate size false) in
    let b = length-replicate size false in
    ext_get_or false (with_codes codes (replicate size false)) (bits_of_codes size codes) (a ∙ b ∙ sym (length-numbers (has codes) 0 size))
    (λ k lt.
    let in_size : k < size = omega (arith, lt, a, b) in
    with_codes_at codes (replicate size false) k (omega (arith, in_size, b)) ∙ ap (λ x. x || list_any (λ c. c == k) codes) (get_or-replicate size k false false in_size) ∙ sym (bits_of_codes_at size codes k in_size))

-- ---- rising codes are their own bits

abbrev pub Rising : ℕ → List ℕ → Type 0
Rising from [] = ⊤
Rising from (code ∷ codes) = (from ≤ code) × Rising (code + 1) codes

rising_more : (a b : ℕ) (codes : List ℕ) → a ≤ b → Rising b codes → Rising a codes
rising_more a b [] le r = tt
rising_more a b (code ∷ codes) le r = let first : b ≤ code = r.0 in (omega (arith, le, first), r.1)

pub rising_set : (from : ℕ) (bits : List Bool) → Rising from (set_codes from bits)
rising_set from [] = tt
rising_set from (true ∷ bits) = (omega arith, rising_set (from + 1) bits)
rising_set from (false ∷ bits) = rising_more from (from + 1) (set_codes (from + 1) bits) (omega arith) (rising_set (from + 1) bits)

rising_numbers : (from n : ℕ) (codes : List ℕ) → Rising (from + n) codes → Rising from (numbers_from from n ++ codes)
rising_numbers from zero codes r = rising_more from (from + 0) codes (omega arith) r
rising_numbers from (suc n) codes r = (omega arith, rising_numbers (from + 1) n codes (rising_more (from + 1 + n) (from + suc n) codes (omega arith) r))

pub rising_runs : (from : ℕ) (runs : List Range) → From from runs → Rising from (runs_codes runs)
rising_runs from [] f = tt
rising_runs from (run ∷ runs) f =
    let rest = rising_runs (run.high + 2) runs f.2 in
    let le : run.low ≤ run.high = f.1 in
    rising_more from run.low (run_codes run ++ runs_codes runs) f.0
    (rising_numbers run.low (run.high - run.low + 1) (runs_codes runs) (rising_more (run.low + (run.high - run.low + 1)) (run.high + 2) (runs_codes runs) (omega (arith, le)) rest))

none_has : (codes : List ℕ) (from code : ℕ) → Rising from codes → code < from → has codes code ≡ false
none_has [] from code r lt = refl
none_has (c ∷ codes) from code r lt =
    let first : from ≤ c = r.0 in
    rw (ne_eqb c code (λ e. omega (arith, first, lt, e))) (none_has codes (c + 1) code r.1 (omega (arith, first, lt)))

same_filter : (p q : ℕ → Bool) (from n : ℕ) → ((k : ℕ) → from ≤ k → p k ≡ q k) → filter p (numbers_from from n) ≡ filter q (numbers_from from n)
same_filter p q from zero same = refl
same_filter p q from (suc n) same = by (q from) refl (same_filter p q (from + 1) n (λ k le. same k (omega (arith, le))))
  where
    by : (b : Bool) → q from ≡ b → filter p (numbers_from (from + 1) n) ≡ filter q (numbers_from (from + 1) n) → filter p (numbers_from from (suc n)) ≡ filter q (numbers_from from (suc n))
    by true e r = rw (same from (omega arith), e) (ap (λ l. from ∷ l) r)
    by false e r = rw (same from (omega arith), e) r

no_filter : (from n : ℕ) → filter (λ k. false) (numbers_from from n) ≡ []
no_filter from zero = refl
no_filter from (suc n) = no_filter (from + 1) n

pub chosen : (codes : List ℕ) (from n : ℕ) → Rising from codes → all_below (from + n) codes ≡ true → filter (has codes) (numbers_from from n) ≡ codes
chosen [] from n r all = no_filter from n
chosen (c ∷ codes) from zero r all =
    let parts = and_parts (nat_lt c (from + 0)) (all_below (from + 0) codes) all in
    let lt : c < from + 0 = ltb-true c (from + 0) parts.0 in
    let first : from ≤ c = r.0 in
    absurd (omega (arith, lt, first))
chosen (c ∷ codes) from (suc n) r all =
    let parts = and_parts (nat_lt c (from + suc n)) (all_below (from + suc n) codes) all in
    let next : from + suc n ≡ from + 1 + n = omega arith in
    let first : from ≤ c = r.0 in
    elim (cases_eq c from) [
      | inl here ↦
          let rest : filter (has codes) (numbers_from (from + 1) n) ≡ codes = chosen codes (from + 1) n (rising_more (from + 1) (c + 1) codes (omega (arith, here)) r.1) (subst (λ (m : ℕ). all_below m codes ≡ true) next parts.1) in
          let others : filter (has (c ∷ codes)) (numbers_from (from + 1) n) ≡ filter (has codes) (numbers_from (from + 1) n)
          = same_filter (has (c ∷ codes)) (has codes) (from + 1) n (λ k le. rw (ne_eqb c k (λ e. omega (arith, here, le, e))) refl) in
          rw (eq-eqb c from here) ((λ i. sym here i ∷ (others ∙ rest) i))
      | inr ne ↦
          let missing : has (c ∷ codes) from ≡ false = none_has (c ∷ codes) (from + 1) from (omega (arith, first, ne), r.1) (omega arith) in
          rw missing (chosen (c ∷ codes) (from + 1) n (omega (arith, first, ne), r.1) (subst (λ (m : ℕ). all_below m (c ∷ codes) ≡ true) next all))
    ]

set_numbers : (f : ℕ → Bool) (from n : ℕ) → set_codes from (map f (numbers_from from n)) ≡ filter f (numbers_from from n)
set_numbers f from zero = refl
set_numbers f from (suc n) = by (f from) refl (set_numbers f (from + 1) n)
  where
    by : (b : Bool) → f from ≡ b → set_codes (from + 1) (map f (numbers_from (from + 1) n)) ≡ filter f (numbers_from (from + 1) n) → set_codes from (map f (numbers_from from (suc n))) ≡ filter f (numbers_from from (suc n))
    by true e r = rw e (ap (λ l. from ∷ l) r)
    by false e r = rw e r

both_numbers : (f g : ℕ → Bool) (from n : ℕ) → both_true (map f (numbers_from from n)) (map g (numbers_from from n)) ≡ map (λ k. f k && g k) (numbers_from from n)
both_numbers f g from zero = refl
both_numbers f g from (suc n) = ap (λ l. (f from && g from) ∷ l) (both_numbers f g (from + 1) n)

filter_both : (f g : ℕ → Bool) (codes : List ℕ) → filter (λ k. f k && g k) codes ≡ filter g (filter f codes)
filter_both f g [] = refl
filter_both f g (c ∷ codes) = by (f c) (g c) refl refl (filter_both f g codes)
  where
    by : (a b : Bool) → f c ≡ a → g c ≡ b → filter (λ k. f k && g k) codes ≡ filter g (filter f codes) → filter (λ k. f k && g k) (c ∷ codes) ≡ filter g (filter f (c ∷ codes))
    by true true e h r = rw (e, h) (ap (λ l. c ∷ l) r)
    by true false e h r = rw (e, h) r
    by false b e h r = rw e r

-- the codes of both
pub codes_of_both : (size : ℕ) (xs ys : List ℕ) → Rising 0 xs → all_below size xs ≡ true → codes_set (both_true (bits_of_codes size xs) (bits_of_codes size ys)) ≡ in_both xs ys
codes_of_both size xs ys r all =
    ap codes_set (both_numbers (has xs) (has ys) 0 size) ∙ set_numbers (λ k. has xs k && has ys k) 0 size ∙ filter_both (has xs) (has ys) (numbers_from 0 size)
    ∙ ap (filter (has ys)) (chosen xs 0 size r (subst (λ (n : ℕ). all_below n xs ≡ true) (sym (zero-add size)) all))

-- the codes of one set added to bits
pub added_codes : (size : ℕ) (words : List ℕ) (bits others : List Bool) → length bits ≡ size → ((k : ℕ) → k < size → is_set words k ≡ (get_or bits k false || get_or others k false))
    → bits_of size words ≡ with_codes (codes_set others) bits
added_codes size words bits others long each =
    same_bits size words (with_codes (codes_set others) bits) (length_with (codes_set others) bits ∙ long)
    (λ k lt. each k lt ∙ ap (λ b. get_or bits k false || b) (sym (in_set others k)) ∙ sym (with_codes_at (codes_set others) bits k (omega (arith, lt, long))))

-- ---- runs taken one by one

pub record Taken (bits : List Bool) (ranges : List Range) (from count : ℕ) : Type 0 where
  pub room : length ranges ≡ MOST_RUNS
  pub within : from ≤ length bits
  pub so_far : runs_of (codes_set bits) ≡ take count ranges ++ runs_of (codes_set_from from bits)

pub none_taken : (bits : List Bool) (ranges : List Range) → length ranges ≡ MOST_RUNS → Taken bits ranges 0 0
none_taken bits ranges room = record { room = room; within = omega arith; so_far = refl }

pub one_taken : (bits : List Bool) (ranges : List Range) (from count : ℕ) (run : Range) → Taken bits ranges from count → count < MOST_RUNS → run.high < length bits
    → runs_of (codes_set_from from bits) ≡ run ∷ runs_of (codes_set_from (run.high + 1) bits) → Taken bits (set ranges count run) (run.high + 1) (count + 1)
one_taken bits ranges from count run t lt high first = record {
  room = length-set ranges count run ∙ t.room;
  within = omega (arith, high);
  so_far =
      t.so_far ∙ ap (λ l. take count ranges ++ l) first ∙ sym (append_assoc (take count ranges) (run ∷ []) (runs_of (codes_set_from (run.high + 1) bits)))
      ∙ ap (λ l. l ++ runs_of (codes_set_from (run.high + 1) bits)) (sym (take_more_set ranges count run (omega (arith, lt, t.room))));
}

-- where none is left, these are all
pub all_taken : (bits : List Bool) (ranges : List Range) (from count : ℕ) → Taken bits ranges from count → codes_set_from from bits ≡ [] → take count ranges ≡ runs_of (codes_set bits)
all_taken bits ranges from count t none = sym (t.so_far ∙ ap (λ l. take count ranges ++ runs_of l) none ∙ append-nil (take count ranges))

pub taken_none : (bits : List Bool) (ranges : List Range) (from count : ℕ) → count ≡ 0 → Taken bits ranges from count → codes_set_from from bits ≡ [] → codes_set bits ≡ []
taken_none bits ranges from count e t none = sym (expanded (codes_set bits)) ∙ ap runs_codes (sym (all_taken bits ranges from count t none)) ∙ ap (λ n. runs_codes (take n ranges)) e

pub taken_runs : (bits : List Bool) (ranges : List Range) (from count : ℕ) → Taken bits ranges from count → codes_set_from from bits ≡ [] → 0 < count → count ≤ MOST_RUNS → are_runs (take count ranges) ≡ true
taken_runs bits ranges from count t none some few =
    let long : length (take count ranges) ≡ count = length-take-le count ranges (omega (arith, few, t.room)) in
    are_runs_from 0 (take count ranges) (subst (From 0) (sym (all_taken bits ranges from count t none)) (from_runs bits 0)) (omega (arith, long, some)) (omega (arith, long, few))

pub taken_codes : (bits : List Bool) (ranges : List Range) (from count : ℕ) → Taken bits ranges from count → codes_set_from from bits ≡ [] → runs_codes (take count ranges) ≡ codes_set bits
taken_codes bits ranges from count t none = ap runs_codes (all_taken bits ranges from count t none) ∙ expanded (codes_set bits)

pub taken_whole : (bits : List Bool) (ranges : List Range) (from count : ℕ) (runs : List Range) → Taken bits ranges from count → codes_set_from from bits ≡ [] → 0 < count → count ≤ MOST_RUNS → runs ≡ take count ranges
    → (runs_codes runs ≡ codes_set bits) × (are_runs runs ≡ true)
taken_whole bits ranges from count runs t none some few e = (ap runs_codes e ∙ taken_codes bits ranges from count t none, ap are_runs e ∙ taken_runs bits ranges from count t none some few)

-- after the last of eight
pub full_taken : (bits : List Bool) (ranges : List Range) (from count : ℕ) → MOST_RUNS ≤ count → count ≤ MOST_RUNS → Taken bits ranges from count → Taken bits ranges from MOST_RUNS
full_taken bits ranges from count le few t = let e : count ≡ MOST_RUNS = omega (arith, le, few) in subst (λ (n : ℕ). Taken bits ranges from n) e t

-- where one more is left behind as many as a narrow set may have, it is wide
pub too_many : (bits : List Bool) (ranges : List Range) (from : ℕ) (run : Range) (runs : List Range) → Taken bits ranges from MOST_RUNS → runs_of (codes_set_from from bits) ≡ run ∷ runs → not (is_narrow (codes_set bits)) ≡ true
too_many bits ranges from run runs t more =
    let long : length (take MOST_RUNS ranges) ≡ MOST_RUNS = length-take-le MOST_RUNS ranges (omega (arith, t.room)) in
    let whole : length (runs_of (codes_set bits)) ≡ length (take MOST_RUNS ranges) + suc (length runs) = ap length (t.so_far ∙ ap (λ l. take MOST_RUNS ranges ++ l) more) ∙ length-append (take MOST_RUNS ranges) (run ∷ runs) in
    ap not (lt-leb (length (runs_of (codes_set bits))) MOST_RUNS (omega (arith, whole, long)))

-- ---- the codes of a set rise

pub rising_in : (set : Ranges) → is_fair set ≡ true → Rising 0 (codes_in set)
rising_in (Narrow runs) fair = rising_runs 0 runs (from_are_runs runs fair)
rising_in (Wide bits) fair = rising_set 0 bits

-- ---- the codes of bits are below their size

set_codes_below : (size from : ℕ) (bits : List Bool) → from + length bits ≤ size → all_below size (set_codes from bits) ≡ true
set_codes_below size from [] le = refl
set_codes_below size from (true ∷ bits) le =
    and_from (nat_lt from size) (all_below size (set_codes (from + 1) bits)) (lt-ltb from size (omega (arith, le))) (set_codes_below size (from + 1) bits (omega (arith, le)))
set_codes_below size from (false ∷ bits) le = set_codes_below size (from + 1) bits (omega (arith, le))

pub set_below : (bits : List Bool) → all_below (length bits) (codes_set bits) ≡ true
set_below bits = set_codes_below (length bits) 0 bits (omega arith)

pub codes_below : (bits : List Bool) (codes : List ℕ) → codes ≡ codes_set bits → all_below (length bits) codes ≡ true
codes_below bits codes e = ap (all_below (length bits)) e ∙ set_below bits

pub length_both : (size : ℕ) (xs ys : List ℕ) → length (both_true (bits_of_codes size xs) (bits_of_codes size ys)) ≡ size
length_both size xs ys = ap length (both_numbers (has xs) (has ys) 0 size) ∙ length-numbers (λ k. has xs k && has ys k) 0 size
