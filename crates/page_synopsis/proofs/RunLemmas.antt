-- The runs of codes: they have these codes, rise, and have gaps between them.
use Rattle.std.proofs.Common.{◌≡◌, ℕ, zero, suc, ◌+◌, ◌-◌, ◌<◌, ◌≤◌, ◌==◌, Bool, true, false, ◌&&◌, ◌||◌, List, [], ◌∷◌, ◌++◌, length, map, filter, take, drop, get_or, nat_le, nat_lt, refl, sym, ap, ◌∙◌, arith, true≢false, inl, inr}
use Rattle.std.specs.Bool.{⊤}
use Rattle.std.specs.List.{list_any}
use Rattle.std.proofs.lemmas.Bool.{eqb-true, eqb-false, eq-eqb, ne_eqb, leb-true, ltb-true, le-leb, lt-ltb, lt-leb, le-ltb, and_parts, and_from, cases_lt, cases_eq}
use Rattle.std.proofs.lemmas.List.{drop_more, drop_all, take_more, flat_map_more}
use Rattle.std.proofs.lemmas.List.Folds.{list_any-append, list_all-append}
use Rattle.blink_lists.specs.Lists.{numbers_from, numbered_from}
use Rattle.page_synopsis.specs.declared.narrow.Range.{Range}
use Rattle.page_synopsis.specs.Runs.{before_runs, runs_of, run_codes, runs_codes, lies_in, are_above, are_runs}
use Rattle.page_synopsis.specs.BitSets.{codes_set_from, all_below}
use Rattle.page_synopsis.specs.Sets.{CodesLieInRuns, RunsAreCodes}
use Rattle.page_synopsis.specs.declared.limits.TheConstants.{MOST_RUNS}

-- each run has a code
abbrev All_some : List Range → Type 0
All_some [] = ⊤
All_some (run ∷ runs) = (run.low ≤ run.high) × All_some runs

numbers-more : (n m k : ℕ) → m ≡ suc k → numbers_from n m ≡ n ∷ numbers_from (n + 1) k
numbers-more n m k e = ap (numbers_from n) e

one_more : (code : ℕ) (runs : List Range) → All_some runs → runs_codes (before_runs code runs) ≡ code ∷ runs_codes runs
one_more code [] s = ap (λ l. l ++ []) (numbers-more code (code - code + 1) 0 (omega arith))
one_more code (run ∷ runs) s = by (run.low == code + 1) refl
  where
    by : (b : Bool) → (run.low == code + 1) ≡ b → runs_codes (before_runs code (run ∷ runs)) ≡ code ∷ runs_codes (run ∷ runs)
    by true e =
        let low : run.low ≡ code + 1 = eqb-true run.low (code + 1) e in
        let le : run.low ≤ run.high = s.0 in
        rw (before_runs, e)
        (ap (λ l. l ++ runs_codes runs)
        (numbers-more code (run.high - code + 1) (run.high - run.low + 1) (omega (arith, low, le)) ∙ ap (λ k. code ∷ numbers_from k (run.high - run.low + 1)) (sym low)))
    by false e = rw (before_runs, e) (ap (λ l. l ++ runs_codes (run ∷ runs)) (numbers-more code (code - code + 1) 0 (omega arith)))

still_some : (code : ℕ) (runs : List Range) → All_some runs → All_some (before_runs code runs)
still_some code [] s = (omega arith, tt)
still_some code (run ∷ runs) s = by (run.low == code + 1) refl
  where
    by : (b : Bool) → (run.low == code + 1) ≡ b → All_some (before_runs code (run ∷ runs))
    by true e = let low : run.low ≡ code + 1 = eqb-true run.low (code + 1) e in let le : run.low ≤ run.high = s.0 in rw (before_runs, e) (omega (arith, low, le), s.1)
    by false e = rw (before_runs, e) (omega arith, s)

all_some : (codes : List ℕ) → All_some (runs_of codes)
all_some [] = tt
all_some (code ∷ codes) = still_some code (runs_of codes) (all_some codes)

pub expanded : (codes : List ℕ) → runs_codes (runs_of codes) ≡ codes
expanded [] = refl
expanded (code ∷ codes) = one_more code (runs_of codes) (all_some codes) ∙ ap (λ l. code ∷ l) (expanded codes)

pub runs_are_codes : RunsAreCodes
runs_are_codes codes = expanded codes

-- ---- runs from a code on, with a gap between each two

abbrev pub From : ℕ → List Range → Type 0
From code [] = ⊤
From code (run ∷ runs) = (code ≤ run.low) × (run.low ≤ run.high) × From (run.high + 2) runs

pub from_more : (a b : ℕ) (runs : List Range) → a ≤ b → From b runs → From a runs
from_more a b [] le f = tt
from_more a b (run ∷ runs) le f = let first : b ≤ run.low = f.0 in (omega (arith, le, first), f.1, f.2)

from_before : (code : ℕ) (runs : List Range) → From (code + 1) runs → From code (before_runs code runs)
from_before code [] f = (omega arith, omega arith, tt)
from_before code (run ∷ runs) f = by (run.low == code + 1) refl
  where
    by : (b : Bool) → (run.low == code + 1) ≡ b → From code (before_runs code (run ∷ runs))
    by true e =
        let low : run.low ≡ code + 1 = eqb-true run.low (code + 1) e in
        let le : run.low ≤ run.high = f.1 in
        rw (before_runs, e) (omega arith, omega (arith, low, le), f.2)
    by false e =
        let first : code + 1 ≤ run.low = f.0 in
        let ne = eqb-false run.low (code + 1) e in
        rw (before_runs, e) (omega arith, omega arith, (omega (arith, first, ne), f.1, f.2))

-- the set codes of some bits, numbered from one on
abbrev pub set_codes : ℕ → List Bool → List ℕ
set_codes code bits = map (λ p. p.0) (filter (λ p. p.1) (numbered_from code bits))

pub from_runs : (bits : List Bool) (code : ℕ) → From code (runs_of (set_codes code bits))
from_runs [] code = tt
from_runs (true ∷ bits) code = from_before code (runs_of (set_codes (code + 1) bits)) (from_runs bits (code + 1))
from_runs (false ∷ bits) code = from_more code (code + 1) (runs_of (set_codes (code + 1) bits)) (omega arith) (from_runs bits (code + 1))

above_from : (code : ℕ) (runs : List Range) → From (code + 2) runs → are_above code runs ≡ true
above_from code [] f = refl
above_from code (run ∷ runs) f =
    let first : code + 2 ≤ run.low = f.0 in
    and_from (nat_lt (code + 1) run.low && nat_le run.low run.high) (are_above run.high runs)
    (and_from (nat_lt (code + 1) run.low) (nat_le run.low run.high) (lt-ltb (code + 1) run.low (omega (arith, first))) (le-leb run.low run.high f.1))
    (above_from run.high runs f.2)

pub are_runs_from : (code : ℕ) (runs : List Range) → From code runs → 0 < length runs → length runs ≤ MOST_RUNS → are_runs runs ≡ true
are_runs_from code [] f some few = absurd (omega (arith, some))
are_runs_from code (run ∷ runs) f some few =
    and_from (nat_le run.low run.high && are_above run.high runs) (nat_le (length (run ∷ runs)) MOST_RUNS)
    (and_from (nat_le run.low run.high) (are_above run.high runs) (le-leb run.low run.high f.1) (above_from run.high runs f.2))
    (le-leb (length (run ∷ runs)) MOST_RUNS few)

from_above : (code : ℕ) (runs : List Range) → are_above code runs ≡ true → From (code + 2) runs
from_above code [] h = tt
from_above code (run ∷ runs) h =
    let parts = and_parts (nat_lt (code + 1) run.low && nat_le run.low run.high) (are_above run.high runs) h in
    let first = and_parts (nat_lt (code + 1) run.low) (nat_le run.low run.high) parts.0 in
    let lt : code + 1 < run.low = ltb-true (code + 1) run.low first.0 in
    (omega (arith, lt), leb-true run.low run.high first.1, from_above run.high runs parts.1)

pub from_are_runs : (runs : List Range) → are_runs runs ≡ true → From 0 runs
from_are_runs [] h = absurd (true≢false (sym h))
from_are_runs (run ∷ runs) h =
    let parts = and_parts (nat_le run.low run.high) (are_above run.high runs) (and_parts (nat_le run.low run.high && are_above run.high runs) (nat_le (length (run ∷ runs)) MOST_RUNS) h).0 in
    (omega arith, leb-true run.low run.high parts.0, from_above run.high runs parts.1)

-- ---- whether a code is in runs

in_numbers : (code from n : ℕ) → list_any (λ c. c == code) (numbers_from from n) ≡ (nat_le from code && nat_lt code (from + n))
in_numbers code from zero =
    elim (cases_lt code from) [
      | inl lt ↦ sym (rw (lt-leb from code lt) refl)
      | inr le ↦ sym (rw (le-leb from code le, le-ltb code (from + 0) (omega (arith, le))) refl)
    ]
in_numbers code from (suc n) =
    let rest = in_numbers code (from + 1) n in
    elim (cases_eq from code) [
      | inl here ↦ rw (eq-eqb from code here, le-leb from code (omega (arith, here)), lt-ltb code (from + suc n) (omega (arith, here))) refl
      | inr ne ↦ elim (cases_lt code from) [
        | inl under ↦ rw (ne_eqb from code ne, rest, lt-leb from code under, lt-leb (from + 1) code (omega (arith, under))) refl
        | inr le ↦ elim (cases_lt code (from + suc n)) [
          | inl lt ↦ rw (ne_eqb from code ne, rest, le-leb from code le, le-leb (from + 1) code (omega (arith, le, ne)), lt-ltb code (from + suc n) lt, lt-ltb code (from + 1 + n) (omega (arith, lt))) refl
          | inr past ↦ rw (ne_eqb from code ne, rest, le-leb from code le, le-leb (from + 1) code (omega (arith, le, ne)), le-ltb code (from + suc n) past, le-ltb code (from + 1 + n) (omega (arith, past))) refl
        ]
      ]
    ]

-- a code in a run
pub in_run : (code : ℕ) (run : Range) → run.low ≤ run.high → list_any (λ c. c == code) (run_codes run) ≡ (nat_le run.low code && nat_le code run.high)
in_run code run le =
    in_numbers code run.low (run.high - run.low + 1)
    ∙ ap (λ b. nat_le run.low code && b)
    (elim (cases_lt run.high code) [
      | inl past ↦ le-ltb code (run.low + (run.high - run.low + 1)) (omega (arith, past, le)) ∙ sym (lt-leb code run.high past)
      | inr within ↦ lt-ltb code (run.low + (run.high - run.low + 1)) (omega (arith, within, le)) ∙ sym (le-leb code run.high within)
    ])

pub in_runs : (code from : ℕ) (runs : List Range) → From from runs → list_any (λ c. c == code) (runs_codes runs) ≡ lies_in code runs
in_runs code from [] f = refl
in_runs code from (run ∷ runs) f =
    list_any-append (λ c. c == code) (run_codes run) (runs_codes runs)
    ∙ (λ i. in_run code run f.1 i || in_runs code (run.high + 2) runs f.2 i)

pub codes_lie_in_runs : CodesLieInRuns
codes_lie_in_runs code runs are = in_runs code 0 runs (from_are_runs runs are)

-- ---- the set codes from one on, step by step

module _ (bits : List Bool) where
  from_set : (code : ℕ) → code < length bits → get_or bits code false ≡ true → codes_set_from code bits ≡ code ∷ codes_set_from (code + 1) bits
  from_set code lt set = rw (drop_more bits code false lt, set) refl

  from_clear : (code : ℕ) → get_or bits code false ≡ false → codes_set_from code bits ≡ codes_set_from (code + 1) bits
  from_clear code clear =
      elim (cases_lt code (length bits)) [
        | inl lt ↦ rw (drop_more bits code false lt, clear) refl
        | inr past ↦ rw (drop_all code bits past, drop_all (code + 1) bits (omega (arith, past))) refl
      ]

  pub from_past : (code : ℕ) → length bits ≤ code → codes_set_from code bits ≡ []
  from_past code past = rw (drop_all code bits past) refl

  -- codes that aren't there are passed over
  pub from_next : (more code next : ℕ) → code + more ≡ next → ((k : ℕ) → code ≤ k → k < next → get_or bits k false ≡ false) → codes_set_from code bits ≡ codes_set_from next bits
  from_next zero code next e clear = let same : code ≡ next = omega (arith, e) in ap (λ c. codes_set_from c bits) same
  from_next (suc more) code next e clear =
      from_clear code (clear code (omega arith) (omega (arith, e))) ∙ from_next more (code + 1) next (omega (arith, e)) (λ k le lt. clear k (omega (arith, le)) lt)

  runs_behind : (code : ℕ) → From code (runs_of (codes_set_from code bits))
  runs_behind code = from_runs (drop code bits) code

  before_gap : (code : ℕ) (runs : List Range) → From (code + 2) runs → before_runs code runs ≡ record { low = code; high = code } ∷ runs
  before_gap code [] f = refl
  before_gap code (run ∷ runs) f = let first : code + 2 ≤ run.low = f.0 in let ne : (run.low == code + 1) ≡ false = ne_eqb run.low (code + 1) (λ e. omega (arith, first, e)) in rw (before_runs, ne) refl

  -- a run from its first code to where a code is missing
  pub from_run : (more low behind : ℕ) → low + suc more ≡ behind → ((k : ℕ) → low ≤ k → k < behind → get_or bits k false ≡ true) → behind ≤ length bits → get_or bits behind false ≡ false
      → runs_of (codes_set_from low bits) ≡ record { low = low; high = behind - 1 } ∷ runs_of (codes_set_from behind bits)
  from_run zero low behind e set within gap =
      let next : low + 1 ≡ behind = omega (arith, e) in
      let one = from_set low (omega (arith, e, within)) (set low (omega arith) (omega (arith, e))) in
      let skip : codes_set_from (low + 1) bits ≡ codes_set_from (behind + 1) bits = ap (λ c. codes_set_from c bits) next ∙ from_clear behind gap in
      let same : low ≡ behind - 1 = omega (arith, e) in
      let far : From (low + 2) (runs_of (codes_set_from (behind + 1) bits)) = from_more (low + 2) (behind + 1) (runs_of (codes_set_from (behind + 1) bits)) (omega (arith, e)) (runs_behind (behind + 1)) in
      ap runs_of one ∙ ap (λ c. before_runs low (runs_of c)) skip ∙ before_gap low (runs_of (codes_set_from (behind + 1) bits)) far
      ∙ ap (λ c. record { low = low; high = low } ∷ runs_of c) (sym (from_clear behind gap)) ∙ ap (λ h. record { low = low; high = h } ∷ runs_of (codes_set_from behind bits)) same
  from_run (suc more) low behind e set within gap =
      let one = from_set low (omega (arith, e, within)) (set low (omega arith) (omega (arith, e))) in
      let rest = from_run more (low + 1) behind (omega (arith, e)) (λ k le lt. set k (omega (arith, le)) lt) within gap in
      ap runs_of one ∙ ap (before_runs low) rest ∙ joins
    where
      joins : before_runs low (record { low = low + 1; high = behind - 1 } ∷ runs_of (codes_set_from behind bits)) ≡ record { low = low; high = behind - 1 } ∷ runs_of (codes_set_from behind bits)
      joins = rw (before_runs, eq-eqb (low + 1) (low + 1) refl) refl

-- ---- a run by its place

pub run_order : (from : ℕ) (runs : List Range) (i : ℕ) (d : Range) → From from runs → i < length runs → (get_or runs i d).low ≤ (get_or runs i d).high
run_order from [] i d f lt = absurd (omega (arith, lt))
run_order from (run ∷ runs) zero d f lt = f.1
run_order from (run ∷ runs) (suc i) d f lt = run_order (run.high + 2) runs i d f.2 (omega (arith, lt))

numbers_below : (size from n : ℕ) → all_below size (numbers_from from (n + 1)) ≡ true → from + n < size
numbers_below size from zero all = let lt : from < size = ltb-true from size (and_parts (nat_lt from size) true all).0 in omega (arith, lt)
numbers_below size from (suc n) all =
    let next : suc n + 1 ≡ suc (n + 1) = omega arith in
    let parts = and_parts (nat_lt from size) (all_below size (numbers_from (from + 1) (n + 1))) (ap (λ m. all_below size (numbers_from from m)) (sym next) ∙ all) in
    let rest = numbers_below size (from + 1) n parts.1 in
    omega (arith, rest)

pub run_below : (size from : ℕ) (runs : List Range) (i : ℕ) (d : Range) → From from runs → all_below size (runs_codes runs) ≡ true → i < length runs → (get_or runs i d).high < size
run_below size from [] i d f all lt = absurd (omega (arith, lt))
run_below size from (run ∷ runs) zero d f all lt =
    let parts = and_parts (all_below size (run_codes run)) (all_below size (runs_codes runs)) (sym (list_all-append (λ code. nat_lt code size) (run_codes run) (runs_codes runs)) ∙ all) in
    let most = numbers_below size run.low (run.high - run.low) parts.0 in
    let le : run.low ≤ run.high = f.1 in
    omega (arith, most, le)
run_below size from (run ∷ runs) (suc i) d f all lt =
    let parts = and_parts (all_below size (run_codes run)) (all_below size (runs_codes runs)) (sym (list_all-append (λ code. nat_lt code size) (run_codes run) (runs_codes runs)) ∙ all) in
    run_below size (run.high + 2) runs i d f.2 parts.1 (omega (arith, lt))

pub codes_more : (runs : List Range) (i : ℕ) (d : Range) → i < length runs → runs_codes (take (i + 1) runs) ≡ runs_codes (take i runs) ++ run_codes (get_or runs i d)
codes_more runs i d lt = ap runs_codes (take_more runs i d lt) ∙ sym (flat_map_more run_codes [] (take i runs) (get_or runs i d))
