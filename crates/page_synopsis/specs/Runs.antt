-- Runs of successive codes, and which sets of codes have few of them. Source: this project's own.
use Rattle.std.specs.Prelude.{ℕ, ◌+◌, ◌-◌, ◌≤◌, ◌==◌, ◌≡◌, IsTrue, take, Bool, true, false, ◌&&◌, List, [], ◌∷◌, length, filter, nat_le, nat_lt}
use Rattle.std.specs.List.{list_any, flat_map}
use Rattle.blink_lists.specs.Lists.{numbers_from}
use Rattle.page_synopsis.specs.declared.limits.TheConstants.{MOST_RUNS}
use Rattle.page_synopsis.specs.declared.narrow.Range.{Range}

-- a code in front of runs that lie above it
abbrev pub before_runs : ℕ → List Range → List Range
before_runs code [] = record { low = code; high = code } ∷ []
before_runs code (run ∷ runs) =
    elim (run.low == code + 1) [ true ↦ record { low = code; high = run.high } ∷ runs | false ↦ record { low = code; high = code } ∷ run ∷ runs ]

-- the maximal runs of successive codes of a rising list
abbrev pub runs_of : List ℕ → List Range
runs_of [] = []
runs_of (code ∷ codes) = before_runs code (runs_of codes)

-- whether a set has few runs, and is kept as ranges; any other set is wide
abbrev pub is_narrow : List ℕ → Bool
is_narrow codes = nat_le (length (runs_of codes)) MOST_RUNS

-- whether a code lies in one of the runs
abbrev pub lies_in : ℕ → List Range → Bool
lies_in code runs = list_any (λ run. nat_le run.low code && nat_le code run.high) runs

-- the codes that are in both sets
abbrev pub in_both : List ℕ → List ℕ → List ℕ
in_both xs ys = filter (λ x. list_any (λ y. y == x) ys) xs

-- the codes of a run
abbrev pub run_codes : Range → List ℕ
run_codes run = numbers_from run.low (run.high - run.low + 1)

-- the codes of some runs
abbrev pub runs_codes : List Range → List ℕ
runs_codes runs = flat_map run_codes runs

-- whether runs lie above a code, with a gap between each two
abbrev pub are_above : ℕ → List Range → Bool
are_above code [] = true
are_above code (run ∷ runs) = nat_lt (code + 1) run.low && nat_le run.low run.high && are_above run.high runs

-- whether these are one to eight rising ranges with a gap between each two
abbrev pub are_runs : List Range → Bool
are_runs [] = false
are_runs (run ∷ runs) = nat_le run.low run.high && are_above run.high runs && nat_le (length (run ∷ runs)) MOST_RUNS

-- the first so many of these ranges are runs
pub record AreFewRuns (count : ℕ) (ranges : List Range) : Type 0 where
  pub room : length ranges ≡ MOST_RUNS
  pub few : count ≤ MOST_RUNS
  pub runs : IsTrue (are_runs (take count ranges))
