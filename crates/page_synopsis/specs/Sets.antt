-- Sets of codes, as a bit per code or as few ranges. Source: this project's own.
use Rattle.std.specs.Prelude.{◌≡◌, ◌==◌, ℕ, Bool, true, not, List, [], Option, Some, None, IsTrue}
use Rattle.std.specs.List.{list_any}
use Rattle.page_synopsis.specs.BitSets.{codes_set}
use Rattle.page_synopsis.specs.declared.ranges.Ranges.{Ranges}
use Rattle.page_synopsis.specs.declared.ranges.Ranges.TheVariants.{Narrow, Wide}
use Rattle.page_synopsis.specs.declared.narrow.Range.{Range}
use Rattle.page_synopsis.specs.Runs.{runs_of, runs_codes, is_narrow, are_runs, lies_in}

-- the codes of a set, rising
abbrev pub codes_in : Ranges → List ℕ
codes_in (Narrow runs) = runs_codes runs
codes_in (Wide bits) = codes_set bits

-- whether a set is kept as it should: as ranges where it has few runs, else as bits; it isn't empty
abbrev pub is_fair : Ranges → Bool
is_fair (Narrow runs) = are_runs runs
is_fair (Wide bits) = not (is_narrow (codes_set bits))

-- a set of codes is kept, or none where there is no code
abbrev pub is_set_of : Option Ranges → List ℕ → Type 0
is_set_of None codes = codes ≡ []
is_set_of (Some ranges) codes = (codes_in ranges ≡ codes) × IsTrue (is_fair ranges)

-- the runs of a list of codes have these codes and no others
abbrev pub RunsAreCodes : Type 0
RunsAreCodes = (codes : List ℕ) → runs_codes (runs_of codes) ≡ codes

-- a code is among those of runs exactly where it lies in one of them
abbrev pub CodesLieInRuns : Type 0
CodesLieInRuns = (code : ℕ) (runs : List Range) → are_runs runs ≡ true → list_any (λ c. c == code) (runs_codes runs) ≡ lies_in code runs
