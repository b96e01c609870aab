-- Bits as sets of codes: a bit per code. Source: this project's own.
use Rattle.std.specs.Prelude.{◌≡◌, ◌<◌, ◌≤◌, ◌+◌, ◌/◌, ◌^◌, ℕ, Bool, false, ◌&&◌, ◌||◌, ◌==◌, List, map, filter, drop, length, nat_le, nat_lt}
use Rattle.std.specs.List.{list_all, list_any}
use Rattle.blink_lists.specs.Lists.{numbered, numbered_from, numbers_from}
use Rattle.row_bits.specs.Bits.{is_set}

-- the codes from one on whose bits are set, rising
abbrev pub codes_set_from : ℕ → List Bool → List ℕ
codes_set_from from bits = map (λ p. p.0) (filter (λ p. p.1) (numbered_from from (drop from bits)))

-- the codes whose bits are set, rising
abbrev pub codes_set : List Bool → List ℕ
codes_set bits = map (λ p. p.0) (filter (λ p. p.1) (numbered bits))

-- the bits of codes, a bit for each code below a size
abbrev pub bits_of_codes : ℕ → List ℕ → List Bool
bits_of_codes size codes = map (λ code. list_any (λ c. c == code) codes) (numbers_from 0 size)

-- bits, with those of some codes set
abbrev pub with_codes : List ℕ → List Bool → List Bool
with_codes codes bits = map (λ p. p.1 || list_any (λ c. c == p.0) codes) (numbered bits)

-- whether all codes are below a size
abbrev pub all_below : ℕ → List ℕ → Bool
all_below size codes = list_all (λ code. nat_lt code size) codes

-- bits, with those of the codes from low up to, but without, high set
abbrev pub with_range : ℕ → ℕ → List Bool → List Bool
with_range low high bits = map (λ p. p.1 || nat_le low p.0 && nat_lt p.0 high) (numbered bits)

-- words that keep a bit for each code below a size: as many as it takes, and no other bit is set
pub record AreCodeWords (size : ℕ) (words : List ℕ) : Type 0 where
  pub long : length words ≡ (size + 63) / 64
  pub few : size < 2 ^ 32
  pub clear : (k : ℕ) → size ≤ k → is_set words k ≡ false
