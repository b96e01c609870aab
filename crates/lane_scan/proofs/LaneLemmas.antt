-- The widths that a lane has, and what follows for parts of words.
use Rattle.std.proofs.Common.{ℕ, List, ◌+◌, ◌-◌, ◌*◌, ◌/◌, ◌%◌, ◌≡◌, ◌≤◌, ◌<◌, ◌⊎◌, inl, inr, refl, arith, min}
use Rattle.std.proofs.lemmas.Bool.Decides.{leb_tells}
use Rattle.masked_compare.specs.Fields.{fields_bits, lane_bits, lane_count}

-- the bits of a lane, and how many a word has
abbrev pub IsLane : ℕ → ℕ → Type 0
IsLane t n = ((t ≡ 8) × (n ≡ 8)) ⊎ (((t ≡ 16) × (n ≡ 4)) ⊎ ((t ≡ 32) × (n ≡ 2)))

pub is_lane : (ws : List ℕ) → IsLane (lane_bits ws) (lane_count ws)
is_lane ws = elim (leb_tells (fields_bits ws) 8) [
  | inl p ↦ inl (rw (p.0) refl, rw (p.0) refl)
  | inr p ↦ elim (leb_tells (fields_bits ws) 16) [
    | inl q ↦ inr (inl (rw (p.0, q.0) refl, rw (p.0, q.0) refl))
    | inr q ↦ inr (inr (rw (p.0, q.0) refl, rw (p.0, q.0) refl))
  ]
]

by_lane : (P : ℕ → ℕ → Type 0) → P 8 8 → P 16 4 → P 32 2 → (t n : ℕ) → IsLane t n → P t n
by_lane P a b c t n (inl e) = rw (e.0, e.1) a
by_lane P a b c t n (inr (inl e)) = rw (e.0, e.1) b
by_lane P a b c t n (inr (inr e)) = rw (e.0, e.1) c

pub record IsLaneFact (t n : ℕ) : Type 0 where
  pub some : 0 < t
  pub few : t ≤ 32
  pub lanes : 0 < n
  pub most : n ≤ 8
  pub whole : t * n ≡ 64
  pub count : 64 / t ≡ n

pub lane_fact : (t n : ℕ) → IsLane t n → IsLaneFact t n
lane_fact = by_lane IsLaneFact
    (record { some = omega arith; few = omega arith; lanes = omega arith; most = omega arith; whole = refl; count = refl })
    (record { some = omega arith; few = omega arith; lanes = omega arith; most = omega arith; whole = refl; count = refl })
    (record { some = omega arith; few = omega arith; lanes = omega arith; most = omega arith; whole = refl; count = refl })

-- ---- the words of the 64 rows from `at * 64` on

abbrev pub part_end : ℕ → ℕ → ℕ → ℕ
part_end t at len = min (at * t + t) len

pub record IsPart (t n at len rows : ℕ) : Type 0 where
  pub within : at * t < len
  pub behind : at * t < part_end t at len
  pub fours : (part_end t at len - at * t) % 4 ≡ 0
  pub few : part_end t at len - at * t ≤ t
  pub enough : min (rows - at * 64) 64 ≤ (part_end t at len - at * t) * n

abbrev Parts : ℕ → ℕ → Type 0
Parts t n = (at len rows : ℕ) → len % 4 ≡ 0 → rows ≤ len * n → at * 64 < rows → IsPart t n at len rows

pub part_fact : (t n : ℕ) → IsLane t n → (at len rows : ℕ) → len % 4 ≡ 0 → rows ≤ len * n → at * 64 < rows → IsPart t n at len rows
part_fact = by_lane Parts
    (λ at len rows fours enough some. record { within = omega arith; behind = omega arith; fours = omega arith; few = omega arith; enough = omega arith })
    (λ at len rows fours enough some. record { within = omega arith; behind = omega arith; fours = omega arith; few = omega arith; enough = omega arith })
    (λ at len rows fours enough some. record { within = omega arith; behind = omega arith; fours = omega arith; few = omega arith; enough = omega arith })

abbrev Places : ℕ → ℕ → Type 0
Places t n = (at i : ℕ) → at * 64 + i ≡ at * t * n + i

-- the rows before a part
pub part_rows : (t n : ℕ) → IsLane t n → (at i : ℕ) → at * 64 + i ≡ at * t * n + i
part_rows = by_lane Places (λ at i. omega arith) (λ at i. omega arith) (λ at i. omega arith)

abbrev Fours : ℕ → ℕ → Type 0
Fours t n = (at len : ℕ) → len ≤ t → at * 4 + 4 ≤ len → at * 4 * n + 4 * n ≤ 64

-- the lanes before four words and in them are those of a word of truth values at most
pub fours_room : (t n : ℕ) → IsLane t n → (at len : ℕ) → len ≤ t → at * 4 + 4 ≤ len → at * 4 * n + 4 * n ≤ 64
fours_room = by_lane Fours (λ at len few le. omega arith) (λ at len few le. omega arith) (λ at len few le. omega arith)

abbrev Rooms : ℕ → ℕ → Type 0
Rooms t n = (len : ℕ) → len ≤ t → len * n ≤ 64

-- as many words as a lane has bits have 64 lanes
pub words_room : (t n : ℕ) → IsLane t n → (len : ℕ) → len ≤ t → len * n ≤ 64
words_room = by_lane Rooms (λ len few. omega arith) (λ len few. omega arith) (λ len few. omega arith)

abbrev Tops : ℕ → ℕ → Type 0
Tops t n = (lane : ℕ) → lane < n → t * lane + (t - 1) < 64

-- the top bit of a lane is one of the word
pub top_within : (t n : ℕ) → IsLane t n → (lane : ℕ) → lane < n → t * lane + (t - 1) < 64
top_within = by_lane Tops (λ lane lt. omega arith) (λ lane lt. omega arith) (λ lane lt. omega arith)

-- the word and the lane of a row
pub record IsPlace (n len row : ℕ) : Type 0 where
  pub is : row ≡ row / n * n + row % n
  pub lane : row % n < n
  pub word : row / n < len

abbrev RowPlaces : ℕ → ℕ → Type 0
RowPlaces t n = (len row : ℕ) → row < len * n → IsPlace n len row

pub lane_place : (t n : ℕ) → IsLane t n → (len row : ℕ) → row < len * n → IsPlace n len row
lane_place = by_lane RowPlaces
    (λ len row lt. record { is = omega arith; lane = omega arith; word = omega arith })
    (λ len row lt. record { is = omega arith; lane = omega arith; word = omega arith })
    (λ len row lt. record { is = omega arith; lane = omega arith; word = omega arith })
