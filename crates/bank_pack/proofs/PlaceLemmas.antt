-- Where a row lies: its lane, its word, and its block.
use Rattle.std.proofs.Common.{ℕ, ◌+◌, ◌-◌, ◌*◌, ◌/◌, ◌%◌, ◌^◌, ◌≡◌, ◌≢◌, ◌≤◌, ◌<◌, refl, sym, ◌∙◌, ap, subst, arith, zero, suc, Bool, true, false, min, IsTrue, List, [], ◌∷◌, ◌++◌, length, map, get_or, Option, Some, ◌⊎◌, inl, inr, nat_le}
use Rattle.std.proofs.Math.Nat.{mul-zero, mul_comm}
use Rattle.std.proofs.lemmas.Nat.{div_below, mod_below, shl_whole, mul-le}
use Rattle.std.proofs.lemmas.List.{get_or-map, length-map}
use Rattle.std.proofs.lemmas.Bool.{cases_eq, cases_Bool}
use Rattle.masked_compare.specs.Fields.{is_shape, fields_bits, lane_bits, lane_count}
use Rattle.masked_compare.specs.Words.{lane_of, IsRow}
use Rattle.word_pool.specs.declared.pool.BlockId.{BlockId}
use Rattle.word_pool.specs.Region.{block_at, words_of, tag_at, or_at, IsLive}
use Rattle.bank_pack.specs.BankRepr.{blocks_of_page, blocks_of_rows, IsPacked, AreTagged}
use Rattle.bank_pack.specs.Banks.{pages_for}
use Rattle.bank_pack.proofs.BlockLemmas.{packed_row}

-- a lane has 8, 16 or 32 bits
pub each_lane : (P : ℕ → Type 0) (ws : List ℕ) → P 8 → P 16 → P 32 → P (lane_bits ws)
each_lane P ws a b c = elim (cases_Bool (nat_le (fields_bits ws) 8)) [
  | inl p ↦ rw p a
  | inr p ↦ elim (cases_Bool (nat_le (fields_bits ws) 16)) [
    | inl q ↦ rw (p, q) b
    | inr q ↦ rw (p, q) c
  ]
]

pub some_lanes : (ws : List ℕ) → 0 < lane_count ws
some_lanes ws = each_lane (λ t. 0 < 64 / t) ws (omega arith) (omega arith) (omega arith)

pub some_blocks : (ws : List ℕ) → 0 < blocks_of_page ws
some_blocks ws = each_lane (λ t. 0 < t / 8) ws (omega arith) (omega arith) (omega arith)

-- so many pages have the lanes of 1,024 rows each
pub page_lanes : (ws : List ℕ) (pages : ℕ) → lane_count ws * (128 * (pages * blocks_of_page ws)) ≡ 1024 * pages
page_lanes ws pages = each_lane (λ t. (64 / t) * (128 * (pages * (t / 8))) ≡ 1024 * pages) ws (omega arith) (omega arith) (omega arith)

-- the number of a block in its place
pub id-at : (blocks slice : List BlockId) (i j : ℕ) → slice ≡ blocks → i ≡ j → j < length blocks → (get_or slice i (record { 0 = 0 })).0 ≡ get_or (map (λ (id : BlockId). id.0) blocks) j 0
id-at blocks slice i j same place within =
    rw (same, place) (sym (get_or-map (λ (id : BlockId). id.0) blocks j (record { 0 = 0 }) 0 within))

-- the block of a row
pub block_within : (n rows blocks : ℕ) → 0 < n → rows < n * (128 * blocks) → rows / n / 128 < blocks
block_within n rows blocks some within =
    let turned : rows < 128 * blocks * n = omega (arith, mul_comm n (128 * blocks)) in
    let words : rows / n < 128 * blocks = div_below rows n (128 * blocks) some turned in
    omega arith

-- a lane's bits lie in its word
lane_end : (t n r : ℕ) → t * n ≡ 64 → 0 < n → t + t * (r % n) ≤ 64
lane_end t n r whole some =
    let low : r % n < n = mod_below r n some in
    let all : t * (r % n + 1) ≤ t * n = mul-le t (r % n + 1) t n (omega arith) (omega arith) in
    omega (arith, whole)

-- the bits of one lane added to a block
pub lane_put : (ws : List ℕ) (old new : List (Option (ℕ × List ℕ))) (ids : List ℕ) (tag rows lanes bits lane id : ℕ) → lanes ≡ lane_count ws → bits ≡ lane_bits ws → lane_bits ws * lane_count ws ≡ 64 → IsTrue (is_shape ws) → rows < lane_count ws * (128 * length ids) → lane < 2 ^ lane_bits ws
    → id ≡ get_or ids (rows / lane_count ws / 128) 0
    → block_at new id ≡ Some (tag, or_at (words_of (block_at old id)) (rows / lanes % 128) (lane * 2 ^ (bits * (rows % lanes)) % 2 ^ 64))
    → ((k : ℕ) → k ≢ id → block_at new k ≡ block_at old k)
    → (kept : List (List ℕ)) (row : List ℕ) → length kept ≡ rows → IsPacked ws old ids kept → IsRow ws row → lane ≡ lane_of ws row → IsPacked ws new ids (kept ++ row ∷ [])
lane_put ws old new ids tag rows lanes bits lane id lanes_is bits_is whole shape within small id_is slot others kept row long bank coded lane_is =
    let some = some_lanes ws in
    let n : ℕ = lane_count ws in
    let q : ℕ = rows / n / 128 in
    let shifted : lane * 2 ^ (lane_bits ws * (rows % n)) % 2 ^ 64 ≡ lane_of ws row * 2 ^ (lane_bits ws * (rows % n)) =
    shl_whole lane (lane_bits ws) (lane_bits ws * (rows % n)) 64 small (lane_end (lane_bits ws) n rows whole some) ∙ ap (λ l. l * 2 ^ (lane_bits ws * (rows % n))) lane_is in
    let inside : q < length ids = block_within n rows (length ids) some within in
    let here : block_at new (get_or ids q 0) ≡ Some (tag, or_at (words_of (block_at old (get_or ids q 0))) (rows / n % 128) (lane * 2 ^ (lane_bits ws * (rows % n)) % 2 ^ 64)) = rw (lanes_is, bits_is, id_is) at slot in
    packed_row ws old new ids tag kept row (rows / n) q (rows / n % 128) (rows % n) some shape bank coded (omega (arith, long)) (mod_below rows n some) (omega arith) (omega arith) inside
    (rw shifted at here) (rw id_is at others)

-- a block that keeps its tag
pub tagged_changed : (tag : ℕ) (old new : List (Option (ℕ × List ℕ))) (ids : List ℕ) (x : ℕ) (words : List ℕ) → block_at new x ≡ Some (tag, words) → ((k : ℕ) → k ≢ x → block_at new k ≡ block_at old k) → AreTagged tag old ids → AreTagged tag new ids
tagged_changed tag old new [] x words here others tagged = tt
tagged_changed tag old new (i ∷ is) x words here others tagged = elim (cases_eq i x) [
  | inl e ↦ (rw (e, here) refl, rw (e, here) refl, tagged_changed tag old new is x words here others tagged.2)
  | inr ne ↦ let same : block_at new i ≡ block_at old i = others i ne in (rw same (tagged.0), rw same (tagged.1), tagged_changed tag old new is x words here others tagged.2)
]

-- a row's block is one of the bank's
pub record IsPlace (blocks : List BlockId) (id q : ℕ) : Type 0 where
  pub within : q < length (map (λ (id : BlockId). id.0) blocks)
  pub is : id ≡ get_or (map (λ (id : BlockId). id.0) blocks) q 0

pub placed-at : (blocks slice : List BlockId) (i j : ℕ) → slice ≡ blocks → i ≡ j → j < length blocks → IsPlace blocks (get_or slice i (record { 0 = 0 })).0 j
placed-at blocks slice i j same place within = record {
  within = rw (length-map blocks (λ (id : BlockId). id.0)) within;
  is = id-at blocks slice i j same place within;
}

pub placed : (blocks slice : List BlockId) (rows lanes n : ℕ) → slice ≡ blocks → lanes ≡ n → 0 < n → rows < n * (128 * length blocks) → IsPlace blocks (get_or slice (rows / lanes / 128) (record { 0 = 0 })).0 (rows / n / 128)
placed blocks slice rows lanes n same lanes_is some within =
    placed-at blocks slice (rows / lanes / 128) (rows / n / 128) same (ap (λ m. rows / m / 128) lanes_is) (block_within n rows (length blocks) some within)

-- rows have room in the blocks of their pages
pub rows_fit : (ws : List ℕ) (rows blocks : ℕ) → blocks ≡ blocks_of_rows ws rows → rows ≤ lane_count ws * (128 * blocks)
rows_fit ws rows blocks pages = rw (pages, page_lanes ws (pages_for rows)) (omega arith)

-- a block of a page that has rows
pub page_block : (ws : List ℕ) (rows page block : ℕ) → block < blocks_of_page ws → 1024 * page < rows → page * blocks_of_page ws + block < blocks_of_rows ws rows
page_block ws rows page block low begun =
    let b : ℕ = blocks_of_page ws in
    let more : (page + 1) * b ≤ pages_for rows * b = mul-le (page + 1) b (pages_for rows) b (omega arith) (omega arith) in
    omega arith
