-- The rows that a bank stands for: none at first, then one more.
use Rattle.std.proofs.Common.{ℕ, ◌+◌, ◌-◌, ◌*◌, ◌/◌, ◌≡◌, ◌≤◌, ◌<◌, refl, sym, ◌∙◌, ap, arith, List, [], ◌∷◌, ◌++◌, length, map, length-append, Option}
use Rattle.std.proofs.lemmas.Nat.{mul-le}
use Rattle.std.proofs.lemmas.List.{length-map}
use Rattle.masked_compare.specs.Fields.{lane_count}
use Rattle.masked_compare.specs.Words.{IsRow, lane_of}
use Rattle.word_pool.specs.declared.pool.BlockId.{BlockId}
use Rattle.word_pool.specs.Region.{Region}
use Rattle.bank_pack.specs.Banks.{pages_for}
use Rattle.bank_pack.specs.BankRepr.{blocks_of_page, blocks_of_rows, packed, IsPacked, IsBank}
use Rattle.bank_pack.specs.BankRows.{ids_of, HasPages, StandsFor}
use Rattle.bank_pack.specs.BankGrowth.{HasTaken}
use Rattle.bank_pack.specs.declared.bank.Bank.{Bank}
use Rattle.bank_pack.proofs.PlaceLemmas.{rows_fit}

no_rows : (ws : List ℕ) (slots : List (Option (ℕ × List ℕ))) (ids : List ℕ) → ids ≡ [] → IsBank ws slots ids []
unfolding packed
no_rows ws slots ids none = rw none (record { pages = omega arith; packed = record { apart = refl; whole = tt; coded = tt; words = refl } })

pub stands_empty : (bank : Bank) (slots : List (Option (ℕ × List ℕ))) → bank.blocks.0 ≡ [] → bank.rows ≡ 0 → StandsFor bank slots []
stands_empty bank slots none rows = record { count = sym rows; holds = no_rows bank.shape slots (ids_of bank) (ap (map (λ (id : BlockId). id.0)) none) }

more_pages : (ws : List ℕ) (rows : ℕ) → blocks_of_rows ws rows ≤ blocks_of_rows ws (rows + 1)
more_pages ws rows = mul-le (pages_for rows) (blocks_of_page ws) (pages_for (rows + 1)) (blocks_of_page ws) (omega arith) (omega arith)

pub stands_push : (tag : ℕ) (before mid after : Region) (old here new : Bank) (row : List ℕ) (lane : ℕ) → HasPages old → HasTaken tag before mid old here (blocks_of_rows old.shape (old.rows + 1) - length old.blocks.0)
    → ((rows : List (List ℕ)) (row : List ℕ) → length rows ≡ here.rows → IsPacked here.shape mid.slots (ids_of here) rows → IsRow here.shape row → lane ≡ lane_of here.shape row → IsPacked here.shape after.slots (ids_of here) (rows ++ row ∷ []))
    → new.shape ≡ here.shape → new.blocks ≡ here.blocks → new.rows ≡ here.rows + 1 → IsRow old.shape row → lane ≡ lane_of old.shape row
    → (rows : List (List ℕ)) → StandsFor old before.slots rows → StandsFor new after.slots (rows ++ row ∷ [])
stands_push tag before mid after old here new row lane pages taken put shape blocks count coded lane_is rows stands =
    let more = more_pages old.shape old.rows in
    let long : length (rows ++ row ∷ []) ≡ old.rows + 1 = length-append rows (row ∷ []) ∙ ap (λ n. n + 1) stands.count in
    let numbers : length (ids_of here) ≡ length here.blocks.0 = length-map here.blocks.0 (λ (id : BlockId). id.0) in
    let all : length (ids_of here) ≡ blocks_of_rows old.shape (old.rows + 1) = omega (arith, taken.long, pages) in
    let few : length rows ≤ lane_count old.shape * (128 * length old.blocks.0) = rw stands.count (rows_fit old.shape old.rows (length old.blocks.0) pages) in
    let held = taken.packed rows few stands.holds.packed in
    let there : IsPacked here.shape after.slots (ids_of here) (rows ++ row ∷ []) = put rows row (stands.count ∙ sym taken.rows) (rw taken.shape held) (rw taken.shape coded) (rw taken.shape lane_is) in
    let ids : ids_of new ≡ ids_of here = ap (λ (b : List BlockId × ℕ). map (λ (id : BlockId). id.0) b.0) blocks in
    let same : new.shape ≡ old.shape = shape ∙ taken.shape in
    record {
      count = long ∙ sym (count ∙ ap (λ n. n + 1) taken.rows);
      holds = record {
        pages = rw (ids, same, long) all;
        packed = rw (ids, shape) there;
      };
    }

-- what a bank keeps when its list of blocks gets room
pub stands_kept : (old new : Bank) (slots : List (Option (ℕ × List ℕ))) (rows : List (List ℕ)) → new.shape ≡ old.shape → new.blocks.0 ≡ old.blocks.0 → new.rows ≡ old.rows → StandsFor old slots rows → StandsFor new slots rows
stands_kept old new slots rows shape blocks count stands = record {
  count = stands.count ∙ sym count;
  holds = rw (shape, blocks) stands.holds;
}
