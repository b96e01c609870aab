-- A bank takes one more block.
use Rattle.std.proofs.Common.{ℕ, ◌+◌, ◌-◌, ◌*◌, ◌≡◌, ◌≢◌, ◌≤◌, ◌<◌, refl, sym, ◌∙◌, ap, subst, arith, true, false, true≢false, List, [], ◌∷◌, ◌++◌, length, map, take, replicate, length-append, Option, Some, None, IsSome}
use Rattle.std.proofs.lemmas.Nat.{mul-le}
use Rattle.std.proofs.lemmas.List.{map-append, length-map, take-append-le}
use Rattle.masked_compare.specs.Fields.{lane_count}
use Rattle.word_pool.specs.declared.pool.BlockId.{BlockId}
use Rattle.word_pool.specs.Region.{Region, block_at, IsLive}
use Rattle.bank_pack.specs.BankRepr.{IsPacked, IsOther}
use Rattle.bank_pack.specs.BankRows.{ids_of}
use Rattle.bank_pack.specs.BankGrowth.{HasTaken}
use Rattle.bank_pack.specs.declared.bank.Bank.{Bank}
use Rattle.bank_pack.proofs.BlockLemmas.{packed_block, tagged_block, other-push, other-pushed}

pub taken_more : (tag n : ℕ) (before mid after : Region) (old here new : Bank) (id : BlockId) → HasTaken tag before mid old here n
    → new.shape ≡ here.shape → new.rows ≡ here.rows → new.blocks.0 ≡ here.blocks.0 ++ id ∷ [] → new.blocks.1 + 1 ≡ here.blocks.1
    → block_at mid.slots id.0 ≡ None → block_at after.slots id.0 ≡ Some (tag, replicate 128 0) → ((k : ℕ) → k ≢ id.0 → block_at after.slots k ≡ block_at mid.slots k)
    → after.limit ≡ mid.limit → after.spare + 1 ≡ mid.spare
    → HasTaken tag before after old new (n + 1)
taken_more tag n before mid after old here new id taken shape rows list room free slot others limit spare =
    let ids : ids_of new ≡ ids_of here ++ id.0 ∷ [] = ap (map (λ (b : BlockId). b.0)) list ∙ map-append (λ (b : BlockId). b.0) here.blocks.0 (id ∷ []) in
    let long : length new.blocks.0 ≡ length here.blocks.0 + 1 = ap (λ (l : List BlockId). length l) list ∙ length-append here.blocks.0 (id ∷ []) in
    record {
      shape = shape ∙ taken.shape;
      rows = rows ∙ taken.rows;
      long = omega (arith, taken.long);
      front = ap (take (length old.blocks.0)) list ∙ take-append-le (length old.blocks.0) here.blocks.0 (id ∷ []) (omega (arith, taken.long)) ∙ taken.front;
      room = omega (arith, taken.room);
      spare = omega (arith, taken.spare);
      limit = limit ∙ taken.limit;
      tagged = rw ids (tagged_block tag mid.slots after.slots (ids_of here) id.0 (replicate 128 0) free slot others taken.tagged);
      packed = λ kept few bank.
          let counted : length (ids_of here) ≡ length here.blocks.0 = length-map here.blocks.0 (λ (b : BlockId). b.0) in
          let more : lane_count old.shape * (128 * length old.blocks.0) ≤ lane_count old.shape * (128 * length (ids_of here)) =
          mul-le (lane_count old.shape) (128 * length old.blocks.0) (lane_count old.shape) (128 * length (ids_of here)) (omega arith) (omega (arith, taken.long)) in
          rw ids (packed_block old.shape mid.slots after.slots (ids_of here) tag id.0 kept (omega arith) free slot others (taken.packed kept few bank));
      fresh = λ k live other.
          let was = taken.fresh k live other in
          let differs : k ≢ id.0 = λ e.
          let there : IsSome (block_at mid.slots k) = rw (taken.others k was) live in
          let none : IsSome {T = ℕ × List ℕ} None = subst (λ (b : Option (ℕ × List ℕ)). IsSome b) (ap (block_at mid.slots) e ∙ free) there in
          absurd (true≢false (sym none)) in
          rw ids (other-push k (ids_of here) id.0 was differs);
      others = λ k other.
          let both = other-pushed k (ids_of here) id.0 (rw ids at other) in
          others k both.1 ∙ taken.others k both.0;
    }
