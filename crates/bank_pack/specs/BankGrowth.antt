-- What a bank keeps while it takes blocks of a pool, and while it gives them back. Source: this project's own.
use Rattle.std.specs.Prelude.{ℕ, ◌+◌, ◌*◌, ◌≡◌, ◌≤◌, List, length, take, None}
use Rattle.masked_compare.specs.Fields.{lane_count}
use Rattle.word_pool.specs.Region.{Region, block_at, IsLive}
use Rattle.bank_pack.specs.BankRepr.{block_words, IsPacked, IsAmong, IsOther, AreTagged}
use Rattle.bank_pack.specs.BankRows.{ids_of}
use Rattle.bank_pack.specs.declared.bank.Bank.{Bank}

-- a bank has taken so many blocks of a pool under a tag
pub record HasTaken (tag : ℕ) (before after : Region) (old new : Bank) (blocks : ℕ) : Type 0 where
  pub shape : new.shape ≡ old.shape
  pub rows : new.rows ≡ old.rows
  pub long : length new.blocks.0 ≡ length old.blocks.0 + blocks
  pub front : take (length old.blocks.0) new.blocks.0 ≡ old.blocks.0
  pub room : new.blocks.1 + blocks ≡ old.blocks.1
  pub spare : after.spare + blocks ≡ before.spare
  pub limit : after.limit ≡ before.limit
  pub tagged : AreTagged tag after.slots (ids_of new)
  pub packed : (rows : List (List ℕ)) → length rows ≤ lane_count old.shape * (block_words * length old.blocks.0) → IsPacked old.shape before.slots (ids_of old) rows → IsPacked old.shape after.slots (ids_of new) rows
  pub fresh : (k : ℕ) → IsLive before.slots k → IsOther k (ids_of old) → IsOther k (ids_of new)
  pub others : (k : ℕ) → IsOther k (ids_of new) → block_at after.slots k ≡ block_at before.slots k

-- these blocks were given back to a pool, and no other
pub record HasReleased (before after : Region) (ids : List ℕ) : Type 0 where
  pub free : (k : ℕ) → IsAmong k ids → block_at after.slots k ≡ None
  pub others : (k : ℕ) → IsOther k ids → block_at after.slots k ≡ block_at before.slots k
  pub limit : after.limit ≡ before.limit
  pub spare : after.spare ≡ before.spare + length ids
