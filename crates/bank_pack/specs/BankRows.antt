-- A bank as a list of code rows. Source: this project's own.
use Rattle.std.specs.Prelude.{ℕ, ◌+◌, ◌-◌, ◌*◌, ◌/◌, ◌≡◌, List, length, map, Option}
use Rattle.blink_lists.specs.declared.limits.TheConstants.{PAGE_ROWS}
use Rattle.word_pool.specs.declared.pool.BlockId.{BlockId}
use Rattle.bank_pack.specs.BankRepr.{IsBank, blocks_of_page, blocks_of_rows}
use Rattle.bank_pack.specs.declared.bank.Bank.{Bank}

-- the numbers of blocks, in their order
abbrev pub numbers_of : List BlockId → List ℕ
numbers_of blocks = map (λ id. id.0) blocks

-- the numbers of a bank's blocks
abbrev pub ids_of : Bank → List ℕ
ids_of bank = numbers_of bank.blocks.0

-- a bank has the blocks of its pages
abbrev pub HasPages : Bank → Type 0
HasPages bank = length bank.blocks.0 ≡ blocks_of_rows bank.shape bank.rows

-- how many further rows a bank takes without memory: those of the whole pages for which its list of blocks has room, less its rows
abbrev pub room_of : Bank → ℕ
room_of bank = PAGE_ROWS * ((length bank.blocks.0 + bank.blocks.1) / blocks_of_page bank.shape) - bank.rows

-- a bank and the blocks of a pool stand for these rows
pub record StandsFor (bank : Bank) (slots : List (Option (ℕ × List ℕ))) (rows : List (List ℕ)) : Type 0 where
  pub count : length rows ≡ bank.rows
  pub holds : IsBank bank.shape slots (ids_of bank) rows
