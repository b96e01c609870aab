-- Laws of banks. Source: this project's own.
use Rattle.std.specs.Prelude.{ℕ, ◌≡◌, List, Option, IsTrue}
use Rattle.masked_compare.specs.Fields.{is_shape}
use Rattle.word_pool.specs.Region.{block_at}
use Rattle.bank_pack.specs.BankRepr.{bank_words, IsAmong, AreApart, AreLive, AreClean}
use Rattle.bank_pack.specs.BankRows.{ids_of, HasPages, StandsFor}
use Rattle.bank_pack.specs.declared.bank.Bank.{Bank}

-- where a bank's blocks are the same in two pools, it stands for the same rows
abbrev pub OtherBlocksKeepBanks : Type 0
OtherBlocksKeepBanks = (bank : Bank) (before after : List (Option (ℕ × List ℕ))) (rows : List (List ℕ))
    → ((k : ℕ) → IsAmong k (ids_of bank) → block_at after k ≡ block_at before k)
    → StandsFor bank before rows
    → StandsFor bank after rows

-- a bank that stands for rows has the blocks of its pages; they are live, and no two of them are one
abbrev pub BanksHaveTheirBlocks : Type 0
BanksHaveTheirBlocks = (bank : Bank) (slots : List (Option (ℕ × List ℕ))) (rows : List (List ℕ))
    → StandsFor bank slots rows
    → HasPages bank × AreLive slots (ids_of bank) × AreApart (ids_of bank)

-- in every word of a bank the guard bits, the padding and the lanes behind the last row are zero
abbrev pub BanksAreClean : Type 0
BanksAreClean = (bank : Bank) (slots : List (Option (ℕ × List ℕ))) (rows : List (List ℕ))
    → IsTrue (is_shape bank.shape)
    → StandsFor bank slots rows
    → AreClean bank.shape (bank_words slots (ids_of bank))
