-- What a test knows of a bank and its pool. Source: this project's own.
use Rattle.std.specs.Prelude.{ℕ, ◌≡◌, List, Option}
use Rattle.bank_pack.specs.BankRepr.{AreTagged}
use Rattle.bank_pack.specs.BankRows.{ids_of, StandsFor}
use Rattle.bank_pack.specs.declared.bank.Bank.{Bank}

-- the tag of the tests' blocks
abbrev pub test_tag : ℕ
test_tag = 7

-- a bank of these widths stands for some rows, in blocks of the tests' tag
pub record IsHeld (widths : List ℕ) (bank : Bank) (slots : List (Option (ℕ × List ℕ))) : Type 0 where
  pub shape : bank.shape ≡ widths
  pub tagged : AreTagged test_tag slots (ids_of bank)
  pub rows : List (List ℕ)
  pub stands : StandsFor bank slots rows
