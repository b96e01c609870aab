use Rattle.std.proofs.Common.{take}
use Rattle.bank_pack.specs.BankGrowth.{HasReleased}
use Rattle.bank_pack.specs.BankRows.{numbers_of}
use Rattle.bank_pack.proofs.bank.give_back_all.Given as goal

abbrev pub invariant-loop-id : goal.invariant-loop-id
invariant-loop-id g l = HasReleased l.initial.pool l.pool (take l.id-index (numbers_of l.ids))
