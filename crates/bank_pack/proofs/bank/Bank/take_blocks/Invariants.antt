use Rattle.bank_pack.specs.BankGrowth.{HasTaken}
use Rattle.bank_pack.proofs.bank.Bank.take_blocks.Given as goal

abbrev pub invariant-loop-taken : goal.invariant-loop-taken
invariant-loop-taken g l = HasTaken l.tag l.initial.pool l.pool l.initial.self l.self l.taken
