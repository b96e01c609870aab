use Rattle.std.proofs.Common.{refl}
use Rattle.bank_pack.proofs.StandLemmas.{stands_empty}
use Rattle.bank_pack.proofs.bank.Bank.new.Goals as goal

pub returns-clause-stands : goal.returns-clause-stands
returns-clause-stands c = λ slots. stands_empty (record { shape = c.args.shape; blocks = c.new.result; rows = 0 }) slots c.new.ensures.list refl
