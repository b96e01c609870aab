use Rattle.std.proofs.Common.{◌≡◌, take}
use Rattle.bank_pack.specs.Banks.{banks_of}
use Rattle.bank_pack.proofs.plan.BankPlan.of.Given as goal

abbrev pub invariant-loop-at : goal.invariant-loop-at
invariant-loop-at l = l.plan ≡ banks_of (take l.at l.widths)
