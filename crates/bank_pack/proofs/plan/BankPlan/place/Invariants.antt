use Rattle.std.proofs.Common.{◌≡◌, false, take}
use Rattle.std.specs.List.{list_any}
use Rattle.bank_pack.specs.Banks.{holds_column}
use Rattle.bank_pack.proofs.plan.BankPlan.place.Given as goal

abbrev pub invariant-loop-bank : goal.invariant-loop-bank
invariant-loop-bank l = list_any (holds_column l.column) (take l.bank l.self) ≡ false
