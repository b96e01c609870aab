use Rattle.std.proofs.Common.{◌≡◌, ◌==◌, ℕ, false, take}
use Rattle.std.specs.List.{list_any}
use Rattle.bank_pack.proofs.planned_bank.PlannedBank.field_of.Given as goal

abbrev pub invariant-loop-field : goal.invariant-loop-field
invariant-loop-field l = list_any (λ (c : ℕ). c == l.column) (take l.field l.columns) ≡ false
