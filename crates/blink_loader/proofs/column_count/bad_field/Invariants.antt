use Rattle.std.proofs.Common.{◌≡◌, ◌+◌, drop}
use Rattle.std.specs.List.{position_from}
use Rattle.csv.specs.Records.{fields_of}
use Rattle.blink_base.specs.ReadValue.{whole_number}
use Rattle.blink_loader.specs.RangeCount.{is_bad, bad_field}
use Rattle.blink_loader.proofs.column_count.bad_field.Given as goal

abbrev pub invariant-loop-at : goal.invariant-loop-at
invariant-loop-at l = bad_field (fields_of l.row) ≡ position_from (λ field. is_bad (whole_number field)) (l.at + 1) (drop l.at (fields_of l.row))
