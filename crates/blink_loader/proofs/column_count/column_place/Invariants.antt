use Rattle.std.proofs.Common.{◌≡◌, drop}
use Rattle.std.specs.List.{position_from}
use Rattle.csv.specs.Records.{fields_of}
use Rattle.blink_loader.specs.Records.{same_name}
use Rattle.blink_loader.proofs.column_count.column_place.Given as goal

abbrev pub invariant-loop-at : goal.invariant-loop-at
invariant-loop-at l = position_from (same_name l.column) 0 (fields_of l.header) ≡ position_from (same_name l.column) l.at (drop l.at (fields_of l.header))
