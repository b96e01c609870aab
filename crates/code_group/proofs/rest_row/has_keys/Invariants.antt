use Rattle.std.proofs.Common.{◌≡◌, drop}
use Rattle.code_group.specs.Entries.{has_keys}
use Rattle.code_group.proofs.rest_row.has_keys.Given as goal

abbrev pub invariant-loop-tie : goal.invariant-loop-tie
invariant-loop-tie l = has_keys (drop l.tie l.ties) (drop l.tie l.keys) l.row ≡ has_keys l.ties l.keys l.row
