use Rattle.std.proofs.Common.{◌≡◌, drop}
use Rattle.std.specs.List.{list_any}
use Rattle.blink_base.specs.Values.{same_value}
use Rattle.blink_base.proofs.tree.is_among.Given as goal

abbrev pub invariant-loop-other : goal.invariant-loop-other
invariant-loop-other l = list_any (same_value l.value) l.values ≡ list_any (same_value l.value) (drop l.other-index l.values)
