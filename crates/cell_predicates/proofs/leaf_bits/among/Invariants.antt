use Rattle.std.proofs.Common.{◌≡◌, map, take}
use Rattle.std.specs.List.{list_any}
use Rattle.blink_base.specs.Values.{same_value}
use Rattle.order_codes.specs.Dictionary.{class_at}
use Rattle.cell_predicates.proofs.leaf_bits.among.Given as goal

abbrev pub invariant-loop-value : goal.invariant-loop-value
invariant-loop-value g l = l.bits ≡ map (λ v. list_any (same_value v) (take l.value-index l.values)) (class_at l.dict l.class)
