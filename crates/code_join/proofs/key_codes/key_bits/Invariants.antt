use Rattle.std.proofs.Common.{◌≡◌, map, take}
use Rattle.order_codes.specs.Dictionary.{class_at}
use Rattle.code_join.specs.Keys.{is_key}
use Rattle.code_join.proofs.key_codes.key_bits.Given as goal

abbrev pub invariant-loop-at : goal.invariant-loop-at
invariant-loop-at g l = l.bits ≡ map (is_key (take l.at l.keys)) (class_at l.dict l.class)
