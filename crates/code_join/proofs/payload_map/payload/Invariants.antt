use Rattle.std.proofs.Common.{◌≡◌, take}
use Rattle.order_codes.specs.Dictionary.{class_at}
use Rattle.code_join.specs.KeyCodes.{places_in}
use Rattle.code_join.proofs.payload_map.payload.Given as goal

abbrev pub invariant-loop-at : goal.invariant-loop-at
invariant-loop-at g l = l.places.items ≡ places_in (take l.at l.keys) (class_at l.dict l.class)
