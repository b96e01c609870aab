use Rattle.std.proofs.Common.{◌≡◌, replicate, None}
use Rattle.code_join.proofs.payload_map.no_places.Given as goal

abbrev pub invariant-loop-code : goal.invariant-loop-code
invariant-loop-code l = l.places.items ≡ replicate l._code None
