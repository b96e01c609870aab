use Rattle.std.proofs.Common.{◌≡◌, ◌++◌, map, filter, drop, is_none}
use Rattle.star_meaning.specs.Answer.{called_item}
use Rattle.star_bind.proofs.names.name_checks.column_keys.Given as goal

abbrev pub invariant-loop-key : goal.invariant-loop-key
invariant-loop-key l = map (λ x. x.now) l.keys.items ++ filter (λ c. is_none (called_item l.items c)) (map (λ k. k.column) (drop l.key-index l.order)) ≡ filter (λ c. is_none (called_item l.items c)) (map (λ k. k.column) l.order)
