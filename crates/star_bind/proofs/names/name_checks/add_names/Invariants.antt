use Rattle.std.proofs.Common.{◌≡◌, ◌++◌, map, drop}
use Rattle.star_bind.proofs.names.name_checks.add_names.Given as goal

abbrev pub invariant-loop-name : goal.invariant-loop-name
invariant-loop-name l = map (λ x. x.now) l.names.items ++ drop l.name-index l.more ≡ map (λ x. x.now) l.fn.names.items ++ l.more
