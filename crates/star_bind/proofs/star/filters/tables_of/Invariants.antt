use Rattle.std.proofs.Common.{◌≡◌, [], map, drop}
use Rattle.star_bind.specs.FactorParts.{tables_named}
use Rattle.star_bind.specs.Lookup.{scope_from}
use Rattle.star_bind.proofs.star.filters.tables_of.Given as goal

abbrev pub invariant-loop-words : goal.invariant-loop-words
invariant-loop-words l = tables_named (scope_from l.scope) l.tables (map (λ x. x.now) (drop l.words-index l.tests)) ≡ tables_named (scope_from l.scope) [] (map (λ x. x.now) l.tests)
