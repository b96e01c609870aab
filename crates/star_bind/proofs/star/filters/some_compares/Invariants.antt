use Rattle.std.proofs.Common.{◌≡◌, map, drop}
use Rattle.std.specs.List.{list_any}
use Rattle.star_bind.specs.StarForm.{compares_columns}
use Rattle.star_bind.proofs.star.filters.some_compares.Given as goal

abbrev pub invariant-loop-words : goal.invariant-loop-words
invariant-loop-words l = list_any compares_columns (map (λ x. x.now) (drop l.words-index l.tests)) ≡ list_any compares_columns (map (λ x. x.now) l.tests)
