use Rattle.std.proofs.Common.{◌≡◌, drop}
use Rattle.std.specs.List.{list_any}
use Rattle.star_bind.specs.Conjunctions.{passes}
use Rattle.star_select.proofs.row_tests.is_wanted.Given as goal

abbrev pub invariant-loop-conjunction : goal.invariant-loop-conjunction
invariant-loop-conjunction l = list_any (passes l.row) (drop l.conjunction-index l.conjunctions) ≡ list_any (passes l.row) l.conjunctions
