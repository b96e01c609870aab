use Rattle.std.proofs.Common.{◌≡◌, ◌++◌, map, drop}
use Rattle.blink_lists.specs.Lists.{joined}
use Rattle.star_sql.specs.declared.ast.Conj.{Conj}
use Rattle.star_bind.specs.Factors.{tests_in}
use Rattle.star_bind.proofs.star.condition_tests.+gathering.Given as goal

abbrev pub invariant-add_conj-loop-primary : goal.invariant-add_conj-loop-primary
invariant-add_conj-loop-primary l = map (λ x. x.now) l.tests.items ++ joined (map tests_in (drop l.primary-index l.primaries)) ≡ map (λ x. x.now) l.fn.tests.items ++ joined (map tests_in l.primaries)

abbrev pub invariant-add_cond-loop-conj : goal.invariant-add_cond-loop-conj
invariant-add_cond-loop-conj l = map (λ x. x.now) l.tests.items ++ joined (map (λ (conj : Conj). joined (map tests_in conj.all)) (drop l.conj-index l.conjunctions)) ≡ map (λ x. x.now) l.fn.tests.items ++ joined (map (λ (conj : Conj). joined (map tests_in conj.all)) l.conjunctions)
