use Rattle.std.proofs.Common.{◌≡◌, ◌+◌, ◌-◌, ◌*◌}
use Rattle.std.specs.Prelude.{codes}
use Rattle.star_lex.specs.Kinds.{is_word}
use Rattle.star_sql.specs.Parsers.{more_at, separated_at}
use Rattle.star_sql.specs.ConditionParsers.{primary_at, conj_at, cond_at}
use Rattle.star_sql.proofs.LoopLemmas.{with_earlier}
use Rattle.star_sql.proofs.conditions.+condition.Given as goal

abbrev pub decreases-condition : goal.decreases-condition
decreases-condition l = 3 * l.depth + 2

abbrev pub decreases-conjunction : goal.decreases-conjunction
decreases-conjunction l = 3 * l.depth + 1

abbrev pub decreases-primary : goal.decreases-primary
decreases-primary l = 3 * l.depth

abbrev pub invariant-condition-loop : goal.invariant-condition-loop
invariant-condition-loop l = with_earlier l.any (more_at (is_word (codes "or")) (conj_at (cond_at l.depth)) (l.most - l.counter) l.rest) ≡ separated_at (is_word (codes "or")) (conj_at (cond_at l.depth)) l.fn.tokens

abbrev pub invariant-conjunction-loop : goal.invariant-conjunction-loop
invariant-conjunction-loop l = with_earlier l.all (more_at (is_word (codes "and")) (primary_at (cond_at l.depth)) (l.most - l.counter) l.rest) ≡ separated_at (is_word (codes "and")) (primary_at (cond_at l.depth)) l.fn.tokens
