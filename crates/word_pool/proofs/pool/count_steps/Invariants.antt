use Rattle.std.proofs.Common.{◌≡◌, ◌+◌}
use Rattle.word_pool.proofs.pool.count_steps.Given as goal

abbrev pub invariant-loop : goal.invariant-loop
invariant-loop g l = l.steps ≡ l.initial.steps + l.counter
