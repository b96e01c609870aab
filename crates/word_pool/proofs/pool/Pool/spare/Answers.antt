use Rattle.std.proofs.Common.{arith}
use Rattle.word_pool.proofs.NumberingLemmas.{live_le}
use Rattle.word_pool.proofs.pool.Pool.spare.Goals as goal

pub overflow_sub-result : goal.overflow_sub-result
overflow_sub-result g c = omega (arith, live_le c.self.inside.numbers.tags, c.self.invariant.within, c.live.ensures, c.min.ensures, c.len.ensures)
