use Rattle.std.proofs.Common.{arith, sym, ◌∙◌}
use Rattle.word_pool.proofs.PoolPartsLemmas.{counted}
use Rattle.word_pool.proofs.pool.Pool.live.Goals as goal

pub returns-clause-number : goal.returns-clause-number
returns-clause-number g c =
    c.live.ensures ∙ sym (counted c.self.inside.limit c.self.inside.blocks c.self.inside.numbers c.args.self.now c.self.view_is c.self.invariant).live

pub returns-clause-within : goal.returns-clause-within
returns-clause-within g c =
    let count = counted c.self.inside.limit c.self.inside.blocks c.self.inside.numbers c.args.self.now c.self.view_is c.self.invariant in
    omega (arith, count.spare, count.bound, c.live.ensures)
