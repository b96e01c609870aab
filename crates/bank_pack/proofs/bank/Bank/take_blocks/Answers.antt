use Rattle.std.proofs.Common.{refl}
use Rattle.bank_pack.proofs.GrowthLemmas.{taken_more}
use Rattle.bank_pack.proofs.bank.Bank.take_blocks.Goals as goal

pub loop-taken-preserved : goal.loop-taken-preserved
loop-taken-preserved g c =
    taken_more c.args.tag c.loop-taken.taken c.args.pool.now c.loop-taken.pool c.take-id.new.self c.args.self.now c.loop-taken.self
    (record { shape = c.loop-taken.self.shape; blocks = c.put.new.self; rows = c.loop-taken.self.rows }) c.take-id.result
    c.loop-taken.invariant refl refl c.put.ensures.list c.put.ensures.spare c.take-id.ensures.fresh c.take-id.ensures.slot c.take-id.ensures.others c.take-id.ensures.limit c.take-id.ensures.spare
