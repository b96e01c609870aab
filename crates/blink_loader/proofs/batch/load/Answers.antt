use Rattle.std.proofs.Common.{arith}
use Rattle.blink_loader.proofs.RangeCountLemmas.{few_records}
use Rattle.blink_loader.proofs.batch.load.Goals as goal

pub batch_over-requires-clause-records : goal.batch_over-requires-clause-records
batch_over-requires-clause-records c =
    let few = few_records c.args.bytes.now in
    let most = c.type_inv.bytes in
    rw c.new-records.ensures (omega arith)
