use Rattle.std.proofs.Common.{arith}
use Rattle.blink_loader.proofs.RangeCountLemmas.{few_records, narrow_header}
use Rattle.blink_loader.proofs.column_count.range_count.Goals as goal

pub range_over-requires : goal.range_over-requires
range_over-requires c =
    let few = few_records c.args.bytes.now in
    let narrow = narrow_header c.args.bytes.now in
    rw c.new-rows.ensures (record { width = omega arith; rows = omega arith })
