use Rattle.std.proofs.Common.{◌∙◌, ap, sym, w64}
use Rattle.std.proofs.lemmas.Int.{to_z-of_z}
use Rattle.csv.specs.Records.{fields_of}
use Rattle.blink_loader.specs.RangeCount.{told_range}
use Rattle.blink_loader.proofs.RangeCountLemmas.{range_over_header}
use Rattle.blink_loader.proofs.column_count.range_over.Goals as goal

pub returns : goal.returns
returns c =
    let low = to_z-of_z w64 c.args.low c.ranges.low in
    let high = to_z-of_z w64 c.args.high c.ranges.high in
    let below = range_over_header c.args.rows.now (fields_of c.next.new.row) c.next.new.self c.args.column.now c.args.low c.args.high c.in-Some.at
    (rw c.if-not-found.false at c.in-Ok.ensures) c.in-Some.ensures in
    λ known. rw (c.len-width.ensures, low, high) at (c.count_below.ensures known) ∙ ap told_range (sym below)
