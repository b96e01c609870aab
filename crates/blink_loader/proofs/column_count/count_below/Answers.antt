use Rattle.std.proofs.Common.{◌≡◌, refl, arith, w64}
use Rattle.std.proofs.lemmas.Int.{to_z-of_z}
use Rattle.std.specs.List.{count_by}
use Rattle.blink_loader.specs.RangeCount.{is_counted}
use Rattle.blink_loader.proofs.column_count.count_below.Goals as goal

pub returns-then-not-found : goal.returns-then-not-found
returns-then-not-found c =
    let end = rw c.if-not-found.true at c.in-Ok.ensures in
    let faults = rw end at c.loop-found.invariant.0 in
    let low = to_z-of_z w64 c.args.low c.ranges.low in
    let high = to_z-of_z w64 c.args.high c.ranges.high in
    let all = rw (end, low, high) at c.loop-found.invariant.1 in
    let count : c.loop-found.count ≡ count_by (is_counted c.args.column c.args.low c.args.high) c.args.rows.now = omega (arith, all) in
    λ known. rw (faults, count) refl
