use Rattle.std.proofs.Common.{◌++◌, take, arith}
use Rattle.std.proofs.lemmas.List.{length-append, length-take}
use Rattle.std.proofs.KnownBytes.{Consumes-trans}
use Rattle.blink_edge.proofs.whole.read_all.Goals as goal

pub returns-then-is_err-clause-part : goal.returns-then-is_err-clause-part
returns-then-is_err-clause-part g c =
    let before = c.loop-piece.into.items in
    let moved = take c.in-Ok.count c.take.new.into in
    let long = length-append before moved in
    let bound = c.in-Ok.ensures.bound in
    let asked = length-take c.min-room.result c.loop-piece.piece in (
      before ++ moved,
      Consumes-trans _ _ _ before moved c.loop-piece.invariant.0.bytes_taken c.in-Ok.ensures.bytes.0,
      omega arith,
      λ is. cc is,
    )
