use Rattle.std.proofs.Common.{append_assoc, refl}
use Rattle.star_lex.proofs.ContentLemmas.{quote_unpaired, byte_unpaired}
use Rattle.star_lex.proofs.contents.unpaired.Goals as goal
use Rattle.star_lex.proofs.contents.unpaired.Goals.{then-byte-eq39, else-byte-eq39}

pub loop-at-preserved : goal.loop-at-preserved
loop-at-preserved c =
    elim c.if-byte-eq39.branch [
      | then-byte-eq39 w ↦ rw (c.in_ok-push.ensures.items, w.at-is, append_assoc, ← quote_unpaired c.args.inside.now c.loop-at.at _ c.loop-at-test.true refl w.if-byte-eq39.true) c.loop-at.invariant
      | else-byte-eq39 w ↦ rw (c.in_ok-push.ensures.items, w.at-is, append_assoc, ← byte_unpaired c.args.inside.now c.loop-at.at _ c.loop-at-test.true refl w.if-byte-eq39.false) c.loop-at.invariant
    ]
