use Rattle.star_lex.proofs.ClosingQuoteLemmas.{read_none, read_byte, read_pair}
use Rattle.star_lex.proofs.lengths.closed_length.Goals as goal

pub loop-at-init : goal.loop-at-init
loop-at-init c = read_none c.args.bytes.now

pub loop-at-preserved-then-bytes-at-ne39 : goal.loop-at-preserved-then-bytes-at-ne39
loop-at-preserved-then-bytes-at-ne39 c = read_byte c.args.bytes.now c.loop-at.at c.loop-at.invariant c.loop-at-test.true c.if-bytes-at-ne39.true

pub loop-at-preserved : goal.loop-at-preserved
loop-at-preserved c = read_pair c.args.bytes.now c.loop-at.at c.loop-at.invariant c.if-at-bytes.true c.if-bytes-at-ne39.false c.if-bytes-at-eq39.true
