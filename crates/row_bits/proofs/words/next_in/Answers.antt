use Rattle.row_bits.proofs.BitLemmas.{next_there, next_nowhere}
use Rattle.row_bits.proofs.words.next_in.Goals as goal

pub returns-then-above-eq0-clause-none : goal.returns-then-above-eq0-clause-none
returns-then-above-eq0-clause-none c = next_nowhere c.args.word c.args.low c.requires c.ranges.word.fits c.if-above-eq0.true

pub returns-else-above-eq0-clause-place : goal.returns-else-above-eq0-clause-place
returns-else-above-eq0-clause-place c = let next = next_there c.args.word c.args.low c.requires c.ranges.word.fits c.if-above-eq0.false in (next.from, next.within, next.there)

pub returns-else-above-eq0-clause-least : goal.returns-else-above-eq0-clause-least
returns-else-above-eq0-clause-least c = (next_there c.args.word c.args.low c.requires c.ranges.word.fits c.if-above-eq0.false).least
