use Rattle.std.proofs.Common.{arith, refl, ◌*◌, false}
use Rattle.row_bits.proofs.WordLemmas.{set_here, alike_to_bit, zero_bit, none_to_end}
use Rattle.row_bits.proofs.words.next_set.Goals as goal

pub returns-in-Some-clause-place : goal.returns-in-Some-clause-place
returns-in-Some-clause-place c =
    let found = c.in-Some.ensures.place in
    (omega (arith, found, c.saturating_sub.ensures), omega (arith, found), set_here c.args.words.now c.loop-at.at c.in-Some.bit _ refl found.1 found.2)

pub returns-in-Some-clause-least : goal.returns-in-Some-clause-least
returns-in-Some-clause-least c =
    let found = c.in-Some.ensures.place in
    alike_to_bit c.args.words.now false c.args.from c.loop-at.at c.saturating_sub.result c.in-Some.bit c.saturating_sub.ensures (omega (arith, found)) c.loop-at.invariant (λ b le lt. zero_bit _ (c.in-Some.ensures.least b le lt))

pub loop-at-preserved : goal.loop-at-preserved
loop-at-preserved c k le lt =
    alike_to_bit c.args.words.now false c.args.from c.loop-at.at c.saturating_sub.result 64 c.saturating_sub.ensures (omega arith) c.loop-at.invariant (λ b le lt. zero_bit _ (c.in_default.ensures.none b le)) k le (omega (arith, lt))

pub returns-clause-none : goal.returns-clause-none
returns-clause-none c = none_to_end c.args.words.now c.args.from (c.loop-at.at * 64) (omega arith) c.loop-at.invariant
