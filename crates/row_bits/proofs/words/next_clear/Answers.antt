use Rattle.std.proofs.Common.{arith, refl, ◌*◌, length, true}
use Rattle.row_bits.proofs.BitLemmas.{not_set, not_clear}
use Rattle.row_bits.proofs.WordLemmas.{clear_here, clear_behind, alike_to_bit, one_bit}
use Rattle.row_bits.proofs.words.next_clear.Goals as goal

pub returns-in-Some-clause-place : goal.returns-in-Some-clause-place
returns-in-Some-clause-place c =
    let found = c.in-Some.ensures.place in (
      omega (arith, found, c.saturating_sub.ensures),
      omega (arith, found),
      clear_here c.args.words.now c.loop-at.at c.in-Some.bit _ refl found.1 (not_set _ c.in-Some.bit (c.type_inv.words c.loop-at.at).fits found.1 found.2),
    )

pub returns-in-Some-clause-least : goal.returns-in-Some-clause-least
returns-in-Some-clause-least c =
    let found = c.in-Some.ensures.place in
    alike_to_bit c.args.words.now true c.args.from c.loop-at.at c.saturating_sub.result c.in-Some.bit c.saturating_sub.ensures (omega (arith, found)) c.loop-at.invariant
    (λ b le lt. one_bit _ (not_clear _ b (c.type_inv.words c.loop-at.at).fits (omega (arith, lt, c.in-Some.ensures.place)) (c.in-Some.ensures.least b le lt)))

pub loop-at-preserved : goal.loop-at-preserved
loop-at-preserved c k le lt =
    alike_to_bit c.args.words.now true c.args.from c.loop-at.at c.saturating_sub.result 64 c.saturating_sub.ensures (omega arith) c.loop-at.invariant
    (λ b le lt. one_bit _ (not_clear _ b (c.type_inv.words c.loop-at.at).fits lt (c.in_default.ensures.none b le))) k le (omega (arith, lt))

pub returns-clause-place : goal.returns-clause-place
returns-clause-place c = (c.requires.within, omega arith, clear_behind c.args.words.now (length c.args.words.now * 64) (omega arith))
