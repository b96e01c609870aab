-- No narrower width holds the codes: the next may be the least.
use Rattle.std.proofs.Common.{◌≡◌, ◌<◌, ◌+◌, ◌^◌, arith, sym, ◌∙◌}
use Rattle.blink_lists.proofs.WidthLemmas.{width_from_first, width_from_here, width_from_next, width_from_last}
use Rattle.blink_lists.proofs.widths.width_for.Goals as goal

pub loop-width-init : goal.loop-width-init
loop-width-init c = record { least = width_from_first c.args.size; above = λ w low next. absurd (omega (arith, low, next)) }

pub loop-width-preserved : goal.loop-width-preserved
loop-width-preserved c =
    let more : 2 ^ c.loop-width.width < c.args.size = omega arith in
    record {
      least = sym (width_from_next c.loop-width.width c.args.size (omega arith) more) ∙ c.loop-width.invariant.least;
      above = λ w low next. let same : w ≡ c.loop-width.width = omega (arith, next) in rw same more;
    }

pub returns-then-size-full_size-clause-least : goal.returns-then-size-full_size-clause-least
returns-then-size-full_size-clause-least c = sym (width_from_here c.loop-width.width c.args.size (omega arith) (omega arith)) ∙ c.loop-width.invariant.least

pub returns-clause-least : goal.returns-clause-least
returns-clause-least c =
    let e : c.loop-width.width ≡ 24 = omega arith in
    sym (width_from_last c.args.size) ∙ rw e at c.loop-width.invariant.least

pub returns-clause-narrow : goal.returns-clause-narrow
returns-clause-narrow c = λ fits.
    let e : 23 + 1 ≡ c.loop-width.width = omega arith in
    let more = c.loop-width.invariant.above 23 (omega arith) e in
    absurd (omega (arith, fits, more))
