use Rattle.std.proofs.Common.{◌≡◌, ◌<◌, ℕ, [], true, false, slice_index_or, length, sym, ap, ◌∙◌, arith}
use Rattle.std.specs.Ordering.{is_le}
use Rattle.std.proofs.lemmas.List.{get_or_default}
use Rattle.std.proofs.lemmas.List.Sums.{position_or_len_is}
use Rattle.blink_base.specs.Lines.{Line, line_cmp}
use Rattle.late_decode.specs.GroupLines.{keys_of}
use Rattle.late_decode.proofs.FirstLineLemmas.{none-more}
use Rattle.late_decode.proofs.first_lines.place.Goals as goal

pub returns-then-is_not_above : goal.returns-then-is_not_above
returns-then-is_not_above c =
    let test = c.loop-at-test.true in
    let read = c.index-lines-at.is ∙ get_or_default c.args.lines.now c.loop-at.at c.index-lines-at.result [] c.loop-at-test.true in
    let here = ap (λ (l : Line). is_le (line_cmp (keys_of c.args.order.now) c.args.line.now l)) (sym read) ∙ sym c.is_not_above.ensures ∙ c.if-is_not_above.true in
    sym (position_or_len_is (λ (y : Line). is_le (line_cmp (keys_of c.args.order.now) c.args.line.now y)) c.args.lines.now c.loop-at.at [] (omega (arith, test)) c.loop-at.invariant.above (λ lt. here))

pub returns : goal.returns
returns c =
    let test = c.loop-at-test.false in
    sym (position_or_len_is (λ (y : Line). is_le (line_cmp (keys_of c.args.order.now) c.args.line.now y)) c.args.lines.now (length c.args.lines.now) [] (omega arith) (λ k lt. c.loop-at.invariant.above k (omega (arith, test, lt))) (λ lt. absurd (omega (arith, lt))))

pub loop-at-preserved : goal.loop-at-preserved
loop-at-preserved c =
    let read = c.index-lines-at.is ∙ get_or_default c.args.lines.now c.loop-at.at c.index-lines-at.result [] c.loop-at-test.true in
    let here = ap (λ (l : Line). is_le (line_cmp (keys_of c.args.order.now) c.args.line.now l)) (sym read) ∙ sym c.is_not_above.ensures ∙ c.if-is_not_above.false in
    record { above = none-more (λ k. is_le (line_cmp (keys_of c.args.order.now) c.args.line.now (slice_index_or c.args.lines.now k []))) c.loop-at.at c.loop-at.invariant.above here }
