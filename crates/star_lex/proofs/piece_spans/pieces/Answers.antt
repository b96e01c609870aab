use Rattle.std.proofs.Common.{◌∙◌, ap, length, refl, arith}
use Rattle.std.proofs.lemmas.List.{length-drop}
use Rattle.star_lex.proofs.PieceLemmas.{cut_end, cut_on, cut_all}
use Rattle.star_lex.proofs.piece_spans.pieces.Goals as goal

pub loop-at-init : goal.loop-at-init
loop-at-init c = rw c.new-places.ensures ((length c.args.text.now, omega arith, refl), omega arith)

pub loop-at-preserved-then-text-at-eq59 : goal.loop-at-preserved-then-text-at-eq59
loop-at-preserved-then-text-at-eq59 c =
    let more = cut_end c.args.text.now c.loop-at.places c.loop-at.start c.loop-at.at c.loop-at.invariant.0 c.loop-at-test.true c.if-text-at-eq59.true in
    rw c.in_ok-push.ensures.ok (more, omega arith)

pub loop-at-preserved : goal.loop-at-preserved
loop-at-preserved c =
    let more = cut_on c.args.text.now c.loop-at.places c.loop-at.start c.loop-at.at c.loop-at.invariant.0 c.loop-at-test.true c.if-text-at-eq59.false in
    let part = rw c.behind.ensures at c.part_length.ensures.value in
    let left = ap length c.behind.ensures ∙ length-drop c.loop-at.at c.args.text.now in
    let within = c.part_length.ensures.within in
    (rw part more, omega arith)

pub returns : goal.returns
returns c = rw c.in_ok-push-2.ensures.ok (cut_all c.args.text.now c.loop-at.places c.loop-at.start c.loop-at.at c.loop-at.invariant.0 c.loop-at-test.false)
