use Rattle.std.proofs.Common.{arith, refl, ◌∙◌, ◌*◌}
use Rattle.lane_scan.specs.Scan.{row_lies}
use Rattle.lane_scan.proofs.RowLemmas.{none_added, part_added, part_lies}
use Rattle.lane_scan.proofs.parts.add_fours.Goals as goal

pub loop-at-init : goal.loop-at-init
loop-at-init c = none_added (row_lies c.args.shape c.args.rounds.now c.args.words.now) c.args.into.now c.args.first c.args.rows 0 refl

pub loop-at-preserved : goal.loop-at-preserved
loop-at-preserved c =
    part_added (row_lies c.args.shape c.args.rounds.now c.args.words.now) c.args.into.now c.loop-at.into c.add_word.new.self c.args.first c.args.rows c.loop-at.at c.inside_in-truths.result
    c.requires.whole (omega (arith, c.loop-at-test.true)) c.loop-at.invariant
    (λ i lt.
    c.inside_in-truths.ensures.inside i (omega (arith, lt, c.min.ensures))
    ∙ part_lies c.args.shape c.args.rounds.now c.args.words.now c.bits-part.result c.min-to.result c.loop-at.at c.args.rows i c.bits-part.ensures.value c.min-to.ensures c.requires.fours c.requires.enough (omega (arith, c.loop-at-test.true)) lt)
    (λ i le. c.inside_in-truths.ensures.none i (omega (arith, le, c.min.ensures)))
    c.add_word.ensures.here c.add_word.ensures.others

pub returns-clause-inside : goal.returns-clause-inside
returns-clause-inside c i lt = c.loop-at.invariant.inside i lt (omega (arith, lt, c.loop-at-test.false))

pub returns-clause-others : goal.returns-clause-others
returns-clause-others c = c.loop-at.invariant.others
