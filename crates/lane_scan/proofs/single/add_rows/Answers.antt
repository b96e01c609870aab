use Rattle.std.proofs.Common.{arith, refl, ◌∙◌}
use Rattle.lane_scan.specs.Scan.{row_lies}
use Rattle.lane_scan.proofs.RowLemmas.{none_added, row_added, row_here}
use Rattle.lane_scan.proofs.single.add_rows.Goals as goal

pub loop-row-init : goal.loop-row-init
loop-row-init c = none_added (row_lies c.args.shape c.args.rounds.now c.args.words.now) c.args.into.now c.args.first c.args.rows 0 refl

pub loop-row-preserved : goal.loop-row-preserved
loop-row-preserved c =
    row_added (row_lies c.args.shape c.args.rounds.now c.args.words.now) c.args.into.now c.loop-row.into c.add.new.self c.args.first c.args.rows c.loop-row.row c.lies_in_one-lies.result c.loop-row.invariant c.loop-row-test.true
    (c.lies_in_one-lies.ensures ∙ row_here c.args.shape c.args.rounds.now c.args.words.now _ c.lanes-lanes.result c.loop-row.row c.lanes-lanes.ensures (omega (arith, c.loop-row-test.true, c.requires.enough)))
    c.add.ensures.here c.add.ensures.others

pub returns-clause-inside : goal.returns-clause-inside
returns-clause-inside c i lt = c.loop-row.invariant.inside i lt (omega (arith, lt, c.loop-row-test.false))

pub returns-clause-others : goal.returns-clause-others
returns-clause-others c = c.loop-row.invariant.others
