use Rattle.std.proofs.Common.{arith, ◌*◌, ◌/◌, ◌-◌, ◌+◌, ◌≤◌, ◌<◌, length, drop, take, ◌∙◌, ap, ◌||◌, get_or, false}
use Rattle.masked_compare.specs.Fields.{lane_count}
use Rattle.lane_scan.specs.Scan.{row_lies}
use Rattle.lane_scan.proofs.RowLemmas.{IsAdded, both_added, lies_first, lies_later}
use Rattle.lane_scan.proofs.scans.scan.Goals as goal

whole : (c : goal.After-add_rows) → IsAdded (row_lies c.args.shape c.args.rounds.now c.args.words.now) c.args.into.now c.add_rows.new.into c.args.first c.args.rows c.args.rows
whole c =
    let words = c.args.words.now in
    let rounds = c.args.rounds.now in
    let fours = length words / 4 * 4 in
    both_added (row_lies c.args.shape rounds words) (row_lies c.args.shape rounds (take (length words - fours) (drop fours words))) c.args.into.now c.add_fours.new.into c.add_rows.new.into c.args.first c.min-front.result c.args.rows
    (omega (arith, c.min-front.ensures))
    (λ i lt. c.add_fours.ensures.inside i lt ∙ ap (λ b. get_or c.args.into.now (c.args.first + i) false || b) (lies_first c.args.shape rounds words c.lanes.result c.min-front.result c.args.rows i c.lanes.ensures c.min-front.ensures lt))
    c.add_fours.ensures.others
    c.add_rows.ensures.inside
    c.add_rows.ensures.others
    (λ i lt. lies_later c.args.shape rounds words c.lanes.result c.min-front.result c.args.rows i c.lanes.ensures c.min-front.ensures lt)

pub returns-clause-inside : goal.returns-clause-inside
returns-clause-inside c i lt = (whole c).inside i lt lt

pub returns-clause-others : goal.returns-clause-others
returns-clause-others c = (whole c).others
