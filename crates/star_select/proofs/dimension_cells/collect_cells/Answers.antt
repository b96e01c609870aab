use Rattle.std.proofs.Common.{◌+◌, map, length, arith}
use Rattle.std.proofs.lemmas.List.{length-map}
use Rattle.code_join.specs.declared.limits.TheConstants.{MOST_KEYS}
use Rattle.dim_filter.specs.Entries.{key_column}
use Rattle.star_select.specs.WantedRows.{cell_wanted, cells_wanted}
use Rattle.star_select.proofs.CollectedLemmas.{next_absent, next_few, next_put, next_counted, last_put, last_counted}
use Rattle.star_select.proofs.WantedPartLemmas.{cell_part, cells_joined}
use Rattle.star_select.proofs.dimension_cells.collect_cells.Goals as goal

pub collect_cell-requires-clause-absent : goal.collect_cell-requires-clause-absent
collect_cell-requires-clause-absent g c =
    let image = c.args.image.now in
    let count = c.cell_count-cell-end.ensures in
    next_absent _ _ _ _ (cell_part image c.args.conjunctions.now c.loop-cell.cell (omega arith)) (key_column image) c.args.wanted.now c.args.into.now c.loop-cell.into c.loop-cell.invariant.so_far c.first_keys_are_keys.ensures c.requires.absent

pub collect_cell-requires-clause-few : goal.collect_cell-requires-clause-few
collect_cell-requires-clause-few g c =
    let image = c.args.image.now in
    let count = c.cell_count-cell-end.ensures in
    next_few _ _ _ _ (cell_part image c.args.conjunctions.now c.loop-cell.cell (omega arith)) (key_column image) c.args.wanted.now c.args.into.now c.loop-cell.into c.loop-cell.invariant.so_far MOST_KEYS c.requires.few

pub returns-in_err-collect_cell-clause-decodes : goal.returns-in_err-collect_cell-clause-decodes
returns-in_err-collect_cell-clause-decodes g c =
    let image = c.args.image.now in
    let count = c.cell_count-cell-end.ensures in
    (next_counted _ _ _ _ (cell_part image c.args.conjunctions.now c.loop-cell.cell (omega arith)) (1 + length c.args.wanted.now) c.args.decodes.now c.loop-cell.decodes c.collect_cell.new.decodes c.loop-cell.invariant.counted c.collect_cell.ensures.decodes).1

pub loop-cell-preserved : goal.loop-cell-preserved
loop-cell-preserved g c =
    let image = c.args.image.now in
    let count = c.cell_count-cell-end.ensures in
    let at = cell_part image c.args.conjunctions.now c.loop-cell.cell (omega arith) in
    record {
      so_far = next_put _ _ _ _ at (key_column image) c.args.wanted.now c.args.into.now c.loop-cell.into c.loop-cell.invariant.so_far c.collect_cell.new.into c.in_ok-collect_cell.ensures.keys;
      counted = (next_counted _ _ _ _ at (1 + length c.args.wanted.now) c.args.decodes.now c.loop-cell.decodes c.collect_cell.new.decodes c.loop-cell.invariant.counted c.collect_cell.ensures.decodes).0;
    }

pub returns-clause-keys : goal.returns-clause-keys
returns-clause-keys g c =
    let image = c.args.image.now in
    let count = c.cell_count-cell-end.ensures in
    let long = length-map image.cells (cell_wanted image c.args.conjunctions.now) in
    last_put (map (cell_wanted image c.args.conjunctions.now) image.cells) c.loop-cell.cell (cells_wanted image c.args.conjunctions.now) (cells_joined image c.args.conjunctions.now) (omega arith)
    (key_column image) c.args.wanted.now c.args.into.now c.loop-cell.into c.loop-cell.invariant.so_far

pub returns-clause-decodes : goal.returns-clause-decodes
returns-clause-decodes g c =
    let image = c.args.image.now in
    let count = c.cell_count-cell-end.ensures in
    let long = length-map image.cells (cell_wanted image c.args.conjunctions.now) in
    last_counted (map (cell_wanted image c.args.conjunctions.now) image.cells) c.loop-cell.cell (cells_wanted image c.args.conjunctions.now) (cells_joined image c.args.conjunctions.now) (omega arith)
    (1 + length c.args.wanted.now) c.args.decodes.now c.loop-cell.decodes c.loop-cell.invariant.counted
