use Rattle.std.proofs.Common.{◌<◌, ◌++◌, ◌∙◌, sym, ap, take, length, arith}
use Rattle.std.specs.List.{flat_map}
use Rattle.blink_histogram.specs.Ranks.{counted}
use Rattle.column_classes.specs.ColumnClasses.{column_values}
use Rattle.cell_layout.specs.CellRepr.{rows_in}
use Rattle.cell_layout.specs.Refusals.{duplicate_of}
use Rattle.cell_layout.proofs.RepeatedKeyLemmas.{key_at, keys_more, held_here, once_here, twice_here, none_all, length-keys}
use Rattle.cell_layout.proofs.duplicate_keys.new_keys.Goals as goal
use Rattle.cell_layout.proofs.duplicate_keys.new_keys.Goals.{then-held-via-then-held, then-held-via-else-held+then-count-gt1}

pub returns-then-held : goal.returns-then-held
returns-then-held g c = λ rest start other.
    let front = column_values (flat_map (rows_in c.args.dicts.now) c.args.cells.now) c.args.key in
    let keys = column_values c.args.batch.now c.args.key in
    let long = length-keys c.args.batch.now c.args.key in
    let lt = c.loop-row-test.true in
    let within : c.loop-row.row < length keys = omega arith in
    let here = key_at c.args.batch.now c.args.key c.loop-row.row c.index-batch-row.result c.as_slice.result.now c.index-as_slice-key.result lt (c.requires.within c.loop-row.row c.index-batch-row.result lt) c.index-batch-row.is c.as_slice.ensures
    c.index-as_slice-key.is in
    let none = c.loop-row.invariant.none rest start in
    let counts = c.in_ok-number.ensures.counted (rest ++ take c.loop-row.row keys) (c.loop-row.invariant.counts rest start) in
    elim c.then-held.branch [
      | then-held-via-then-held w ↦ held_here front rest keys c.loop-row.row c.index-as_slice-key.result within here none (sym c.is_in_cells-held.ensures ∙ w.if-held.true)
      | then-held-via-else-held+then-count-gt1 w ↦ twice_here front rest keys c.loop-row.row c.index-as_slice-key.result within here c.in_ok-number.number w.count.result c.number.new.self counts c.in_ok-number.ensures.there w.count.ensures none
          (sym c.is_in_cells-held.ensures ∙ w.if-held.false) w.if-count-gt1.true
    ]

pub loop-row-preserved : goal.loop-row-preserved
loop-row-preserved g c =
    let front = column_values (flat_map (rows_in c.args.dicts.now) c.args.cells.now) c.args.key in
    let keys = column_values c.args.batch.now c.args.key in
    let long = length-keys c.args.batch.now c.args.key in
    let lt = c.loop-row-test.true in
    let within : c.loop-row.row < length keys = omega arith in
    let here = key_at c.args.batch.now c.args.key c.loop-row.row c.index-batch-row.result c.as_slice.result.now c.index-as_slice-key.result lt (c.requires.within c.loop-row.row c.index-batch-row.result lt) c.index-batch-row.is c.as_slice.ensures
    c.index-as_slice-key.is in
    let more = c.in_ok-number.ensures.more in
    let before = c.loop-row.invariant.number in
    record {
      none = λ rest start.
          once_here front rest keys c.loop-row.row c.index-as_slice-key.result within here c.in_ok-number.number c.count.result c.number.new.self
          (c.in_ok-number.ensures.counted (rest ++ take c.loop-row.row keys) (c.loop-row.invariant.counts rest start)) c.in_ok-number.ensures.there c.count.ensures (c.loop-row.invariant.none rest start) (sym c.if-held.ensures) c.if-count-gt1.false;
      counts = λ rest start.
          c.in_ok-number.ensures.counted (rest ++ take c.loop-row.row keys) (c.loop-row.invariant.counts rest start)
          ∙ ap counted (sym (keys_more rest keys c.loop-row.row c.index-as_slice-key.result within here));
      number = omega arith;
    }

pub returns : goal.returns
returns g c = λ rest start.
    let long = length-keys c.args.batch.now c.args.key in
    let end = c.loop-row-test.false in
    ap duplicate_of (none_all (column_values (flat_map (rows_in c.args.dicts.now) c.args.cells.now) c.args.key ++ rest) (column_values c.args.batch.now c.args.key) c.loop-row.row (omega arith) (c.loop-row.invariant.none rest start))
