use Rattle.std.proofs.Common.{◌+◌, ◌∷◌, [], length, get_or, ap, ◌∙◌}
use Rattle.std.proofs.lemmas.List.{length-append}
use Rattle.cell_layout.proofs.CellWidthLemmas.{widths_more, narrow_more, widths_all}
use Rattle.cell_layout.proofs.cell.widths_of.Goals as goal

pub loop-column-preserved : goal.loop-column-preserved
loop-column-preserved g c = record {
  so_far =
      widths_more c.args.dicts.now c.args.classes.now c.loop-column.column c.index-dicts-column.result c.width.result c.loop-column.widths.items c.push.new.self.items c.requires.count c.loop-column-test.true c.index-dicts-column.is
      c.width.ensures.least c.loop-column.invariant.so_far c.in_ok-push.ensures.items;
  narrow =
      narrow_more c.index-dicts-column.result (get_or c.args.classes.now c.loop-column.column 0) c.width.result c.loop-column.widths.items c.push.new.self.items c.width.ensures.least c.width.ensures.narrow c.loop-column.invariant.narrow
      c.in_ok-push.ensures.items;
  count = ap length c.in_ok-push.ensures.items ∙ length-append c.loop-column.widths.items (c.width.result ∷ []) ∙ ap (λ n. n + 1) c.loop-column.invariant.count;
}

pub returns-clause-widths : goal.returns-clause-widths
returns-clause-widths g c = widths_all c.args.dicts.now c.args.classes.now c.loop-column.column c.loop-column.widths.items c.requires.count c.loop-column-test.false c.loop-column.invariant.so_far
