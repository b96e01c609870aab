use Rattle.std.proofs.Common.{◌++◌, [], length, take, drop, sym, subst, ◌∙◌}
use Rattle.column_classes.specs.ColumnStats.{AreColumns}
use Rattle.column_classes.proofs.ColumnStatsLemmas.{all_written, columns_seen}
use Rattle.column_classes.proofs.column.numbered.Goals as goal

pub number_rows-requires-2-clause-few : goal.number_rows-requires-2-clause-few
number_rows-requires-2-clause-few c = (
  c.args.held.now,
  c.requires.few,
  columns_seen [] c.args.held.now c.args.columns c.in_ok-all.all.len c.in_ok-all.all.items c.deref_mut.result.now c.number_rows.new.columns
      (drop (length c.number_rows.new.columns) c.in_ok-all.all.items) c.deref_mut-2.result.now c.in_ok-all.ensures c.deref_mut.ensures.value c.deref_mut.ensures.len c.number_rows.auto.columns c.deref_mut-2.ensures.value
      (c.in_ok-number_rows.ensures []),
)

pub returns : goal.returns
returns c =
    let rows = c.args.held.now ++ c.args.batch.now in
    let held = columns_seen [] c.args.held.now c.args.columns c.in_ok-all.all.len c.in_ok-all.all.items c.deref_mut.result.now c.number_rows.new.columns
    (drop (length c.number_rows.new.columns) c.in_ok-all.all.items) c.deref_mut-2.result.now c.in_ok-all.ensures c.deref_mut.ensures.value c.deref_mut.ensures.len c.number_rows.auto.columns c.deref_mut-2.ensures.value
    (c.in_ok-number_rows.ensures []) in
    let columns = c.deref_mut-2.ensures.len ∙ c.in_ok-all.all.ok.0 ∙ c.in_ok-all.ensures.count in
    let behind = take c.in_ok-all.all.len (c.number_rows.new.columns ++ drop (length c.number_rows.new.columns) c.in_ok-all.all.items) in
    let written = all_written c.in_ok-all.all.len c.number_rows-2.new.columns (drop (length c.number_rows-2.new.columns) behind) (c.number_rows-2.auto.columns ∙ c.deref_mut-2.ensures.len) in
    subst (AreColumns rows c.args.columns) (sym written) (subst (λ n. AreColumns rows n c.number_rows-2.new.columns) columns (c.in_ok-number_rows-2.ensures c.args.held.now held))
