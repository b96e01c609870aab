use Rattle.std.proofs.Common.{◌≡◌, ◌+◌, drop, IsTrue}
use Rattle.std.specs.List.{list_all}
use Rattle.blink_base.specs.RowFits.{fits}
use Rattle.star_engine.specs.InsertedRows.{written_from}
use Rattle.blink_lists.proofs.FirstFaultLemmas.{behind}
use Rattle.star_engine.proofs.inserted_rows.written_rows.Given as goal

abbrev pub invariant-loop-place : goal.invariant-loop-place
invariant-loop-place l = record {
  made : written_from l.schema.columns 1 l.written ≡ behind l.rows.items (written_from l.schema.columns (l.place + 1) (drop l.place l.written));
  fit : IsTrue (list_all (fits l.schema) l.rows.items);
}
