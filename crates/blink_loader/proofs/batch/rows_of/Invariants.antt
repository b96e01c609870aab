use Rattle.std.proofs.Common.{◌≡◌, ◌≤◌, ◌+◌, length, IsTrue}
use Rattle.std.specs.List.{list_all}
use Rattle.blink_base.specs.RowFits.{fits}
use Rattle.blink_lists.proofs.FirstFaultLemmas.{behind}
use Rattle.blink_loader.specs.Batch.{rows_from}
use Rattle.blink_loader.proofs.batch.rows_of.Given as goal

abbrev pub invariant-loop-found : goal.invariant-loop-found
invariant-loop-found l = record {
  read : rows_from l.schema.columns 1 l.initial.records ≡ behind l.rows (rows_from l.schema.columns l.at l.records);
  few : l.at + length l.records ≤ length l.initial.records + 1;
  fit : IsTrue (list_all (fits l.schema) l.rows);
}

abbrev pub decreases-loop-found : goal.decreases-loop-found
decreases-loop-found l = length l.records
