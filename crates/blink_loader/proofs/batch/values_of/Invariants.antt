use Rattle.std.proofs.Common.{◌≡◌, ◌+◌, drop, length, vec_capacity, IsTrue}
use Rattle.std.specs.List.{list_all, zip}
use Rattle.csv.specs.Records.{fields_of}
use Rattle.blink_base.specs.RowFits.{is_entry}
use Rattle.blink_loader.specs.Batch.{values_from}
use Rattle.blink_lists.proofs.FirstFaultLemmas.{behind}
use Rattle.blink_loader.proofs.batch.values_of.Given as goal

abbrev pub invariant-loop-place : goal.invariant-loop-place
invariant-loop-place l = record {
  read : values_from l.at 1 (zip l.columns (fields_of l.fields)) ≡ behind l.values.items (values_from l.at (l.place + 1) (drop l.place (zip l.columns (fields_of l.fields))));
  long : length l.values.items ≡ l.place;
  room : vec_capacity l.values ≡ length l.columns;
  entries : IsTrue (list_all (λ p. is_entry p.0.kind p.1) (zip l.columns l.values.items));
}
