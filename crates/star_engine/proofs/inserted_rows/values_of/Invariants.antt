use Rattle.std.proofs.Common.{◌≡◌, ◌+◌, length, drop, IsTrue}
use Rattle.std.specs.List.{list_all, zip}
use Rattle.blink_base.specs.RowFits.{is_entry}
use Rattle.star_engine.specs.InsertedRows.{written_values}
use Rattle.blink_lists.proofs.FirstFaultLemmas.{behind}
use Rattle.star_engine.proofs.inserted_rows.values_of.Given as goal

abbrev pub invariant-loop-place : goal.invariant-loop-place
invariant-loop-place l = record {
  made : written_values l.at 1 (zip l.columns l.literals) ≡ behind l.values.items (written_values l.at (l.place + 1) (drop l.place (zip l.columns l.literals)));
  long : length l.values.items ≡ l.place;
  entries : IsTrue (list_all (λ p. is_entry p.0.kind p.1) (zip l.columns l.values.items));
}
