use Rattle.std.proofs.Common.{◌≡◌, ◌≤◌, ◌<◌, ℕ, List, ◌++◌, length, get_or}
use Rattle.cell_layout.proofs.cell.append_columns.Given as goal

abbrev pub invariant-loop-column : goal.invariant-loop-column
invariant-loop-column l = record {
  count : length l.columns ≡ length l.initial.columns;
  appended : (k : ℕ) (d : List ℕ × ℕ) → k < l.column → (get_or l.columns k d).0 ≡ (get_or l.initial.columns k d).0 ++ (get_or l.more k d).0;
  others : (k : ℕ) (d : List ℕ × ℕ) → l.column ≤ k → get_or l.columns k d ≡ get_or l.initial.columns k d;
}
