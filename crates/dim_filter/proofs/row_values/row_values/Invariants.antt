use Rattle.std.proofs.Common.{◌≡◌, ◌+◌, map, take, slice_index_or}
use Rattle.std.specs.Prelude.{pos}
use Rattle.blink_base.specs.declared.value.Value.TheVariants.{Int}
use Rattle.dim_filter.specs.Entries.{cell_row}
use Rattle.dim_filter.proofs.row_values.row_values.Given as goal

abbrev pub invariant-loop-column : goal.invariant-loop-column
invariant-loop-column g l = record {
  so_far : l.values.items ≡ map (λ column. slice_index_or (cell_row l.image l.cell l.row) column (Int (pos 0))) (take l.column-index l.columns);
  counted : l.decodes ≡ l.initial.decodes + l.column-index;
}
