use Rattle.std.proofs.Common.{◌≡◌, ◌≤◌, ◌+◌, ◌*◌, map, take, length}
use Rattle.blink_lists.specs.Lists.{joined}
use Rattle.dim_filter.specs.Entries.{collected, key_column}
use Rattle.star_select.specs.WantedRows.{cell_wanted}
use Rattle.star_select.proofs.dimension_cells.collect_cells.Given as goal

abbrev pub invariant-loop-cell : goal.invariant-loop-cell
invariant-loop-cell g l = record {
  so_far : l.into ≡ collected (key_column l.image) l.wanted l.initial.into (joined (take l.cell (map (cell_wanted l.image l.conjunctions) l.image.cells)));
  counted : l.decodes ≤ l.initial.decodes + length (joined (take l.cell (map (cell_wanted l.image l.conjunctions) l.image.cells))) * (1 + length l.wanted);
}
