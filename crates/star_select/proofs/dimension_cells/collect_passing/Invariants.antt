use Rattle.std.proofs.Common.{◌≡◌, ◌≤◌, ◌+◌, ◌*◌, map, take, length}
use Rattle.blink_lists.specs.Lists.{joined, numbers_from}
use Rattle.cell_layout.specs.Blocks.{page_count}
use Rattle.cell_layout.specs.Image.{cell_at}
use Rattle.dim_filter.specs.Entries.{collected, key_column}
use Rattle.star_select.specs.CellTests.{passes_some}
use Rattle.star_select.specs.WantedRows.{page_where}
use Rattle.star_select.proofs.dimension_cells.collect_passing.Given as goal

abbrev pub invariant-loop-page : goal.invariant-loop-page
invariant-loop-page g l = record {
  so_far : l.into ≡ collected (key_column l.image) l.wanted l.initial.into (joined (take l.page (map (page_where l.image l.cell (passes_some l.tests)) (numbers_from 0 (page_count (cell_at l.image l.cell))))));
  counted : l.decodes ≤ l.initial.decodes + length (joined (take l.page (map (page_where l.image l.cell (passes_some l.tests)) (numbers_from 0 (page_count (cell_at l.image l.cell)))))) * (1 + length l.wanted);
}
