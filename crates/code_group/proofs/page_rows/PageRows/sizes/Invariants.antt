use Rattle.std.proofs.Common.{◌≡◌, take}
use Rattle.cell_layout.specs.Image.{cell_at}
use Rattle.code_group.specs.Entries.{sizes_in}
use Rattle.code_group.proofs.page_rows.PageRows.sizes.Given as goal

abbrev pub invariant-loop-pick : goal.invariant-loop-pick
invariant-loop-pick g l = l.sizes.items ≡ sizes_in l.self.image.columns (cell_at l.self.image l.self.cell).classes l.self.keys (take l.pick-index l.picks)
