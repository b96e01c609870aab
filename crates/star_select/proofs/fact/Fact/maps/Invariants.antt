use Rattle.std.proofs.Common.{◌≡◌, take}
use Rattle.cell_layout.specs.Image.{cell_at}
use Rattle.code_group.specs.Entries.{maps_in}
use Rattle.star_select.specs.Picks.{tied_columns}
use Rattle.star_select.proofs.fact.Fact.maps.Given as goal

abbrev pub invariant-loop-tie : goal.invariant-loop-tie
invariant-loop-tie g l = record {
  maps : l.maps.items ≡ take l.tie (maps_in l.self.image.now.columns (cell_at l.self.image.now l.cell).classes (tied_columns l.self.query.now) l.self.keys.now);
}
