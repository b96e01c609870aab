use Rattle.std.proofs.Common.{◌≡◌, rules}
use Rattle.std.proofs.lemmas.Fn.{always_returns_same}
use Rattle.cell_layout.specs.declared.cell.Cell.{Cell}
use Rattle.cell_layout.specs.Layout.{cell_cmp}
use Rattle.cell_layout.proofs.CellIndexLemmas.{cell_place}
use Rattle.cell_layout.proofs.cells.find_cell.Goals as goal

pub returns : goal.returns
returns c =
    let found = c.binary_search_by.ensures.position (λ (cell : Cell). cell_cmp cell.classes c.args.classes.now) (always_returns_same _ (λ a r. r ≡ cell_cmp a.0.now.classes c.args.classes.now) _ (λ a r g k. search rules)) in
    cell_place c.args.cells.now c.args.classes.now c.binary_search_by.result c.requires c.binary_search_by.ensures.bound found
