use Rattle.std.proofs.lemmas.Bool.Decides.{Decides-eqb}
use Rattle.std.proofs.lemmas.Slice.Eq.{slice_eq-Decides}
use Rattle.cell_layout.proofs.CellIndexLemmas.{found_here}
use Rattle.cell_layout.proofs.cells.find_cell_near.Goals as goal

pub returns-then-eq : goal.returns-then-eq
returns-then-eq c =
    let same = (slice_eq-Decides Decides-eqb c.as_slice.result.now c.args.classes.now c.eq.result c.eq.ensures).0 c.if-eq.true in
    found_here c.args.cells.now c.args.near c.index-cells-near.result c.as_slice.result.now c.args.classes.now c.if-near-cells.true c.as_slice.ensures same
