use Rattle.std.proofs.Common.{◌≡◌, ◌||◌, ℕ, true, drop, List}
use Rattle.std.specs.List.{list_all}
use Rattle.cell_layout.specs.Image.{cell_at}
use Rattle.star_select.specs.CellTests.{is_passed, may_be_asked, passes_some}
use Rattle.star_select.proofs.cell_tests.cell_tests.Given as goal

abbrev pub invariant-loop-conjunction : goal.invariant-loop-conjunction
invariant-loop-conjunction g l = record {
  asked : list_all (may_be_asked l.image l.cell) l.all ≡ true;
  passed : (codes : List ℕ)
      → (passes_some l.all codes || is_passed l.image.columns (cell_at l.image l.cell).classes l.ties l.keys (drop l.conjunction-index l.conjunctions) codes)
      ≡ is_passed l.image.columns (cell_at l.image l.cell).classes l.ties l.keys l.conjunctions codes;
}
