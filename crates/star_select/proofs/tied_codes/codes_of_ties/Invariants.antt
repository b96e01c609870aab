use Rattle.std.proofs.Common.{◌≡◌, ◌++◌, true, drop}
use Rattle.std.specs.List.{list_all}
use Rattle.cell_scan.specs.CodeTests.{code_sets}
use Rattle.cell_scan.specs.ValueTests.{sets_in}
use Rattle.star_select.specs.CellTests.{tie_tests}
use Rattle.star_select.specs.CodeSets.{is_good_test}
use Rattle.star_select.proofs.tied_codes.codes_of_ties.Given as goal

abbrev pub invariant-loop-tie : goal.invariant-loop-tie
invariant-loop-tie g l = record {
  kept : code_sets l.made.items ++ sets_in l.dicts l.classes (tie_tests (drop l.tie l.ties) (drop l.tie l.keys)) ≡ sets_in l.dicts l.classes (tie_tests l.ties l.keys);
  good : list_all (is_good_test l.dicts l.classes) l.made.items ≡ true;
}
