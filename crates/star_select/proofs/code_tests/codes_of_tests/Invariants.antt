use Rattle.std.proofs.Common.{◌≡◌, ◌++◌, true, drop, map}
use Rattle.std.specs.List.{list_all}
use Rattle.cell_scan.specs.CodeTests.{code_sets}
use Rattle.cell_scan.specs.ValueTests.{sets_in}
use Rattle.star_select.specs.CodeSets.{column_test, is_good_test}
use Rattle.star_select.proofs.code_tests.codes_of_tests.Given as goal

abbrev pub invariant-loop-test : goal.invariant-loop-test
invariant-loop-test g l = record {
  kept : code_sets l.made.items ++ sets_in l.dicts l.classes (map column_test (drop l.test-index l.tests)) ≡ sets_in l.dicts l.classes (map column_test l.tests);
  good : list_all (is_good_test l.dicts l.classes) l.made.items ≡ true;
}
