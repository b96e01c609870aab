use Rattle.std.proofs.Common.{◌≡◌, true, drop}
use Rattle.std.specs.List.{list_all}
use Rattle.cell_scan.specs.CodeTests.{code_sets}
use Rattle.star_select.specs.CodeSets.{is_good_test, put_sets}
use Rattle.star_select.proofs.tied_codes.with_ties.Given as goal

abbrev pub invariant-loop-test : goal.invariant-loop-test
invariant-loop-test g l = record {
  put : put_sets (code_sets l.all) (code_sets (drop l.test-index l.tied)) ≡ put_sets (code_sets l.initial.all) (code_sets l.tied);
  good : list_all (is_good_test l.dicts l.classes) l.all ≡ true;
}
