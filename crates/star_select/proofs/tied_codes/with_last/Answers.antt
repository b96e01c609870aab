use Rattle.std.proofs.Common.{List, Option, Some, subst, sym}
use Rattle.cell_scan.specs.declared.code_test.CodeTest.{CodeTest}
use Rattle.cell_scan.specs.CodeTests.{code_set, code_sets}
use Rattle.star_select.specs.CodeSets.{are_tests_of, is_test_of, put_set}
use Rattle.star_select.proofs.TestCodeLemmas.{copy-behind}
use Rattle.star_select.proofs.tied_codes.with_last.Goals as goal

pub returns-in_ok-added-in-Some : goal.returns-in_ok-added-in-Some
returns-in_ok-added-in-Some g c =
    let dicts = c.args.dicts.now in
    let classes = c.args.classes.now in
    let tests = c.args.tests in
    let test = c.args.test.now in
    subst (λ (all : List CodeTest). are_tests_of dicts classes (Some all) (put_set (code_sets tests) (code_set test))) (sym c.in_ok-added-in-Some.ensures)
    (copy-behind dicts classes tests test c.in-Some.copy c.requires.absent c.requires.tests (subst (λ (o : Option CodeTest). is_test_of dicts classes o (code_set test)) c.in-Some.is c.in_ok-copy.ensures))
