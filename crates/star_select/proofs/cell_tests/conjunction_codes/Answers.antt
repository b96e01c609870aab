use Rattle.std.proofs.Common.{List, Option, IfOk, map, ap, sym, subst, ◌∙◌}
use Rattle.star_bind.specs.declared.query.ColumnTest.{ColumnTest}
use Rattle.cell_scan.specs.declared.code_test.CodeTest.{CodeTest}
use Rattle.cell_scan.specs.CodeTests.{code_sets}
use Rattle.cell_scan.specs.Match.{CodeSet}
use Rattle.cell_scan.specs.ValueTests.{sets_in}
use Rattle.star_select.specs.CodeSelection.{conjunction_tests}
use Rattle.star_select.specs.CodeSets.{are_tests_of, column_test, put_sets, some_empty}
use Rattle.star_select.proofs.PutSetLemmas.{all-put-keep}
use Rattle.star_select.proofs.cell_tests.conjunction_codes.Goals as goal

pub returns-in-Some : goal.returns-in-Some
returns-in-Some g c =
    let dicts = c.args.dicts.now in
    let classes = c.args.classes.now in
    let tied = code_sets c.args.tied.now in
    let made = subst (λ (o : Option (List CodeTest)). are_tests_of dicts classes o (sets_in dicts classes (map column_test c.as_slice-tests.result.now))) c.in-Some.is c.in_ok-made.ensures in
    let same = ap (λ (sets : List CodeSet). put_sets sets tied) (made.0 ∙ ap (λ (ts : List ColumnTest). sets_in dicts classes (map column_test ts)) c.as_slice-tests.ensures) in
    subst (λ (sets : List CodeSet). IfOk c.with_ties.result (λ all. are_tests_of dicts classes all sets)) same c.with_ties.ensures

pub returns-in-None : goal.returns-in-None
returns-in-None g c =
    let dicts = c.args.dicts.now in
    let classes = c.args.classes.now in
    let made = subst (λ (o : Option (List CodeTest)). are_tests_of dicts classes o (sets_in dicts classes (map column_test c.as_slice-tests.result.now))) c.in-None.is c.in_ok-made.ensures in
    all-put-keep (sets_in dicts classes (conjunction_tests c.args.conjunction.now)) (code_sets c.args.tied.now)
    (ap (λ (ts : List ColumnTest). some_empty (sets_in dicts classes (map column_test ts))) (sym c.as_slice-tests.ensures) ∙ made)
