use Rattle.std.proofs.Common.{◌+◌, List, Option, ap, drop, subst, sym, ◌∙◌}
use Rattle.cell_scan.specs.declared.code_test.CodeTest.{CodeTest}
use Rattle.cell_scan.specs.CodeTests.{code_set, code_sets}
use Rattle.star_select.specs.CodeSets.{are_tests_of, put_set, put_sets, some_empty}
use Rattle.star_select.proofs.CellTestLemmas.{drop-next}
use Rattle.star_select.proofs.PutSetLemmas.{all-put-keep}
use Rattle.star_select.proofs.tied_codes.with_ties.Goals as goal

pub returns-in-None : goal.returns-in-None
returns-in-None g c =
    let tied = c.args.tied.now in
    let k = c.loop-test.test-index in
    let test = c.test-item.result in
    let all = c.loop-test.all in
    let empty = subst (λ (o : Option (List CodeTest)). are_tests_of c.args.dicts.now c.args.classes.now o (put_set (code_sets all) (code_set test))) c.in-None.is c.in_ok-more.ensures in
    ap some_empty (sym c.loop-test.invariant.put)
    ∙ ap (λ (l : List CodeTest). some_empty (put_sets (code_sets all) (code_sets l))) (drop-next tied k test c.loop-test-test.true c.test-item.is)
    ∙ all-put-keep (put_set (code_sets all) (code_set test)) (code_sets (drop (k + 1) tied)) empty
