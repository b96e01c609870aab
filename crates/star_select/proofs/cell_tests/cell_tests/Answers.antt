use Rattle.std.proofs.Common.{◌==◌, ℕ, List, Option, map, ap, sym, subst, ◌∙◌}
use Rattle.std.specs.List.{list_all}
use Rattle.blink_lists.specs.Lists.{are_distinct}
use Rattle.star_bind.specs.declared.query.Conjunction.{Conjunction}
use Rattle.order_codes.specs.Dictionary.{Classes}
use Rattle.cell_layout.specs.Image.{cell_at}
use Rattle.cell_scan.specs.declared.code_test.CodeTest.{CodeTest}
use Rattle.cell_scan.specs.CodeTests.{code_sets}
use Rattle.cell_scan.specs.Match.{CodeSet}
use Rattle.cell_scan.specs.ValueTests.{ValueTest, sets_in}
use Rattle.star_select.specs.CellTests.{may_be_asked, passes_some, tie_tests, tied_tests}
use Rattle.star_select.specs.CodeSelection.{conjunction_tests}
use Rattle.star_select.specs.CodeSets.{are_good_columns, are_tests_of, put_sets, some_empty}
use Rattle.star_select.proofs.CellTestLemmas.{all-item, image-good, next-passed, none-passed, some-asked}
use Rattle.star_select.proofs.PutSetLemmas.{all-put-in}
use Rattle.star_select.proofs.cell_tests.cell_tests.Goals as goal

pub returns-in_default-clause-passed : goal.returns-in_default-clause-passed
returns-in_default-clause-passed g c = λ codes.
    let columns = c.args.image.now.columns in
    let classes = (cell_at c.args.image.now c.args.cell).classes in
    let ties = c.args.ties.now in
    let keys = c.args.keys.now in
    let dicts = c.dictionaries-dicts.result.now in
    let numbers = c.cell_classes-classes.result.now in
    let empty = subst (λ (o : Option (List CodeTest)). are_tests_of dicts numbers o (sets_in dicts numbers (tie_tests ties keys))) c.in_default.is c.in_ok-tied.ensures in
    let same =
    ap (λ (d : List Classes). some_empty (sets_in d numbers (tie_tests ties keys))) c.dictionaries-dicts.ensures.columns ∙ ap (λ (n : List ℕ). some_empty (sets_in columns n (tie_tests ties keys))) c.cell_classes-classes.ensures in
    ap (λ (l : List (List CodeTest)). passes_some l codes) c.new.ensures ∙ sym (none-passed columns classes ties keys c.args.conjunctions.now codes (sym same ∙ empty))

pub conjunction_codes-requires-clause-good : goal.conjunction_codes-requires-clause-good
conjunction_codes-requires-clause-good g c = ap are_good_columns c.dictionaries-dicts.ensures.columns ∙ image-good c.args.image.now c.requires.valid

pub loop-conjunction-preserved : goal.loop-conjunction-preserved
loop-conjunction-preserved g c =
    let image = c.args.image.now in
    let cell = c.args.cell in
    let columns = image.columns in
    let classes = (cell_at image cell).classes in
    let conjunctions = c.args.conjunctions.now in
    let ties = c.args.ties.now in
    let keys = c.args.keys.now in
    let k = c.loop-conjunction.conjunction-index in
    let item = c.conjunction-item.result in
    let all = c.loop-conjunction.all in
    let tests = c.in_ok-tests.tests in
    let dicts = c.dictionaries-dicts.result.now in
    let numbers = c.cell_classes-classes.result.now in
    let own = conjunction_tests item in
    let values = tied_tests ties keys item in
    let tied = subst (λ (o : Option (List CodeTest)). are_tests_of dicts numbers o (sets_in dicts numbers (tie_tests ties keys))) c.in-Some.is c.in_ok-tied.ensures in
    let same =
    ap (λ (l : List CodeTest). put_sets (sets_in dicts numbers own) (code_sets l)) c.as_slice-tied.ensures ∙ ap (put_sets (sets_in dicts numbers own)) tied.0 ∙ sym (all-put-in dicts numbers own (tie_tests ties keys)) in
    let made : are_tests_of columns classes tests (sets_in columns classes values) =
    subst (λ (d : List Classes). are_tests_of d classes tests (sets_in d classes values)) c.dictionaries-dicts.ensures.columns
    (subst (λ (n : List ℕ). are_tests_of dicts n tests (sets_in dicts n values)) c.cell_classes-classes.ensures (subst (λ (sets : List CodeSet). are_tests_of dicts numbers tests sets) same c.in_ok-tests.ensures)) in
    let apart =
    all-item (λ (x : Conjunction). are_distinct (λ a b. a == b) (map (λ (t : ValueTest). t.column) (tied_tests ties keys x))) conjunctions k item c.requires.apart c.loop-conjunction-test.true c.conjunction-item.is in
    record {
      asked = ap (list_all (may_be_asked image cell)) c.in_ok-add_some.ensures ∙ some-asked image cell values all tests made apart c.loop-conjunction.invariant.asked;
      passed = λ codes.
          next-passed columns classes ties keys all c.add_some.new.all tests conjunctions k item c.in_ok-add_some.ensures made c.loop-conjunction-test.true c.conjunction-item.is codes (c.loop-conjunction.invariant.passed codes);
    }
