use Rattle.std.proofs.Common.{◌==◌, List, Option, IfSome, IsTrue, Some, get_or, length, position, sym, ap, subst, ◌∙◌}
use Rattle.page_synopsis.specs.BitSets.{all_below}
use Rattle.page_synopsis.specs.Runs.{in_both}
use Rattle.page_synopsis.specs.Sets.{codes_in, is_set_of}
use Rattle.page_synopsis.specs.declared.ranges.Ranges.{Ranges}
use Rattle.cell_scan.specs.declared.code_test.CodeTest.{CodeTest}
use Rattle.cell_scan.specs.CodeTests.{code_set, code_sets}
use Rattle.cell_scan.specs.ValueTests.{cell_class}
use Rattle.star_select.specs.CodeSets.{are_tests_of, put_set}
use Rattle.star_select.proofs.TestCodeLemmas.{same-column, met-some, met-none}
use Rattle.star_select.proofs.tied_codes.with_test.Goals as goal

pub with_last-requires-clause-absent : goal.with_last-requires-clause-absent
with_last-requires-clause-absent g c = ap (position (λ (x : CodeTest). x.column == c.args.test.now.column)) (sym c.as_slice.ensures) ∙ sym c.place_of.ensures ∙ c.in_default.is

pub both-requires-clause-same : goal.both-requires-clause-same
both-requires-clause-same g c =
    let tests = c.args.tests in
    let test = c.args.test.now in
    let a = c.index-as_slice-at.result in
    let place = ap (position (λ (x : CodeTest). x.column == test.column)) (sym c.as_slice.ensures) ∙ sym c.place_of.ensures ∙ c.in-Some.is in
    same-column c.args.dicts.now c.args.classes.now tests test.column c.in-Some.at a place (c.index-as_slice-at.is ∙ ap (λ (l : List CodeTest). get_or l c.in-Some.at a) c.as_slice-2.ensures)

pub returns-in-Some-2 : goal.returns-in-Some-2
returns-in-Some-2 g c =
    let dicts = c.args.dicts.now in
    let classes = c.args.classes.now in
    let tests = c.args.tests in
    let test = c.args.test.now in
    let at = c.in-Some.at in
    let a = c.index-as_slice-at.result in
    let place = ap (position (λ (x : CodeTest). x.column == test.column)) (sym c.as_slice.ensures) ∙ sym c.place_of.ensures ∙ c.in-Some.is in
    let is = c.index-as_slice-at.is ∙ ap (λ (l : List CodeTest). get_or l at a) c.as_slice-2.ensures in
    let set = subst (λ (o : Option Ranges). is_set_of o (in_both (codes_in a.ranges) (codes_in test.ranges))) c.in-Some-2.is c.in_ok-ranges.ensures.set in
    let below = subst (λ (o : Option Ranges). IfSome o (λ ranges. IsTrue (all_below (length (cell_class dicts classes test.column)) (codes_in ranges)))) c.in-Some-2.is c.in_ok-ranges.ensures.below in
    subst (λ (all : List CodeTest). are_tests_of dicts classes (Some all) (put_set (code_sets tests) (code_set test))) (sym c.put.ensures)
    (met-some dicts classes tests test at a c.in-Some-2.ranges place is c.requires.tests c.requires.test set below)

pub returns-in-None : goal.returns-in-None
returns-in-None g c =
    let tests = c.args.tests in
    let test = c.args.test.now in
    let at = c.in-Some.at in
    let a = c.index-as_slice-at.result in
    let place = ap (position (λ (x : CodeTest). x.column == test.column)) (sym c.as_slice.ensures) ∙ sym c.place_of.ensures ∙ c.in-Some.is in
    let is = c.index-as_slice-at.is ∙ ap (λ (l : List CodeTest). get_or l at a) c.as_slice-2.ensures in
    let set = subst (λ (o : Option Ranges). is_set_of o (in_both (codes_in a.ranges) (codes_in test.ranges))) c.in-None.is c.in_ok-ranges.ensures.set in
    met-none c.args.dicts.now c.args.classes.now tests test at a place is set
