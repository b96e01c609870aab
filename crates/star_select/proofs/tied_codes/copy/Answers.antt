use Rattle.std.proofs.Common.{IfSome, IsTrue, Option, length, subst}
use Rattle.page_synopsis.specs.BitSets.{all_below}
use Rattle.page_synopsis.specs.Runs.{in_both}
use Rattle.page_synopsis.specs.Sets.{codes_in, is_set_of}
use Rattle.page_synopsis.specs.declared.ranges.Ranges.{Ranges}
use Rattle.cell_scan.specs.ValueTests.{cell_class}
use Rattle.star_select.proofs.TestCodeLemmas.{copy-some, copy-none}
use Rattle.star_select.proofs.tied_codes.copy.Goals as goal

pub returns-in-Some : goal.returns-in-Some
returns-in-Some g c =
    let dicts = c.args.dicts.now in
    let classes = c.args.classes.now in
    let test = c.args.test.now in
    copy-some dicts classes test c.in-Some.ranges c.requires.test
    (subst (λ (o : Option Ranges). is_set_of o (in_both (codes_in test.ranges) (codes_in test.ranges))) c.in-Some.is c.in_ok-ranges.ensures.set)
    (subst (λ (o : Option Ranges). IfSome o (λ ranges. IsTrue (all_below (length (cell_class dicts classes test.column)) (codes_in ranges)))) c.in-Some.is c.in_ok-ranges.ensures.below)

pub returns-in-None : goal.returns-in-None
returns-in-None g c =
    let test = c.args.test.now in
    copy-none c.args.dicts.now c.args.classes.now test (subst (λ (o : Option Ranges). is_set_of o (in_both (codes_in test.ranges) (codes_in test.ranges))) c.in-None.is c.in_ok-ranges.ensures.set)
