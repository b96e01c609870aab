use Rattle.std.proofs.Common.{◌&&◌, List, ap, sym, ◌∙◌, arith}
use Rattle.std.specs.List.{list_all}
use Rattle.std.proofs.lemmas.List.{take_all}
use Rattle.blink_lists.proofs.GroupLemmas.{both}
use Rattle.page_synopsis.specs.Sets.{is_fair}
use Rattle.row_bits.specs.Bits.{some_true}
use Rattle.cell_layout.specs.Image.{cell_at}
use Rattle.cell_scan.specs.declared.code_test.CodeTest.{CodeTest}
use Rattle.cell_scan.specs.CodeTests.{are_within, code_sets, columns_apart}
use Rattle.cell_scan.specs.Match.{bits_where, match_bits, rows_of_page}
use Rattle.star_select.specs.CellTests.{may_be_asked, passes_some}
use Rattle.star_select.proofs.CellTestLemmas.{all-item, page-next}
use Rattle.star_select.proofs.cell_tests.page_bits.Goals as goal

pub loop-list-init : goal.loop-list-init
loop-list-init g c = c.none-bits.ensures ∙ sym (c.nothing_passes.ensures (cell_at c.args.image.now c.args.cell).rows c.args.page)

pub scan_conjunction-requires : goal.scan_conjunction-requires
scan_conjunction-requires g c =
    let image = c.args.image.now in
    let cell = c.args.cell in
    let list = c.list-item.result in
    let asked = all-item (may_be_asked image cell) c.args.tests.now c.loop-list.list-index list c.requires.asked c.loop-list-test.true c.list-item.is in
    let two = both (list_all (λ (t : CodeTest). is_fair t.ranges) list && columns_apart list) (are_within image.columns (cell_at image cell).classes list) asked in
    let one = both (list_all (λ (t : CodeTest). is_fair t.ranges) list) (columns_apart list) two.0 in
    record {
      cell = c.requires.cell;
      page = c.requires.page;
      fair = ap (list_all (λ (t : CodeTest). is_fair t.ranges)) c.as_slice.ensures ∙ one.0;
      apart = ap columns_apart c.as_slice.ensures ∙ one.1;
      within = ap (are_within image.columns (cell_at image cell).classes) c.as_slice.ensures ∙ two.1;
    }

pub loop-list-preserved : goal.loop-list-preserved
loop-list-preserved g c =
    let page = rows_of_page (cell_at c.args.image.now c.args.cell).rows c.args.page in
    let tests = c.args.tests.now in
    let k = c.loop-list.list-index in
    let list = c.list-item.result in
    let scanned = c.scan_conjunction.ensures ∙ ap (λ (l : List CodeTest). match_bits (code_sets l) page) c.as_slice.ensures in
    c.or-bits.ensures
    ∙ (λ i. some_true (c.loop-list.invariant i) (scanned i))
    ∙ page-next c.or_is_either.ensures tests k list page c.loop-list-test.true c.list-item.is

pub returns : goal.returns
returns g c =
    c.loop-list.invariant
    ∙ ap (λ (tests : List (List CodeTest)). bits_where (passes_some tests) (rows_of_page (cell_at c.args.image.now c.args.cell).rows c.args.page)) (take_all c.loop-list.list-index c.args.tests.now (omega arith))
