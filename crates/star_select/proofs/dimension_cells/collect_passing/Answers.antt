use Rattle.std.proofs.Common.{◌+◌, map, length, sym, ap, ◌∙◌, arith}
use Rattle.std.proofs.lemmas.Bool.{eqb-true}
use Rattle.blink_lists.specs.Lists.{numbers_from}
use Rattle.cell_layout.specs.Blocks.{page_count}
use Rattle.cell_layout.specs.Image.{cell_at}
use Rattle.code_join.specs.declared.limits.TheConstants.{MOST_KEYS}
use Rattle.dim_filter.specs.Entries.{collected, key_column}
use Rattle.dim_filter.proofs.PageLemmas.{none-collected}
use Rattle.star_select.specs.CellTests.{passes_some}
use Rattle.star_select.specs.WantedRows.{page_where, rows_where}
use Rattle.star_select.proofs.CollectedLemmas.{next_absent, next_few, next_put, next_counted, last_put, last_counted}
use Rattle.star_select.proofs.WantedPartLemmas.{none_where, page_count_is, page_part, pages_where}
use Rattle.star_select.proofs.dimension_cells.collect_passing.Goals as goal

pub returns-then-is_empty-clause-keys : goal.returns-then-is_empty-clause-keys
returns-then-is_empty-clause-keys g c =
    let image = c.args.image.now in
    sym (none-collected (key_column image) c.args.wanted.now c.args.into.now)
    ∙ ap (collected (key_column image) c.args.wanted.now c.args.into.now) (sym (none_where image (cell_at image c.args.cell) c.args.tests.now (cell_at image c.args.cell).rows (eqb-true (length c.args.tests.now) 0 (sym c.is_empty.ensures ∙ c.if-is_empty.true))))

pub collect_page-requires-clause-absent : goal.collect_page-requires-clause-absent
collect_page-requires-clause-absent g c =
    let image = c.args.image.now in
    let count = c.cell_pages-page-end.ensures in
    next_absent _ _ _ _ (page_part c.pages_are_rows.ensures image c.args.cell (passes_some c.args.tests.now) c.loop-page.page (omega arith)) (key_column image) c.args.wanted.now c.args.into.now c.loop-page.into c.loop-page.invariant.so_far
    c.first_keys_are_keys.ensures c.requires.absent

pub collect_page-requires-clause-few : goal.collect_page-requires-clause-few
collect_page-requires-clause-few g c =
    let image = c.args.image.now in
    let count = c.cell_pages-page-end.ensures in
    next_few _ _ _ _ (page_part c.pages_are_rows.ensures image c.args.cell (passes_some c.args.tests.now) c.loop-page.page (omega arith)) (key_column image) c.args.wanted.now c.args.into.now c.loop-page.into c.loop-page.invariant.so_far
    MOST_KEYS c.requires.few

pub returns-in_err-collect_page-clause-decodes : goal.returns-in_err-collect_page-clause-decodes
returns-in_err-collect_page-clause-decodes g c =
    let image = c.args.image.now in
    let count = c.cell_pages-page-end.ensures in
    (next_counted _ _ _ _ (page_part c.pages_are_rows.ensures image c.args.cell (passes_some c.args.tests.now) c.loop-page.page (omega arith)) (1 + length c.args.wanted.now) c.args.decodes.now c.loop-page.decodes c.collect_page.new.decodes
    c.loop-page.invariant.counted c.collect_page.ensures.decodes).1

pub loop-page-preserved : goal.loop-page-preserved
loop-page-preserved g c =
    let image = c.args.image.now in
    let count = c.cell_pages-page-end.ensures in
    let at = page_part c.pages_are_rows.ensures image c.args.cell (passes_some c.args.tests.now) c.loop-page.page (omega arith) in
    record {
      so_far = next_put _ _ _ _ at (key_column image) c.args.wanted.now c.args.into.now c.loop-page.into c.loop-page.invariant.so_far c.collect_page.new.into c.in_ok-collect_page.ensures.keys;
      counted = (next_counted _ _ _ _ at (1 + length c.args.wanted.now) c.args.decodes.now c.loop-page.decodes c.collect_page.new.decodes c.loop-page.invariant.counted c.collect_page.ensures.decodes).0;
    }

pub returns-clause-keys : goal.returns-clause-keys
returns-clause-keys g c =
    let image = c.args.image.now in
    let test = passes_some c.args.tests.now in
    let count = c.cell_pages-page-end.ensures in
    let long = page_count_is image c.args.cell test in
    last_put (map (page_where image c.args.cell test) (numbers_from 0 (page_count (cell_at image c.args.cell)))) c.loop-page.page (rows_where image (cell_at image c.args.cell) test (cell_at image c.args.cell).rows)
    (pages_where image c.args.cell test c.pages_are_rows.ensures) (omega arith) (key_column image) c.args.wanted.now c.args.into.now c.loop-page.into c.loop-page.invariant.so_far

pub returns-clause-decodes : goal.returns-clause-decodes
returns-clause-decodes g c =
    let image = c.args.image.now in
    let test = passes_some c.args.tests.now in
    let count = c.cell_pages-page-end.ensures in
    let long = page_count_is image c.args.cell test in
    last_counted (map (page_where image c.args.cell test) (numbers_from 0 (page_count (cell_at image c.args.cell)))) c.loop-page.page (rows_where image (cell_at image c.args.cell) test (cell_at image c.args.cell).rows)
    (pages_where image c.args.cell test c.pages_are_rows.ensures) (omega arith) (1 + length c.args.wanted.now) c.args.decodes.now c.loop-page.decodes c.loop-page.invariant.counted
