use Rattle.join_tests.proofs.OwnKeyLemmas.{clear_page}
use Rattle.join_tests.proofs.dimension.cell_keys.Goals as goal

pub page_keys-requires-clause-first : goal.page_keys-requires-clause-first
page_keys-requires-clause-first g c = clear_page c.args.image.now 0 c.cell_rows-rows.result c.in-Some-bits_of.first c.cell_rows-rows.ensures c.if-rows-gt-PAGE_ROWS.false c.in-Some-bits_of.ensures

pub page_keys-requires-clause-second : goal.page_keys-requires-clause-second
page_keys-requires-clause-second g c = clear_page c.args.image.now 1 c.cell_rows-more.result c.in-Some-bits_of-2.second c.cell_rows-more.ensures c.if-more-gt-PAGE_ROWS.false c.in-Some-bits_of-2.ensures
