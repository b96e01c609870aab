use Rattle.std.proofs.Common.{◌≡◌, ◌≤◌, ◌+◌, ◌*◌, List, length, sym, subst}
use Rattle.std.specs.Prelude.{IsTrue, OnOk}
use Rattle.blink_base.specs.Values.{Row}
use Rattle.cell_layout.specs.Image.{cell_at}
use Rattle.cell_scan.specs.Match.{rows_of_page}
use Rattle.code_join.specs.Keys.{are_keys}
use Rattle.code_join.specs.declared.limits.TheConstants.{MOST_KEYS}
use Rattle.dim_filter.specs.Entries.{collected, key_column}
use Rattle.star_select.specs.CellTests.{passes_some}
use Rattle.star_select.proofs.WantedPartLemmas.{none_padded, page_begins, page_chosen}
use Rattle.star_select.proofs.dimension_cells.collect_page.Goals as goal

pub collect-requires-clause-page : goal.collect-requires-clause-page
collect-requires-clause-page g c = page_begins (cell_at c.args.image.now c.args.cell) c.args.page c.requires.page

pub collect-requires-clause-bits : goal.collect-requires-clause-bits
collect-requires-clause-bits g c =
    none_padded (passes_some c.args.tests.now) (rows_of_page (cell_at c.args.image.now c.args.cell).rows c.args.page) c.page_bits-bits.result c.page_bits-bits.ensures

pub collect-requires-clause-absent : goal.collect-requires-clause-absent
collect-requires-clause-absent g c =
    let chosen = page_chosen c.args.image.now c.args.cell (passes_some c.args.tests.now) c.selected_rows_pass.ensures c.args.page c.page_bits-bits.result c.page_bits-bits.ensures in
    subst (λ (rows : List Row). IsTrue (are_keys (collected (key_column c.args.image.now) c.args.wanted.now c.args.into.now rows))) (sym chosen) c.requires.absent

pub collect-requires-clause-few : goal.collect-requires-clause-few
collect-requires-clause-few g c =
    let chosen = page_chosen c.args.image.now c.args.cell (passes_some c.args.tests.now) c.selected_rows_pass.ensures c.args.page c.page_bits-bits.result c.page_bits-bits.ensures in
    subst (λ (rows : List Row). length c.args.into.now + length rows ≤ MOST_KEYS) (sym chosen) c.requires.few

pub returns-clause-keys : goal.returns-clause-keys
returns-clause-keys g c =
    let chosen = page_chosen c.args.image.now c.args.cell (passes_some c.args.tests.now) c.selected_rows_pass.ensures c.args.page c.page_bits-bits.result c.page_bits-bits.ensures in
    subst (λ (rows : List Row). OnOk c.collect.result (c.collect.new.into ≡ collected (key_column c.args.image.now) c.args.wanted.now c.args.into.now rows)) chosen c.collect.ensures.keys

pub returns-clause-decodes : goal.returns-clause-decodes
returns-clause-decodes g c =
    let chosen = page_chosen c.args.image.now c.args.cell (passes_some c.args.tests.now) c.selected_rows_pass.ensures c.args.page c.page_bits-bits.result c.page_bits-bits.ensures in
    subst (λ (rows : List Row). c.collect.new.decodes ≤ c.args.decodes.now + length rows * (1 + length c.args.wanted.now)) chosen c.collect.ensures.decodes
