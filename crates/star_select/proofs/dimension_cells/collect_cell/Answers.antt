use Rattle.std.proofs.Common.{◌≡◌, ◌≤◌, ◌+◌, ◌*◌, List, [], length, sym, ap, ◌∙◌, subst}
use Rattle.std.specs.Prelude.{IsTrue, OnOk}
use Rattle.blink_base.specs.Values.{Row}
use Rattle.cell_layout.specs.Image.{cell_at}
use Rattle.code_join.specs.Keys.{are_keys}
use Rattle.code_join.specs.declared.limits.TheConstants.{MOST_KEYS}
use Rattle.dim_filter.specs.Entries.{collected, key_column}
use Rattle.star_select.specs.CellTests.{is_passed, passes_some}
use Rattle.star_select.specs.WantedRows.{rows_where}
use Rattle.star_select.proofs.WantedPartLemmas.{same_where}
use Rattle.star_select.proofs.dimension_cells.collect_cell.Goals as goal

pub collect_passing-requires-clause-absent : goal.collect_passing-requires-clause-absent
collect_passing-requires-clause-absent g c =
    let image = c.args.image.now in
    let cell = cell_at image c.args.cell in
    let slice = c.as_slice.ensures in
    let same = same_where image cell (passes_some c.in_ok-tests.tests) (is_passed image.columns cell.classes [] [] c.args.conjunctions.now) cell.rows c.in_ok-tests.ensures.passed in
    let rows = ap (λ tests. rows_where image cell (passes_some tests) cell.rows) slice ∙ same in
    subst (λ (rows : List Row). IsTrue (are_keys (collected (key_column image) c.args.wanted.now c.args.into.now rows))) (sym rows) c.requires.absent

pub collect_passing-requires-clause-few : goal.collect_passing-requires-clause-few
collect_passing-requires-clause-few g c =
    let image = c.args.image.now in
    let cell = cell_at image c.args.cell in
    let slice = c.as_slice.ensures in
    let same = same_where image cell (passes_some c.in_ok-tests.tests) (is_passed image.columns cell.classes [] [] c.args.conjunctions.now) cell.rows c.in_ok-tests.ensures.passed in
    let rows = ap (λ tests. rows_where image cell (passes_some tests) cell.rows) slice ∙ same in
    subst (λ (rows : List Row). length c.args.into.now + length rows ≤ MOST_KEYS) (sym rows) c.requires.few

pub returns-clause-keys : goal.returns-clause-keys
returns-clause-keys g c =
    let image = c.args.image.now in
    let cell = cell_at image c.args.cell in
    let slice = c.as_slice.ensures in
    let same = same_where image cell (passes_some c.in_ok-tests.tests) (is_passed image.columns cell.classes [] [] c.args.conjunctions.now) cell.rows c.in_ok-tests.ensures.passed in
    let rows = ap (λ tests. rows_where image cell (passes_some tests) cell.rows) slice ∙ same in
    subst (λ (rows : List Row). OnOk c.collect_passing.result (c.collect_passing.new.into ≡ collected (key_column image) c.args.wanted.now c.args.into.now rows)) rows c.collect_passing.ensures.keys

pub returns-clause-decodes : goal.returns-clause-decodes
returns-clause-decodes g c =
    let image = c.args.image.now in
    let cell = cell_at image c.args.cell in
    let slice = c.as_slice.ensures in
    let same = same_where image cell (passes_some c.in_ok-tests.tests) (is_passed image.columns cell.classes [] [] c.args.conjunctions.now) cell.rows c.in_ok-tests.ensures.passed in
    let rows = ap (λ tests. rows_where image cell (passes_some tests) cell.rows) slice ∙ same in
    subst (λ (rows : List Row). c.collect_passing.new.decodes ≤ c.args.decodes.now + length rows * (1 + length c.args.wanted.now)) rows c.collect_passing.ensures.decodes
