use Rattle.std.proofs.Common.{◌*◌, length, sym, ap, subst, ◌∙◌, arith}
use Rattle.std.specs.List.{list_all}
use Rattle.cell_layout.specs.Image.{cell_at, decoded_row}
use Rattle.code_group.specs.Entries.{has_keys}
use Rattle.code_group.specs.GroupRows.{picked_of}
use Rattle.code_group.specs.Plans.{fact_value_picks, sums_numbers}
use Rattle.late_decode.specs.declared.plan.GroupPlan.{GroupPlan}
use Rattle.late_decode.specs.Bounds.{combinations_in}
use Rattle.star_select.specs.FactRows.{AreGrouped}
use Rattle.star_select.specs.FactView.{fact_of}
use Rattle.star_select.specs.Preconditions.{page_selected}
use Rattle.star_select.proofs.FactGroupLemmas.{none-grouped, none-chosen, count-chosen, none-behind-chosen, selected-chosen, page-grouped}
use Rattle.star_select.proofs.fact.Fact.add_page.Goals as goal

pub returns-then-count-eq0-clause-grouped : goal.returns-then-count-eq0-clause-grouped
returns-then-count-eq0-clause-grouped g c =
    let fact = fact_of c.args.self.now in
    let none = none-chosen fact c.args.cell c.args.page c.args.tests.now c.page_bits-bits.result c.requires.tests c.page_bits-bits.ensures (sym c.count.ensures ∙ c.if-count-eq0.true) in
    subst (λ rows. AreGrouped fact c.args.cell rows c.args.into.now c.args.into.now) (sym none)
    (none-grouped fact c.args.cell c.args.into.now (length (page_selected fact.image fact.query fact.keys c.args.cell c.args.page)) c.requires.room)

pub group_page-requires-clause-bits : goal.group_page-requires-clause-bits
group_page-requires-clause-bits g c = none-behind-chosen (fact_of c.args.self.now) c.args.cell c.args.page c.args.tests.now c.page_bits-bits.result c.requires.tests c.page_bits-bits.ensures

pub group_page-requires-clause-joined : goal.group_page-requires-clause-joined
group_page-requires-clause-joined g c =
    let fact = fact_of c.args.self.now in
    let rows = selected-chosen fact c.args.cell c.args.page c.args.tests.now c.page_bits-bits.result c.requires.tests c.page_bits-bits.ensures c.selected_rows_pass.ensures in
    let planned = c.args.self.now.asked.planned in
    (λ i. list_all (λ codes. has_keys (planned i).ties fact.keys (decoded_row fact.image.columns (cell_at fact.image c.args.cell).classes codes)) (rows i)) ∙ (c.args.self.now.asked.is_fact.pages c.args.cell c.args.page c.requires.cell).joined

pub group_page-requires-clause-numbers : goal.group_page-requires-clause-numbers
group_page-requires-clause-numbers g c =
    let fact = fact_of c.args.self.now in
    let rows = selected-chosen fact c.args.cell c.args.page c.args.tests.now c.page_bits-bits.result c.requires.tests c.page_bits-bits.ensures c.selected_rows_pass.ensures in
    let planned = c.args.self.now.asked.planned in
    (λ i. list_all (λ codes. sums_numbers (planned i) (picked_of fact.image (cell_at fact.image c.args.cell) (planned i) fact.keys codes)) (rows i)) ∙ (c.args.self.now.asked.is_fact.pages c.args.cell c.args.page c.requires.cell).numbers

pub group_page-requires-clause-few : goal.group_page-requires-clause-few
group_page-requires-clause-few g c =
    let fact = fact_of c.args.self.now in
    let many = count-chosen fact c.args.cell c.args.page c.args.tests.now c.page_bits-bits.result c.requires.tests c.page_bits-bits.ensures in
    let room = c.requires.room.few in
    let plan = ap (λ (p : GroupPlan). combinations_in p.measures c.args.into.now) c.args.self.now.asked.planned in
    omega (arith, many, room, plan)

pub returns-clause-grouped : goal.returns-clause-grouped
returns-clause-grouped g c =
    let fact = fact_of c.args.self.now in
    let rows = selected-chosen fact c.args.cell c.args.page c.args.tests.now c.page_bits-bits.result c.requires.tests c.page_bits-bits.ensures c.selected_rows_pass.ensures in
    let many = count-chosen fact c.args.cell c.args.page c.args.tests.now c.page_bits-bits.result c.requires.tests c.page_bits-bits.ensures in
    page-grouped c.group_page.result fact c.args.cell c.args.self.now.plan.now _ _ _ c.args.into.now c.group_page.new.into c.args.self.now.asked.planned rows many c.requires.room.within
    c.group_page.ensures.added c.group_page.ensures.groups c.group_page.ensures.within c.group_page.ensures.few c.group_page.ensures.grown

pub returns-clause-decodes : goal.returns-clause-decodes
returns-clause-decodes g c =
    let fact = fact_of c.args.self.now in
    let many = count-chosen fact c.args.cell c.args.page c.args.tests.now c.page_bits-bits.result c.requires.tests c.page_bits-bits.ensures in
    let told = c.group_page.ensures.decodes in
    let here = ap (λ n. n * fact_value_picks c.args.self.now.plan.now) many in
    let plan = ap (λ (p : GroupPlan). length (page_selected fact.image fact.query fact.keys c.args.cell c.args.page) * fact_value_picks p) c.args.self.now.asked.planned in
    omega (arith, told, here, plan)
