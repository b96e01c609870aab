use Rattle.std.proofs.Common.{ℕ, List, length, ap, sym, ◌∙◌, arith}
use Rattle.late_decode.specs.declared.plan.GroupPlan.{GroupPlan}
use Rattle.late_decode.specs.Bounds.{combinations_in}
use Rattle.star_select.specs.FactRows.{fact_plan, chosen_in}
use Rattle.star_select.specs.FactView.{fact_of}
use Rattle.star_select.proofs.FactGroupLemmas.{nothing-passed, no-cell-taken, cell-spilled, none-combined}
use Rattle.star_select.proofs.fact.Fact.add_cell.Goals as goal

pub returns-then-len-eq0-clause-taken : goal.returns-then-len-eq0-clause-taken
returns-then-len-eq0-clause-taken g c =
    let fact = fact_of c.args.self.now in
    no-cell-taken fact c.args.cell c.args.into.now (length (chosen_in fact c.args.cell)) c.requires.room
    (nothing-passed fact c.args.cell c.in_ok-tests.tests c.in_ok-tests.ensures (sym c.len.ensures ∙ c.if-len-eq0.true))

pub spill-requires-clause-few : goal.spill-requires-clause-few
spill-requires-clause-few g c =
    let fact = fact_of c.args.self.now in
    let none = none-combined (List ℕ) c.counts_bounded.ensures (fact_plan fact).measures in
    let mine = c.in_ok-groups.ensures.grouped.few in
    let room = c.requires.room.few in
    let a = ap (λ (p : GroupPlan). combinations_in p.measures c.in_ok-groups.groups) c.args.self.now.asked.planned in
    let b = ap (λ (p : GroupPlan). combinations_in p.measures c.args.into.now.1) c.args.self.now.asked.planned in
    omega (arith, none, mine, room, a, b)

pub returns-clause-taken : goal.returns-clause-taken
returns-clause-taken g c =
    let fact = fact_of c.args.self.now in
    cell-spilled fact c.spill.result c.args.cell c.args.self.now.plan.now c.in_ok-groups.groups c.args.into.now c.spill.new.into c.counts_bounded.ensures c.args.self.now.asked.planned c.in_ok-groups.ensures.grouped c.requires.room
    c.spill.ensures.measures c.spill.ensures.added c.spill.ensures.groups c.spill.ensures.few
