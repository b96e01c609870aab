use Rattle.std.proofs.Common.{[], sym, subst}
use Rattle.code_group.specs.Plans.{fact_value_picks}
use Rattle.star_select.specs.FactRows.{AreGrouped, fact_plan, rows_before}
use Rattle.star_select.specs.FactView.{fact_of}
use Rattle.star_select.specs.Preconditions.{page_selected}
use Rattle.star_select.proofs.FactGroupLemmas.{room-for-page, page-decoded, more-grouped, one-page-more}
use Rattle.star_select.proofs.fact.Fact.cell_groups.Goals as goal

pub add_page-requires-clause-room : goal.add_page-requires-clause-room
add_page-requires-clause-room g c =
    room-for-page (fact_of c.args.self.now) c.counts_bounded.ensures c.args.cell c.loop-page.page c.loop-page.groups c.args.self.now.asked.few c.requires.cell c.loop-page.invariant.grouped

pub returns-in_err-add_page-clause-decodes : goal.returns-in_err-add_page-clause-decodes
returns-in_err-add_page-clause-decodes g c =
    (page-decoded (fact_of c.args.self.now) c.args.cell c.loop-page.page (fact_value_picks (fact_plan (fact_of c.args.self.now))) c.args.decodes.now c.loop-page.decodes c.add_page.new.decodes c.loop-page.invariant.decodes c.add_page.ensures.decodes).1

pub loop-page-preserved : goal.loop-page-preserved
loop-page-preserved g c =
    let fact = fact_of c.args.self.now in
    record {
      grouped = subst (λ rows. AreGrouped fact c.args.cell rows [] c.add_page.new.into) (sym (one-page-more fact c.args.cell c.loop-page.page))
          (more-grouped fact c.args.cell (rows_before fact c.args.cell c.loop-page.page) (page_selected fact.image fact.query fact.keys c.args.cell c.loop-page.page) [] c.loop-page.groups c.add_page.new.into c.loop-page.invariant.grouped c.in_ok-add_page.ensures.grouped);
      decodes = (page-decoded fact c.args.cell c.loop-page.page (fact_value_picks (fact_plan fact)) c.args.decodes.now c.loop-page.decodes c.add_page.new.decodes c.loop-page.invariant.decodes c.add_page.ensures.decodes).0;
    }
