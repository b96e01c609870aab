use Rattle.std.proofs.Common.{ap, ◌∙◌}
use Rattle.late_decode.specs.declared.plan.GroupPlan.{GroupPlan}
use Rattle.star_select.specs.FactRows.{fact_rows}
use Rattle.star_select.proofs.FactGroupLemmas.{room-at-start, room-for-rest}
use Rattle.star_select.proofs.fact_groups.fact_groups.Goals as goal

pub add_cells-requires : goal.add_cells-requires
add_cells-requires g c =
    record {
      room = room-at-start (fact_rows c.args.image.now c.args.query.now c.args.keys.now) c.counts_bounded.ensures c.new-groups.result
          (c.new-groups.ensures.measures ∙ c.in_ok-measures_of.ensures ∙ ap (λ (p : GroupPlan). p.measures) c.requires.plan) c.new-groups.ensures.groups c.requires.few;
    }

pub add_rest-requires : goal.add_rest-requires
add_rest-requires g c =
    record {
      room = room-for-rest (fact_rows c.args.image.now c.args.query.now c.args.keys.now) c.counts_bounded.ensures c.new-groups.result c.add_cells.new.into _ c.new-groups.ensures.groups c.requires.few c.in_ok-add_cells.ensures.taken;
    }
