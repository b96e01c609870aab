use Rattle.std.proofs.Common.{◌≡◌, ◌++◌, ◌∷◌, [], ℕ, List, length, slice_index_or, ap, sym, ◌∙◌, arith}
use Rattle.std.proofs.lemmas.List.{take_all}
use Rattle.cell_layout.specs.Image.{cell_at}
use Rattle.cell_scan.specs.ValueTests.{cell_class}
use Rattle.code_join.specs.KeyCodes.{places_in}
use Rattle.late_decode.specs.declared.plan.GroupPlan.{GroupPlan}
use Rattle.star_select.specs.FactView.{fact_of}
use Rattle.star_select.specs.Picks.{tied_columns}
use Rattle.star_select.proofs.FactGroupLemmas.{maps-next, maps-long, tie-places}
use Rattle.star_select.proofs.fact.Fact.maps.Goals as goal

pub loop-tie-preserved : goal.loop-tie-preserved
loop-tie-preserved g c =
    let fact = fact_of c.args.self.now in
    let ties = c.as_slice-ties.ensures ∙ ap (λ (p : GroupPlan). p.ties) c.args.self.now.asked.planned in
    let many = ap (λ (l : List ℕ). length l) ties in
    let lt = c.loop-tie-test.true in
    let value : c.in_ok-payload.field-0 ≡ places_in (slice_index_or fact.keys c.loop-tie.tie []) (cell_class fact.image.columns (cell_at fact.image c.args.cell).classes (slice_index_or (tied_columns fact.query) c.loop-tie.tie 0)) = c.in_ok-payload.ensures
    ∙ tie-places fact c.args.cell c.loop-tie.tie c.as_slice-ties.result.now c.dictionaries-dicts.result.now c.cell_classes-classes.result.now c.index-self-tie.result c.index-dicts-column.result c.args.self.now.asked.is_fact.named ties c.dictionaries-dicts.ensures.columns c.cell_classes-classes.ensures lt c.index-dicts-column.is in
    let items : c.push.new.self.items ≡ c.loop-tie.maps.items ++ c.in_ok-payload.field-0 ∷ [] = c.in_ok-push.ensures.items in
    record {
      maps = items ∙ (λ i. c.loop-tie.invariant.maps i ++ value i ∷ [])
          ∙ sym (maps-next fact.image.columns (cell_at fact.image c.args.cell).classes (tied_columns fact.query) fact.keys c.loop-tie.tie (omega (arith, many, lt)) c.args.self.now.asked.is_fact.named.as_many);
    }

pub returns : goal.returns
returns g c =
    let fact = fact_of c.args.self.now in
    let ties = c.as_slice-ties.ensures ∙ ap (λ (p : GroupPlan). p.ties) c.args.self.now.asked.planned in
    let many = ap (λ (l : List ℕ). length l) ties in
    let long = maps-long fact.image.columns (cell_at fact.image c.args.cell).classes (tied_columns fact.query) fact.keys c.args.self.now.asked.is_fact.named.as_many in
    let end = c.loop-tie-test.false in
    c.loop-tie.invariant.maps ∙ take_all c.loop-tie.tie _ (omega (arith, many, long, end))
