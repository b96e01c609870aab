use Rattle.std.proofs.Common.{◌≡◌, ◌<◌, ◌+◌, ◌*◌, [], ◌∷◌, false, slice_index_or, ap, sym, subst, ◌∙◌, arith}
use Rattle.std.specs.List.{list_all, flat_map}
use Rattle.blink_lists.specs.declared.limits.TheConstants.{MOST_ROWS}
use Rattle.late_decode.specs.Bounds.{combinations_in}
use Rattle.late_decode.specs.Groups.{added}
use Rattle.late_decode.specs.Parts.{parts_over}
use Rattle.code_group.specs.CellRow.{picked_by, pick_by, tuple_by}
use Rattle.code_group.specs.Entries.{sizes_in}
use Rattle.code_group.specs.PageGroups.{MayGroup, count_from, row_at}
use Rattle.code_group.specs.Plans.{fact_picks, fact_value_picks, measure_picks, measure_sums}
use Rattle.code_group.specs.Slots.{is_within}
use Rattle.code_group.specs.Tuples.{same_tuple}
use Rattle.code_group.proofs.PageLemmas.{next-joined, next-few, next-numbers, next-count, next-added, measures-there, end, one-more}
use Rattle.code_group.proofs.page_rows.PageRows.add_into.Goals as goal

pub row-row-requires-clause-joined : goal.row-row-requires-clause-joined
row-row-requires-clause-joined g c =
    let p = c.args.self.now in
    let maps = c.self.inside.maps.now in
    let may = subst (λ q. MayGroup q maps) c.self.view_is c.self.invariant in
    let at = c.in-Some.at in
    let bits = ap (λ q. q.bits) c.self.view_is in
    let place = c.in-Some.ensures.place in
    next-joined p maps may c.loop-at.from at c.args.into.now.0 c.loop-at.into.0 c.loop-at.invariant.added place.0
    (λ k l m. ap (λ bs. slice_index_or bs k false) (sym bits) ∙ c.in-Some.ensures.least k l m) (ap (λ bs. slice_index_or bs at false) (sym bits) ∙ place.2)

pub add-requires-clause-few : goal.add-requires-clause-few
add-requires-clause-few g c =
    let p = c.args.self.now in
    let maps = c.self.inside.maps.now in
    let may = subst (λ q. MayGroup q maps) c.self.view_is c.self.invariant in
    let at = c.in-Some.at in
    let bits = ap (λ q. q.bits) c.self.view_is in
    let place = c.in-Some.ensures.place in
    let ms = c.as_slice-in-Some.ensures ∙ ap (λ q. q.plan.measures) c.self.view_is in
    subst (λ l. combinations_in l c.loop-at.into.0 < MOST_ROWS) (sym ms)
    (next-few p maps may c.loop-at.from at c.args.into.now.0 c.loop-at.into.0 c.loop-at.invariant.added place.0
    (λ k l m. ap (λ bs. slice_index_or bs k false) (sym bits) ∙ c.in-Some.ensures.least k l m) (ap (λ bs. slice_index_or bs at false) (sym bits) ∙ place.2) c.requires.ready)

pub add-requires-clause-picks : goal.add-requires-clause-picks
add-requires-clause-picks g c =
    let p = c.args.self.now in
    let maps = c.self.inside.maps.now in
    let may = subst (λ q. MayGroup q maps) c.self.view_is c.self.invariant in
    let ms = c.as_slice-in-Some.ensures ∙ ap (λ q. q.plan.measures) c.self.view_is in
    (λ i. list_all (λ m. list_all (pick_by (c.row-row.ensures i)) (measure_picks m)) (ms i)) ∙ measures-there p maps may

pub add-requires-clause-numbers : goal.add-requires-clause-numbers
add-requires-clause-numbers g c =
    let p = c.args.self.now in
    let maps = c.self.inside.maps.now in
    let may = subst (λ q. MayGroup q maps) c.self.view_is c.self.invariant in
    let at = c.in-Some.at in
    let bits = ap (λ q. q.bits) c.self.view_is in
    let place = c.in-Some.ensures.place in
    let ms = c.as_slice-in-Some.ensures ∙ ap (λ q. q.plan.measures) c.self.view_is in
    (λ i. list_all (measure_sums (picked_by (c.row-row.ensures i))) (ms i))
    ∙ next-numbers p maps may c.loop-at.from at c.args.into.now.0 c.loop-at.into.0 c.loop-at.invariant.added place.0
    (λ k l m. ap (λ bs. slice_index_or bs k false) (sym bits) ∙ c.in-Some.ensures.least k l m) (ap (λ bs. slice_index_or bs at false) (sym bits) ∙ place.2)

pub returns-in_err-add-clause-decodes : goal.returns-in_err-add-clause-decodes
returns-in_err-add-clause-decodes g c =
    let p = c.args.self.now in
    let maps = c.self.inside.maps.now in
    let may = subst (λ q. MayGroup q maps) c.self.view_is c.self.invariant in
    let at = c.in-Some.at in
    let bits = ap (λ q. q.bits) c.self.view_is in
    let place = c.in-Some.ensures.place in
    let ms = c.as_slice-in-Some.ensures ∙ ap (λ q. q.plan.measures) c.self.view_is in
    let count = next-count p maps may c.loop-at.from at c.args.into.now.0 c.loop-at.into.0 c.loop-at.invariant.added place.0
    (λ k l m. ap (λ bs. slice_index_or bs k false) (sym bits) ∙ c.in-Some.ensures.least k l m) (ap (λ bs. slice_index_or bs at false) (sym bits) ∙ place.2) in
    let had = c.loop-at.invariant.decodes in
    let more = c.add.ensures.decodes in
    let picks = ap (λ l. fact_picks (flat_map measure_picks l)) ms in
    let product = ap (λ n. n * fact_value_picks p.plan) count in
    let split = one-more (count_from p (at + 1)) (fact_value_picks p.plan) in
    omega (arith, had, more, picks, product, split)

pub loop-at-preserved : goal.loop-at-preserved
loop-at-preserved g c =
    let p = c.args.self.now in
    let maps = c.self.inside.maps.now in
    let may = subst (λ q. MayGroup q maps) c.self.view_is c.self.invariant in
    let at = c.in-Some.at in
    let groups = c.loop-at.into.0 in
    let bits = ap (λ q. q.bits) c.self.view_is in
    let place = c.in-Some.ensures.place in
    let ms = c.as_slice-in-Some.ensures ∙ ap (λ q. q.plan.measures) c.self.view_is in
    let keys = c.as_slice.ensures ∙ ap (λ q. q.plan.keys) c.self.view_is in
    let row : c.row-row.result ≡ row_at p at = c.row-row.ensures in
    let tuple = c.in_ok-fill.ensures.tuple ∙ (λ i. tuple_by (row i) (keys i)) in
    let row-back = sym row in
    let keys-back = sym keys in
    let tuple-back = sym tuple in
    let fits = (λ i. is_within (sizes_in (row-back i).columns (row-back i).classes (row-back i).keys (keys-back i)) (tuple-back i)) ∙ c.in_ok-fill.ensures.within in
    let made = c.in_ok-add.ensures.groups ∙ (λ i. added same_tuple (ms i) (tuple i) (parts_over (ms i) (picked_by (row i) ∷ [])) groups) in
    let count = next-count p maps may c.loop-at.from at c.args.into.now.0 groups c.loop-at.invariant.added place.0
    (λ k l m. ap (λ bs. slice_index_or bs k false) (sym bits) ∙ c.in-Some.ensures.least k l m) (ap (λ bs. slice_index_or bs at false) (sym bits) ∙ place.2) in
    let had = c.loop-at.invariant.decodes in
    let more = c.add.ensures.decodes in
    let picks = ap (λ l. fact_picks (flat_map measure_picks l)) ms in
    let product = ap (λ n. n * fact_value_picks p.plan) count in
    let split = one-more (count_from p (at + 1)) (fact_value_picks p.plan) in
    let low = place.1 in
    record {
      added = next-added p maps may c.loop-at.from at c.args.into.now.0 groups c.loop-at.invariant.added place.0
          (λ k l m. ap (λ bs. slice_index_or bs k false) (sym bits) ∙ c.in-Some.ensures.least k l m) (ap (λ bs. slice_index_or bs at false) (sym bits) ∙ place.2)
          c.added_are_coded.ensures c.coded_combinations_added.ensures c.rows_are_parts.ensures c.add.new.self.0 fits made;
      sizes = c.add.ensures.sizes ∙ c.loop-at.invariant.sizes;
      decodes = omega (arith, had, more, picks, product, split);
      within = omega (arith, low);
    }

pub returns-clause-all : goal.returns-clause-all
returns-clause-all g c =
    let p = c.args.self.now in
    let maps = c.self.inside.maps.now in
    let may = subst (λ q. MayGroup q maps) c.self.view_is c.self.invariant in
    let bits = ap (λ q. q.bits) c.self.view_is in
    let none = rw c.in_default.is at c.next_set.ensures.none in
    end p maps may c.loop-at.from c.args.into.now.0 c.loop-at.into.0 c.loop-at.invariant.added (λ k l. ap (λ bs. slice_index_or bs k false) (sym bits) ∙ none k l)
