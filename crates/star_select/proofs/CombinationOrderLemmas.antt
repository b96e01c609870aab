-- The answer to a bound query doesn't depend on the order of the combinations that it keeps.
use Rattle.std.proofs.Common.{◌≡◌, pos, Bool, true, false, List, [], ◌∷◌, map, filter, refl, ap, subst}
use Rattle.std.specs.List.{list_any}
use Rattle.blink_base.specs.declared.answer.Field.TheVariants as field
use Rattle.blink_base.specs.Values.{Row, same_row}
use Rattle.blink_base.specs.Lines.{LineKey, LinesInAnyOrder, TotalsInAnyOrder, TellsRows}
use Rattle.blink_lists.specs.Lists.{once_each}
use Rattle.blink_lists.specs.Rearrangement.{Rearranged}
use Rattle.blink_lists.proofs.RearrangementLemmas.{itself, length-rearranged, filter-rearranged, map-rearranged, once_each-rearranged}
use Rattle.star_meaning.specs.Names.{Combination}
use Rattle.star_meaning.specs.Groups.{groups_by}
use Rattle.star_bind.specs.declared.query.ColumnRef.{ColumnRef}
use Rattle.star_bind.specs.declared.query.BoundItem.{BoundItem}
use Rattle.star_bind.specs.declared.query.BoundItem.TheVariants.{Column, Count, Sum, Average, Least, Greatest}
use Rattle.star_bind.specs.declared.query.BoundOrder.{BoundOrder}
use Rattle.star_bind.specs.declared.query.Query.{Query}
use Rattle.star_bind.specs.BoundAnswer.{ref_value, bound_number, bound_value, bound_key, bound_groups, bound_line, bound_answer, is_total}

-- by the laws of totals and rows
module _ (totals : TotalsInAnyOrder) (tells : TellsRows) where
  value-rearranged : (i : BoundItem) {xs ys : List Combination} → Rearranged xs ys → bound_value i xs ≡ bound_value i ys
  value-rearranged (Column c) r = totals.least _ _ (map-rearranged (ref_value c) r)
  value-rearranged Count r = ap (λ n. field.Number (pos n)) (length-rearranged r)
  value-rearranged (Sum e) r = totals.sum _ _ (map-rearranged (bound_number e) r)
  value-rearranged (Average e) r = totals.average _ _ (map-rearranged (bound_number e) r)
  value-rearranged (Least c) r = totals.least _ _ (map-rearranged (ref_value c) r)
  value-rearranged (Greatest c) r = totals.greatest _ _ (map-rearranged (ref_value c) r)

  line-rearranged : (items : List BoundItem) (xs ys : List Combination) → Rearranged xs ys → bound_line items xs ≡ bound_line items ys
  line-rearranged [] xs ys r = refl
  line-rearranged (item ∷ items) xs ys r = λ i. value-rearranged item r i ∷ line-rearranged items xs ys r i

  lines-alike : (items : List BoundItem) (of_key other : Row → List Combination) → ((k : Row) → Rearranged (of_key k) (other k)) → (ks : List Row) → map (bound_line items) (map of_key ks) ≡ map (bound_line items) (map other ks)
  lines-alike items of_key other same [] = refl
  lines-alike items of_key other same (k ∷ ks) = λ i. line-rearranged items (of_key k) (other k) (same k) i ∷ lines-alike items of_key other same ks i

  groups-rearranged : (items : List BoundItem) (key : Combination → Row) {xs ys : List Combination} → Rearranged xs ys → Rearranged (map (bound_line items) (groups_by key xs)) (map (bound_line items) (groups_by key ys))
  groups-rearranged items key {xs} {ys} r =
      subst (λ l. Rearranged (map (bound_line items) (groups_by key xs)) l)
      (lines-alike items (of_key xs) (of_key ys) (λ k. filter-rearranged (λ row. same_row k (key row)) r) (once_each same_row (map key ys)))
      (map-rearranged (bound_line items) (map-rearranged (of_key xs) (once_each-rearranged same_row tells.one tells.back (map-rearranged key r))))
    where
      of_key : List Combination → Row → List Combination
      of_key all k = filter (λ row. same_row k (key row)) all

  lines-rearranged : (items : List BoundItem) (by_groups total : Bool) (refs : List ColumnRef) {xs ys : List Combination} → Rearranged xs ys
      → Rearranged (map (bound_line items) (bound_groups by_groups total refs xs)) (map (bound_line items) (bound_groups by_groups total refs ys))
  lines-rearranged items true total refs r = groups-rearranged items (bound_key refs) r
  lines-rearranged items false true refs {xs} {ys} r = subst (λ l. Rearranged (bound_line items xs ∷ []) (l ∷ [])) (line-rearranged items xs ys r) (itself (bound_line items xs ∷ []))
  lines-rearranged items false false refs r = map-rearranged (bound_line items) (map-rearranged (λ row. row ∷ []) r)

  pub answer-rearranged : LinesInAnyOrder → (query : Query) {xs ys : List Combination} → Rearranged xs ys → bound_answer query xs ≡ bound_answer query ys
  unfolding bound_answer
  answer-rearranged printed query r =
      let keys : List LineKey = map (λ (o : BoundOrder). record { item = o.item; falling = o.falling }) query.order in
      let lines = printed keys query.limit _ _ (lines-rearranged query.items query.grouped (list_any is_total query.items) query.groups r) in
      λ i. record { names = query.names; lines = lines i }
