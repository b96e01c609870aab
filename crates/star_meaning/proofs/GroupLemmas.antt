-- What is made of groups in another order: the value of an item stays, and the lines of a query are the same lines.
use Rattle.std.proofs.Common.{◌≡◌, pos, Bool, true, false, List, [], ◌∷◌, map, filter, refl, ap, subst}
use Rattle.blink_base.specs.declared.answer.Field.TheVariants as field
use Rattle.blink_base.specs.Values.{Row, same_row}
use Rattle.blink_base.specs.Lines.{Line, TotalsInAnyOrder, TellsRows}
use Rattle.blink_lists.specs.Lists.{once_each}
use Rattle.blink_lists.specs.Rearrangement.{Rearranged}
use Rattle.blink_lists.proofs.RearrangementLemmas.{itself, length-rearranged, filter-rearranged, map-rearranged, once_each-rearranged}
use Rattle.star_sql.specs.declared.ast.ColumnName.{ColumnName}
use Rattle.star_sql.specs.declared.ast.Item.{Item}
use Rattle.star_sql.specs.declared.ast.What.{What}
use Rattle.star_sql.specs.declared.ast.What.TheVariants.{Column, Count, Sum, Avg, Min, Max}
use Rattle.star_meaning.specs.Names.{Scope, Combination}
use Rattle.star_meaning.specs.Groups.{value_of, number_at, item_value, key_of, groups_by, line_groups}
use Rattle.star_meaning.specs.Answer.{line_of}

-- by the laws of totals and rows
module _ (totals : TotalsInAnyOrder) (rows : TellsRows) where
  item_value-rearranged : (scope : Scope) (w : What) {xs ys : List Combination} → Rearranged xs ys → item_value scope w xs ≡ item_value scope w ys
  item_value-rearranged scope (Column c) r = totals.least _ _ (map-rearranged (value_of scope c) r)
  item_value-rearranged scope Count r = ap (λ n. field.Number (pos n)) (length-rearranged r)
  item_value-rearranged scope (Sum e) r = totals.sum _ _ (map-rearranged (number_at scope e) r)
  item_value-rearranged scope (Avg e) r = totals.average _ _ (map-rearranged (number_at scope e) r)
  item_value-rearranged scope (Min c) r = totals.least _ _ (map-rearranged (value_of scope c) r)
  item_value-rearranged scope (Max c) r = totals.greatest _ _ (map-rearranged (value_of scope c) r)

  line_of-rearranged : (scope : Scope) (items : List Item) {xs ys : List Combination} → Rearranged xs ys → line_of scope items xs ≡ line_of scope items ys
  line_of-rearranged scope [] r = refl
  line_of-rearranged scope (item ∷ items) r = λ i. item_value-rearranged scope item.what r i ∷ line_of-rearranged scope items r i

  -- the same function behind two that agree under it
  map-map : {X Y Z : Type 0} (f : Y → Z) (g h : X → Y) → ((x : X) → f (g x) ≡ f (h x)) → (xs : List X) → map f (map g xs) ≡ map f (map h xs)
  map-map f g h same [] = refl
  map-map f g h same (x ∷ xs) = λ i. same x i ∷ map-map f g h same xs i

  -- lines of groups, by a function for which the order in a group doesn't count
  module _ (f : List Combination → Line) (alike : (us vs : List Combination) → Rearranged us vs → f us ≡ f vs) where
    groups_by-rearranged : (key : Combination → Row) {xs ys : List Combination} → Rearranged xs ys → Rearranged (map f (groups_by key xs)) (map f (groups_by key ys))
    groups_by-rearranged key {xs} {ys} r =
        subst (λ l. Rearranged (map f (groups_by key xs)) l)
        (map-map f (with_key xs) (with_key ys) (λ k. alike (with_key xs k) (with_key ys k) (filter-rearranged (λ row. same_row k (key row)) r)) (once_each same_row (map key ys)))
        (map-rearranged f (map-rearranged (with_key xs) (once_each-rearranged same_row rows.one rows.back (map-rearranged key r))))
      where
        with_key : List Combination → Row → List Combination
        with_key all k = filter (λ row. same_row k (key row)) all

    pub line_groups-rearranged : (scope : Scope) (columns : List ColumnName) (aggregate : Bool) {xs ys : List Combination}
        → Rearranged xs ys → Rearranged (map f (line_groups scope columns aggregate xs)) (map f (line_groups scope columns aggregate ys))
    line_groups-rearranged scope (c ∷ cs) aggregate r = groups_by-rearranged (key_of scope (c ∷ cs)) r
    line_groups-rearranged scope [] true {xs} {ys} r = subst (λ l. Rearranged (f xs ∷ []) (l ∷ [])) (alike xs ys r) (itself (f xs ∷ []))
    line_groups-rearranged scope [] false r = map-rearranged f (map-rearranged (λ row. row ∷ []) r)

  pub lines_of-rearranged : (scope : Scope) (items : List Item) (columns : List ColumnName) (aggregate : Bool) {xs ys : List Combination}
      → Rearranged xs ys → Rearranged (map (line_of scope items) (line_groups scope columns aggregate xs)) (map (line_of scope items) (line_groups scope columns aggregate ys))
  lines_of-rearranged scope items columns aggregate r = line_groups-rearranged (line_of scope items) (λ us vs s. line_of-rearranged scope items s) scope columns aggregate r
