-- The lines of all groups are those of a bound query.
use Rattle.std.proofs.Common.{◌≡◌, Bool, true, false, not, ◌&&◌, ◌||◌, List, [], ◌∷◌, map, filter, refl, sym, ap, ◌∙◌, subst, true≢false, inl, inr}
use Rattle.std.specs.List.{list_any, list_all}
use Rattle.std.proofs.lemmas.List.Folds.{list_all-map}
use Rattle.std.proofs.lemmas.List.Concat.{flat_map_single}
use Rattle.blink_base.specs.Values.{Row, same_row}
use Rattle.blink_base.specs.Lines.{Line, LineKey, printed_lines, LinesInAnyOrder, TellsRows}
use Rattle.blink_lists.specs.Groups.{with_key}
use Rattle.blink_lists.specs.Lists.{once_each}
use Rattle.blink_lists.specs.Rearrangement.{Rearranged}
use Rattle.blink_lists.proofs.AllLemmas.{all-passing, all-once_each}
use Rattle.blink_lists.proofs.BoolLemmas.{all_both}
use Rattle.blink_lists.proofs.GroupLemmas.{both, and_both, filter-alike}
use Rattle.blink_lists.proofs.ProductLemmas.{filter-map, is_one}
use Rattle.star_meaning.specs.Names.{Combination}
use Rattle.star_meaning.specs.Groups.{groups_by}
use Rattle.star_bind.specs.declared.query.ColumnRef.{ColumnRef}
use Rattle.star_bind.specs.declared.query.BoundItem.{BoundItem}
use Rattle.star_bind.specs.declared.query.BoundItem.TheVariants.{Column, Count, Sum, Average, Least, Greatest}
use Rattle.star_bind.specs.declared.query.BoundOrder.{BoundOrder}
use Rattle.star_bind.specs.declared.query.Query.{Query}
use Rattle.star_bind.specs.BoundAnswer.{ref_value, bound_key, bound_groups, bound_line, bound_answer, is_total}
use Rattle.late_decode.specs.declared.plan.LineOrder.{LineOrder}
use Rattle.late_decode.specs.declared.plan.Measure.{Measure}
use Rattle.late_decode.specs.declared.plan.Slot.{Slot}
use Rattle.late_decode.specs.GroupLines.{group_line, lines_of, or_single, finished}
use Rattle.late_decode.specs.Groups.{Grouped, grouped}
use Rattle.late_decode.specs.Parts.{Picked, no_part, part_over, parts_over, no_parts}
use Rattle.late_decode.specs.PlannedRows.{groups_by_plan}
use Rattle.late_decode.specs.declared.plan.Measure.TheVariants as measure
use Rattle.star_select.specs.GroupAnswer.{stands_in, IsGrouped, answer_of_groups}
use Rattle.star_select.specs.Picks.{item_refs, pick_of}
use Rattle.star_select.specs.QueryPlan.{has_total, is_plain, is_single, keys_if, measures_if, slots_if, plan_of}
use Rattle.star_select.proofs.GroupLineLemmas.{map-map, map-alike, map-where, key, is_right, group-line}
use Rattle.star_select.proofs.ListLemmas.{all-pass, none-not, some-filtered, all-self}
use Rattle.star_select.proofs.PlainLineLemmas.{plain-lines}

no-parts : (measures : List Measure) → parts_over measures [] ≡ no_parts measures
no-parts [] = refl
no-parts (m ∷ measures) = λ i. one m i ∷ no-parts measures i
  where
    one : (n : Measure) → part_over n [] ≡ no_part
    one measure.Count = refl
    one (measure.Sum f) = refl
    one (measure.Average f) = refl
    one (measure.Least a) = refl
    one (measure.Greatest a) = refl

pub none-total : (items : List BoundItem) → list_any is_total items ≡ false → list_all (λ i. not (is_total i)) items ≡ true
none-total [] h = refl
none-total (i ∷ is) h = by (is_total i) h (none-total is)
  where
    by : (b : Bool) → (b || list_any is_total is) ≡ false → (list_any is_total is ≡ false → list_all (λ j. not (is_total j)) is ≡ true) → (not b && list_all (λ j. not (is_total j)) is) ≡ true
    by true k r = absurd (true≢false k)
    by false k r = r k

-- without grouping columns only aggregates may stand
pub all-total : (items : List BoundItem) → list_all (stands_in []) items ≡ true → list_all is_total items ≡ true
all-total [] h = refl
all-total (i ∷ is) h = let b = both (stands_in [] i) (list_all (stands_in []) is) h in and_both (is_total i) (list_all is_total is) (alone i b.0) (all-total is b.1)
  where
    alone : (j : BoundItem) → stands_in [] j ≡ true → is_total j ≡ true
    alone (Column r) k = absurd (true≢false (sym k))
    alone Count k = refl
    alone (Sum e) k = refl
    alone (Average e) k = refl
    alone (Least r) k = refl
    alone (Greatest r) k = refl

-- by columns whose picks are their values
module _ {X : Type 0} (query : Query) (combination : X → Combination) (picked : X → Picked) (named : ColumnRef → Bool)
    (value-is : (r : ColumnRef) → named r ≡ true → (x : X) → picked x (pick_of query r) ≡ ref_value r (combination x)) (tells : TellsRows)
    (grouping : IsGrouped query) (items-named : list_all (λ i. list_all named (item_refs i)) query.items ≡ true) (groups-named : list_all named query.groups ≡ true) where
  abbrev key_at : X → Row
  key_at = key query combination picked named value-is tells

  abbrev measures : List Measure
  measures = measures_if false query

  abbrev slots : List Slot
  slots = slots_if false query

  -- the key of a combination is that of the row
  key-from : (refs : List ColumnRef) → list_all named refs ≡ true → (x : X) → bound_key refs (combination x) ≡ map (picked x) (map (pick_of query) refs)
  key-from [] h x = refl
  key-from (r ∷ refs) h x = let b = both (named r) (list_all named refs) h in λ i. sym (value-is r b.0 x) i ∷ key-from refs b.1 x i

  -- the groups of the combinations are those of the rows
  groups-are : (xs : List X) → groups_by (bound_key query.groups) (map combination xs) ≡ map (λ k. map combination (with_key same_row key_at xs k)) (once_each same_row (map key_at xs))
  groups-are xs =
      let same : (x : X) → bound_key query.groups (combination x) ≡ key_at x = key-from query.groups groups-named in
      ap (λ ks. map (λ k. filter (λ r. same_row k (bound_key query.groups r)) (map combination xs)) (once_each same_row ks))
      (map-map (bound_key query.groups) combination xs ∙ map-alike (λ x. bound_key query.groups (combination x)) key_at same xs)
      ∙ map-alike (λ k. filter (λ r. same_row k (bound_key query.groups r)) (map combination xs)) (λ k. map combination (with_key same_row key_at xs k))
      (λ k. filter-map (λ r. same_row k (bound_key query.groups r)) combination xs
      ∙ ap (map combination) (filter-alike (λ x. same_row k (bound_key query.groups (combination x))) (λ x. same_row k (key_at x)) (λ x. ap (same_row k) (same x)) xs))
      (once_each same_row (map key_at xs))

  -- whether a key stands at some row
  abbrev is_there : List X → Row → Bool
  is_there xs k = list_any (λ x. same_row k (key_at x)) xs

  each-there : (xs : List X) → list_all (is_there xs) (once_each same_row (map key_at xs)) ≡ true
  each-there xs = all-once_each same_row (is_there xs) (map key_at xs) (list_all-map (is_there xs) key_at xs ∙ all-self same_row key_at tells.itself xs)

  group-lines : list_all (is_right query combination picked named value-is tells) query.items ≡ true → (xs : List X)
      → map (group_line measures slots) (grouped same_row measures key_at picked xs) ≡ map (bound_line query.items) (map (λ k. map combination (with_key same_row key_at xs k)) (once_each same_row (map key_at xs)))
  group-lines right xs =
      map-map (group_line measures slots) (λ k. (k, parts_over measures (map picked (with_key same_row key_at xs k)))) (once_each same_row (map key_at xs))
      ∙ map-where (is_there xs) (λ k. group_line measures slots (k, parts_over measures (map picked (with_key same_row key_at xs k)))) (λ k. bound_line query.items (map combination (with_key same_row key_at xs k)))
      (λ k there. group-line query combination picked named value-is tells right k (with_key same_row key_at xs k) (all-passing (λ x. same_row k (key_at x)) xs) (inr (some-filtered (λ x. same_row k (key_at x)) xs there)))
      (once_each same_row (map key_at xs)) (each-there xs)
      ∙ sym (map-map (bound_line query.items) (λ k. map combination (with_key same_row key_at xs k)) (once_each same_row (map key_at xs)))

  -- each group gives its line
  lines-once : (gs : Grouped Row) → lines_of measures slots false gs ≡ map (group_line measures slots) gs
  lines-once gs = flat_map_single (group_line measures slots) gs

  -- ---- one line over all rows

  one-key : query.groups ≡ [] → (x : X) → key_at x ≡ []
  one-key e x = ap (λ l. map (picked x) (map (pick_of query) l)) e

  all-of-key : query.groups ≡ [] → (xs : List X) → list_all (λ x. same_row [] (key_at x)) xs ≡ true
  all-of-key e [] = refl
  all-of-key e (x ∷ xs) = and_both (same_row [] (key_at x)) (list_all (λ y. same_row [] (key_at y)) xs) (ap (same_row []) (one-key e x)) (all-of-key e xs)

  -- the groups are one, of all rows, or none where there is no row
  single-group : query.groups ≡ [] → (xs : List X) → or_single true measures (grouped same_row measures key_at picked xs) ≡ ([], parts_over measures (map picked xs)) ∷ []
  single-group e [] = λ i. ([], sym (no-parts measures) i) ∷ []
  single-group e (x ∷ xs) =
      let keys : once_each same_row (map key_at (x ∷ xs)) ≡ [] ∷ [] =
      ap (λ k. k ∷ filter (λ y. not (same_row k y)) (once_each same_row (map key_at xs))) (one-key e x)
      ∙ ap (λ l. [] ∷ l) (none-not (same_row []) (once_each same_row (map key_at xs)) (all-once_each same_row (same_row []) (map key_at xs) (list_all-map (same_row []) key_at xs ∙ all-of-key e xs))) in
      ap (λ ks. or_single true measures (map (λ k. (k, parts_over measures (map picked (with_key same_row key_at (x ∷ xs) k)))) ks)) keys
      ∙ (let all = all-pass (λ y. same_row [] (key_at y)) (x ∷ xs) (all-of-key e (x ∷ xs)) in λ i. ([], parts_over measures (map picked (all i))) ∷ [])

  single-line : list_all (is_right query combination picked named value-is tells) query.items ≡ true → list_all is_total query.items ≡ true → query.groups ≡ [] → (xs : List X)
      → map (group_line measures slots) (or_single true measures (grouped same_row measures key_at picked xs)) ≡ bound_line query.items (map combination xs) ∷ []
  single-line right totals e xs =
      ap (map (group_line measures slots)) (single-group e xs)
      ∙ ap (λ l. l ∷ []) (group-line query combination picked named value-is tells right [] xs (all-of-key e xs) (inl totals))

  -- ---- all lines

  -- the lines that the query means, where GROUP BY and an aggregate stand or don't
  abbrev lines_meant : Bool → Bool → List X → List Line
  lines_meant by_groups total xs = map (bound_line query.items) (bound_groups by_groups total query.groups (map combination xs))

  -- the lines that groups give
  abbrev lines_given : Bool → Bool → List X → List Line
  lines_given plain single xs =
      lines_of (measures_if plain query) (slots_if plain query) plain
      (or_single single (measures_if plain query) (grouped same_row (measures_if plain query) (λ x. map (picked x) (keys_if plain query)) picked xs))

  right-items : (query.grouped || has_total query) ≡ true → list_all (is_right query combination picked named value-is tells) query.items ≡ true
  right-items h = all_both (λ i. list_all named (item_refs i)) (stands_in query.groups) query.items items-named (grouping.stand h)

  with-groups : query.grouped ≡ true → (total : Bool) (xs : List X) → lines_meant true total xs ≡ lines_given false false xs
  with-groups g total xs =
      ap (map (bound_line query.items)) (groups-are xs)
      ∙ sym (group-lines (right-items (ap (λ b. b || has_total query) g)) xs)
      ∙ sym (lines-once (grouped same_row measures key_at picked xs))

  with-totals : query.grouped ≡ false → has_total query ≡ true → (xs : List X) → lines_meant false true xs ≡ lines_given false true xs
  with-totals g t xs =
      let some : (query.grouped || has_total query) ≡ true = λ i. g i || t i in
      let none = grouping.none g in
      let totals = all-total query.items (ap (λ gs. list_all (stands_in gs) query.items) (sym none) ∙ grouping.stand some) in
      sym (single-line (right-items some) totals none xs)
      ∙ sym (lines-once (or_single true measures (grouped same_row measures key_at picked xs)))

  without : has_total query ≡ false → (xs : List X) → Rearranged (lines_meant false false xs) (lines_given true false xs)
  without t xs =
      plain-lines query combination picked named value-is tells (all_both (λ i. list_all named (item_refs i)) (λ i. not (is_total i)) query.items items-named (none-total query.items t)) xs

  -- the lines of the groups of some rows are those that the query means of their combinations
  lines-rearranged : (xs : List X) → Rearranged (lines_meant query.grouped (has_total query) xs) (lines_given (is_plain query) (is_single query) xs)
  lines-rearranged xs = by query.grouped (has_total query) refl refl
    where
      at : (g t plain single : Bool) → query.grouped ≡ g → has_total query ≡ t → not (g || t) ≡ plain → (not g && t) ≡ single → Rearranged (lines_meant g t xs) (lines_given plain single xs)
          → Rearranged (lines_meant query.grouped (has_total query) xs) (lines_given (is_plain query) (is_single query) xs)
      at g t plain single e k p s r =
          let one = (λ i. not (e i || k i)) ∙ p in
          let two = (λ i. not (e i) && k i) ∙ s in
          subst (λ l. Rearranged l (lines_given (is_plain query) (is_single query) xs)) (sym (λ i. lines_meant (e i) (k i) xs))
          (subst (λ l. Rearranged (lines_meant g t xs) l) (sym (λ i. lines_given (one i) (two i) xs)) r)

      by : (g t : Bool) → query.grouped ≡ g → has_total query ≡ t → Rearranged (lines_meant query.grouped (has_total query) xs) (lines_given (is_plain query) (is_single query) xs)
      by true t e k = at true t false false e k refl refl (is_one (with-groups e t xs))
      by false true e k = at false true false true e k refl refl (is_one (with-totals e k xs))
      by false false e k = at false false true false e k refl refl (without k xs)

  -- the answer over some combinations is that of the groups of the rows that they are of
  pub answer-is : LinesInAnyOrder → (xs : List X) → bound_answer query (map combination xs) ≡ answer_of_groups query (groups_by_plan (plan_of query) picked xs)
  unfolding bound_answer finished
  answer-is printed xs =
      let keys : List LineKey = map (λ (o : BoundOrder). record { item = o.item; falling = o.falling }) query.order in
      let lines = printed keys query.limit (lines_meant query.grouped (has_total query) xs) (lines_given (is_plain query) (is_single query) xs) (lines-rearranged xs) in
      let ordered : map (λ (o : LineOrder). record { item = o.slot; falling = o.falling }) (map (λ (o : BoundOrder). record { slot = o.item; falling = o.falling }) query.order) ≡ keys =
      map-map (λ (o : LineOrder). record { item = o.slot; falling = o.falling }) (λ (o : BoundOrder). record { slot = o.item; falling = o.falling }) query.order in
      λ i. record { names = query.names; lines = (lines ∙ ap (λ ks. printed_lines ks query.limit (lines_given (is_plain query) (is_single query) xs)) (sym ordered)) i }
