-- How a query's groups give lines is in range of groups by its plan.
use Rattle.std.proofs.Common.{◌≡◌, ◌<◌, ◌==◌, ◌+◌, ℕ, Bool, true, false, not, ◌||◌, List, [], ◌∷◌, map, length, nat_lt, refl, sym, ap, ◌∙◌, true≢false, arith}
use Rattle.std.specs.List.{list_all, list_any}
use Rattle.std.proofs.lemmas.Bool.{eqb-true, lt-ltb}
use Rattle.std.proofs.lemmas.List.{length-map}
use Rattle.std.proofs.lemmas.List.Folds.{find_at, list_all-map}
use Rattle.std.proofs.lemmas.Option.{slice_get_within}
use Rattle.blink_base.specs.Values.{Row}
use Rattle.blink_lists.specs.Lists.{numbered_from}
use Rattle.blink_lists.proofs.GroupLemmas.{both, and_both, all-imply}
use Rattle.star_bind.specs.declared.query.ColumnRef.{ColumnRef}
use Rattle.star_bind.specs.declared.query.BoundItem.{BoundItem}
use Rattle.star_bind.specs.declared.query.BoundItem.TheVariants.{Column, Count, Sum, Average, Least, Greatest}
use Rattle.star_bind.specs.declared.query.Query.{Query}
use Rattle.star_bind.specs.BoundAnswer.{is_total}
use Rattle.star_bind.specs.BoundQuery.{query_of}
use Rattle.late_decode.specs.declared.plan.Measure.{Measure}
use Rattle.late_decode.specs.declared.plan.Part.{Part}
use Rattle.late_decode.specs.declared.plan.Slot.{Slot}
use Rattle.late_decode.specs.declared.plan.Slot.TheVariants as slot
use Rattle.late_decode.specs.Bounds.{are_groups, counts_first, is_key_slot, measure_within, slot_within, slots_within}
use Rattle.late_decode.specs.Groups.{Grouped}
use Rattle.star_select.specs.GroupAnswer.{stands_in, IsGrouped, QueriesAreGrouped}
use Rattle.star_select.specs.Picks.{same_ref, pick_of}
use Rattle.star_select.specs.Preconditions.{GroupsCanFinish}
use Rattle.star_select.specs.QueryPlan.{has_total, is_plain, is_single, item_pick, keys_if, measures_if, group_place, slot_of, slots_if, plan_of, finish_of}
use Rattle.star_select.specs.QueryPlan.{measure_of}
use Rattle.star_select.proofs.QueryLineLemmas.{all-total}
use Rattle.star_select.proofs.ListLemmas.{any-found}

-- numbers of elements are below the count of all
module _ {X : Type 0} (p : ℕ → X → Bool) where
  all-numbered : (from : ℕ) (xs : List X) → ((n : ℕ) (x : X) → n < from + length xs → p n x ≡ true) → list_all (λ q. p q.0 q.1) (numbered_from from xs) ≡ true
  all-numbered from [] h = refl
  all-numbered from (x ∷ xs) h = and_both (p from x) (list_all (λ q. p q.0 q.1) (numbered_from (from + 1) xs)) (h from x (omega arith)) (all-numbered (from + 1) xs (λ n y l. h n y (omega (arith, l))))

  -- the same of elements that pass
  all-numbered-where : (w : X → Bool) (from : ℕ) (xs : List X) → list_all w xs ≡ true → ((n : ℕ) (x : X) → n < from + length xs → w x ≡ true → p n x ≡ true) → list_all (λ q. p q.0 q.1) (numbered_from from xs) ≡ true
  all-numbered-where w from [] k h = refl
  all-numbered-where w from (x ∷ xs) k h =
      let b = both (w x) (list_all w xs) k in
      and_both (p from x) (list_all (λ q. p q.0 q.1) (numbered_from (from + 1) xs)) (h from x (omega arith) b.0) (all-numbered-where w (from + 1) xs b.1 (λ n y l. h n y (omega (arith, l))))

group-within : (groups : List ColumnRef) (r : ColumnRef) → list_any (same_ref r) groups ≡ true → group_place groups r < length groups
group-within groups r h = let found = any-found (same_ref r) groups h in slice_get_within groups (group_place groups r) found.0 (sym (find_at (same_ref r) groups) ∙ found.1)

-- a slot is in range of keys of a length, and of so many measures
abbrev in_range : ℕ → ℕ → Slot → Bool
in_range keys measures (slot.Key k) = nat_lt k keys
in_range keys measures (slot.Measure k) = nat_lt k measures

slot-in-range : (groups : List ColumnRef) (items n : ℕ) (i : BoundItem) → n < 1 + items → stands_in groups i ≡ true → in_range (length groups) (1 + items) (slot_of groups n i) ≡ true
slot-in-range groups items n (Column r) l h = lt-ltb (group_place groups r) (length groups) (group-within groups r h)
slot-in-range groups items n Count l h = lt-ltb n (1 + items) l
slot-in-range groups items n (Sum e) l h = lt-ltb n (1 + items) l
slot-in-range groups items n (Average e) l h = lt-ltb n (1 + items) l
slot-in-range groups items n (Least r) l h = lt-ltb n (1 + items) l
slot-in-range groups items n (Greatest r) l h = lt-ltb n (1 + items) l

slots-in-range : (query : Query) → IsGrouped query → (plain : Bool) → is_plain query ≡ plain → list_all (in_range (length (keys_if plain query)) (length (measures_if plain query))) (slots_if plain query) ≡ true
slots-in-range query grouping true e =
    list_all-map (in_range (length (keys_if true query)) 1) (λ (p : ℕ × BoundItem). slot.Key p.0) (numbered_from 0 query.items)
    ∙ all-numbered (λ n (x : BoundItem). nat_lt n (length (keys_if true query))) 0 query.items
    (λ n x l. lt-ltb n (length (keys_if true query)) (let long = length-map query.items (item_pick query) in omega (arith, l, long)))
slots-in-range query grouping false e =
    let some : (query.grouped || has_total query) ≡ true = not-not (query.grouped || has_total query) e in
    let keys : length (keys_if false query) ≡ length query.groups = length-map query.groups (pick_of query) in
    let measures : length (measures_if false query) ≡ 1 + length query.items = (let long = length-map query.items (measure_of query) in omega (arith, long)) in
    (λ i. list_all (in_range (keys i) (measures i)) (slots_if false query))
    ∙ list_all-map (in_range (length query.groups) (1 + length query.items)) (λ (p : ℕ × BoundItem). slot_of query.groups p.0 p.1) (numbered_from 1 query.items)
    ∙ all-numbered-where (λ n i. in_range (length query.groups) (1 + length query.items) (slot_of query.groups n i)) (stands_in query.groups) 1 query.items (grouping.stand some)
    (λ n i l h. slot-in-range query.groups (length query.items) n i l h)
  where
    not-not : (a : Bool) → not a ≡ false → a ≡ true
    not-not true k = refl
    not-not false k = absurd (true≢false k)

slots-within : (measures : List Measure) (keys : ℕ) (slots : List Slot) (groups : Grouped Row) → list_all (in_range keys (length measures)) slots ≡ true → list_all (λ group. length group.0 == keys) groups ≡ true → slots_within measures slots groups ≡ true
slots-within measures keys slots groups h long =
    and_both (list_all (measure_within measures) slots) (list_all (λ group. list_all (slot_within measures group.0) slots) groups)
    (all-imply (in_range keys (length measures)) (measure_within measures) measured slots h)
    (all-imply (λ (group : Row × List Part). length group.0 == keys) (λ group. list_all (slot_within measures group.0) slots)
    (λ group e. all-imply (in_range keys (length measures)) (slot_within measures group.0) (λ s k. keyed group.0 (eqb-true (length group.0) keys e) s k) slots h) groups long)
  where
    measured : (s : Slot) → in_range keys (length measures) s ≡ true → measure_within measures s ≡ true
    measured (slot.Key k) e = refl
    measured (slot.Measure k) e = e

    keyed : (key : Row) → length key ≡ keys → (s : Slot) → in_range keys (length measures) s ≡ true → slot_within measures key s ≡ true
    keyed key e (slot.Key k) f = ap (nat_lt k) e ∙ f
    keyed key e (slot.Measure k) f = f

-- where one line stands for all rows no slot is read of the key
no-key-slot : (groups : List ColumnRef) (n : ℕ) (items : List BoundItem) → list_all is_total items ≡ true → list_any is_key_slot (map (λ p. slot_of groups p.0 p.1) (numbered_from n items)) ≡ false
no-key-slot groups n [] h = refl
no-key-slot groups n (i ∷ items) h = let b = both (is_total i) (list_all is_total items) h in λ k. one i b.0 k || no-key-slot groups (n + 1) items b.1 k
  where
    one : (j : BoundItem) → is_total j ≡ true → is_key_slot (slot_of groups n j) ≡ false
    one (Column r) e = absurd (true≢false (sym e))
    one Count e = refl
    one (Sum x) e = refl
    one (Average x) e = refl
    one (Least r) e = refl
    one (Greatest r) e = refl

single-slots : (query : Query) → IsGrouped query → is_single query ≡ true → not (list_any is_key_slot (slots_if (is_plain query) query)) ≡ true
single-slots query grouping e =
    let b = both (not query.grouped) (has_total query) e in
    let none : query.grouped ≡ false = not-yes query.grouped b.0 in
    let some : (query.grouped || has_total query) ≡ true = (λ i. none i || b.1 i) in
    let groups = grouping.none none in
    let totals = all-total query.items (ap (λ gs. list_all (stands_in gs) query.items) (sym groups) ∙ grouping.stand some) in
    ap (λ plain. not (list_any is_key_slot (slots_if (not plain) query))) some ∙ ap not (no-key-slot query.groups 1 query.items totals)
  where
    not-yes : (a : Bool) → not a ≡ true → a ≡ false
    not-yes true k = absurd (true≢false (sym k))
    not-yes false k = refl

plain-counts : (query : Query) (plain : Bool) → counts_first (measures_if plain query) ≡ true
plain-counts query true = refl
plain-counts query false = refl

pub groups_can_finish : QueriesAreGrouped → GroupsCanFinish
groups_can_finish grouped schemas s groups free of_plan =
    let query : Query = query_of schemas s in
    let b = both (are_groups (plan_of query).measures groups) (list_all (λ group. length group.0 == length (plan_of query).keys) groups) of_plan in
    record {
      slots = slots-within (plan_of query).measures (length (plan_of query).keys) (finish_of query).slots groups (slots-in-range query (grouped schemas s free) (is_plain query) refl) b.1;
      repeat = λ e. plain-counts query (is_plain query);
      single = λ e. single-slots query (grouped schemas s free) e;
    }
