-- A query that is accepted is grouped as its items ask.
use Rattle.std.proofs.Common.{◌≡◌, ℕ, Bool, true, false, not, ◌||◌, List, [], ◌∷◌, map, length, nat_lt, Option, Some, None, option_map, refl, sym, ◌∙◌, subst, true≢false, arith}
use Rattle.std.specs.Prelude.{unwrap_or}
use Rattle.std.specs.List.{list_any, list_all}
use Rattle.std.proofs.lemmas.Bool.{lt-ltb}
use Rattle.blink_lists.proofs.GroupLemmas.{both, and_both}
use Rattle.star_sql.specs.declared.ast.ColumnName.{ColumnName}
use Rattle.star_sql.specs.declared.ast.What.{What}
use Rattle.star_sql.specs.declared.ast.What.TheVariants.{Column, Count, Sum, Avg, Min, Max}
use Rattle.star_sql.specs.declared.ast.Item.{Item}
use Rattle.star_sql.specs.declared.ast.Select.{Select}
use Rattle.star_meaning.specs.Names.{Scope, ColumnPlace, place_of}
use Rattle.star_meaning.specs.Groups.{is_aggregate, has_aggregate}
use Rattle.star_meaning.specs.Answer.{bare_column, same_place, is_place}
use Rattle.star_bind.specs.declared.query.Query.{Query}
use Rattle.star_bind.specs.BoundAnswer.{is_total}
use Rattle.star_bind.specs.BoundQuery.{scope_of, ref_of, meant, bound_item_of, query_in}
use Rattle.star_bind.specs.GroupRule.{has_groups, is_grouping, may_stand, is_grouped}
use Rattle.star_bind.proofs.AcceptanceLemmas.{accepted, scope_accepted}
use Rattle.star_bind.proofs.FactRowLemmas.{query-is}
use Rattle.star_select.specs.GroupAnswer.{stands_in, IsGrouped, QueriesAreGrouped}
use Rattle.star_select.specs.Picks.{same_ref}

either : (a b c : Bool) → (a || b) ≡ true → (b ≡ true → c ≡ true) → (a || c) ≡ true
either true b c m n = refl
either false b c m n = n m

later : (a b : Bool) → b ≡ true → (a || b) ≡ true
later true b e = refl
later false b e = e

-- grouping columns, as they are bound, have a column that is one of them
grouping-bound : (scope : Scope) (p : ColumnPlace) (names : List ColumnName) → list_any (λ g. is_place p (place_of scope g)) names ≡ true → list_any (same_ref (ref_of p)) (map (meant scope) names) ≡ true
grouping-bound scope p [] h = h
grouping-bound scope p (g ∷ gs) h = by (place_of scope g) h (grouping-bound scope p gs)
  where
    by : (place : Option ColumnPlace) → (is_place p place || list_any (λ z. is_place p (place_of scope z)) gs) ≡ true
        → (list_any (λ z. is_place p (place_of scope z)) gs ≡ true → list_any (same_ref (ref_of p)) (map (meant scope) gs) ≡ true)
        → (same_ref (ref_of p) (unwrap_or (option_map ref_of place) (record { table = 0; column = 0 })) || list_any (same_ref (ref_of p)) (map (meant scope) gs)) ≡ true
    by None k r = later (same_ref (ref_of p) (record { table = 0; column = 0 })) (list_any (same_ref (ref_of p)) (map (meant scope) gs)) (r k)
    by (Some q) k r = either (same_place p q) (list_any (λ z. is_place p (place_of scope z)) gs) (list_any (same_ref (ref_of p)) (map (meant scope) gs)) k r

column-stands : (scope : Scope) (groups : List ColumnName) (place : Option ColumnPlace) → is_grouping scope groups place ≡ true
    → list_any (same_ref (unwrap_or (option_map ref_of place) (record { table = 0; column = 0 }))) (map (meant scope) groups) ≡ true
column-stands scope groups None h = absurd (true≢false (sym h))
column-stands scope groups (Some p) h = grouping-bound scope p groups h

item-stands : (scope : Scope) (groups : List ColumnName) (w : What) → may_stand scope groups (bare_column w) ≡ true → stands_in (map (meant scope) groups) (bound_item_of scope w) ≡ true
item-stands scope groups (Column c) h = column-stands scope groups (place_of scope c) h
item-stands scope groups Count h = refl
item-stands scope groups (Sum e) h = refl
item-stands scope groups (Avg e) h = refl
item-stands scope groups (Min c) h = refl
item-stands scope groups (Max c) h = refl

items-stand : (scope : Scope) (groups : List ColumnName) (items : List Item) → list_all (λ i. may_stand scope groups (bare_column i.what)) items ≡ true → list_all (stands_in (map (meant scope) groups)) (map (λ i. bound_item_of scope i.what) items) ≡ true
items-stand scope groups [] h = refl
items-stand scope groups (i ∷ is) h =
    let b = both (may_stand scope groups (bare_column i.what)) (list_all (λ j. may_stand scope groups (bare_column j.what)) is) h in
    and_both (stands_in (map (meant scope) groups) (bound_item_of scope i.what)) (list_all (stands_in (map (meant scope) groups)) (map (λ j. bound_item_of scope j.what) is)) (item-stands scope groups i.what b.0) (items-stand scope groups is b.1)

total-same : (scope : Scope) (items : List Item) → list_any is_total (map (λ i. bound_item_of scope i.what) items) ≡ has_aggregate items
total-same scope [] = refl
total-same scope (item ∷ items) = λ i. one item.what i || total-same scope items i
  where
    one : (w : What) → is_total (bound_item_of scope w) ≡ is_aggregate w
    one (Column c) = refl
    one Count = refl
    one (Sum e) = refl
    one (Avg e) = refl
    one (Min c) = refl
    one (Max c) = refl

no-groups : (scope : Scope) (groups : List ColumnName) → nat_lt 0 (length groups) ≡ false → map (meant scope) groups ≡ []
no-groups scope [] h = refl
no-groups scope (g ∷ gs) h = absurd (true≢false (sym (lt-ltb 0 (length (g ∷ gs)) (omega arith)) ∙ h))

given : (a b : Bool) → (not a || b) ≡ true → a ≡ true → b ≡ true
given true b h e = h
given false b h e = absurd (true≢false (sym e))

query-grouped : (scope : Scope) (s : Select) (fact : ℕ) → is_grouped scope s ≡ true → IsGrouped (query_in scope s fact)
query-grouped scope s fact h = record {
  none = no-groups scope s.groups;
  stand = λ e.
      let some : (has_groups s || has_aggregate s.items) ≡ true = (λ i. has_groups s || sym (total-same scope s.items) i) ∙ e in
      items-stand scope s.groups s.items (given (has_groups s || has_aggregate s.items) (list_all (λ i. may_stand scope s.groups (bare_column i.what)) s.items) h some);
}

pub queries_are_grouped : QueriesAreGrouped
queries_are_grouped schemas s free =
    let a = accepted (scope_of schemas s) s (scope_accepted schemas s free).1 in
    subst (λ (q : Query). IsGrouped q) (sym (query-is schemas s a.0 a.1.is_fact)) (query-grouped (scope_of schemas s) s a.0 a.1.grouped)
