-- The columns that items and groups of a query name are there.
use Rattle.std.proofs.Common.{◌≡◌, ◌<◌, ◌==◌, Bool, true, false, ◌&&◌, ◌||◌, List, [], ◌∷◌, ◌++◌, map, filter, flat_map, length, slice_get, Option, Some, None, cond, refl, sym, ap, ◌∙◌, true≢false}
use Rattle.std.specs.List.{list_any, list_all}
use Rattle.std.specs.Option.{option_and_then, option_map_or, is_some}
use Rattle.std.proofs.lemmas.Bool.{eqb-true, eq-eqb}
use Rattle.std.proofs.lemmas.List.Folds.{list_all-append}
use Rattle.std.proofs.lemmas.Option.{slice_get_within}
use Rattle.blink_base.specs.declared.schema.Column.{Column}
use Rattle.blink_base.specs.declared.value.Kind.TheVariants as kind
use Rattle.blink_base.specs.Values.{same_kind}
use Rattle.blink_lists.proofs.AllLemmas.{all-flat_map}
use Rattle.blink_lists.proofs.BoolLemmas.{all_both, or-true}
use Rattle.blink_lists.proofs.GroupLemmas.{both, and_both, all-imply}
use Rattle.star_meaning.specs.Names.{Scope, FromEntry, column_at}
use Rattle.star_bind.specs.declared.query.ColumnRef.{ColumnRef}
use Rattle.star_bind.specs.declared.query.BoundExpr.{BoundExpr}
use Rattle.star_bind.specs.declared.query.BoundExpr.TheVariants.{One, Times, Plus, Minus}
use Rattle.star_bind.specs.declared.query.BoundItem.{BoundItem}
use Rattle.star_bind.specs.declared.query.BoundItem.TheVariants.{Column as Bare, Count, Sum, Average, Least, Greatest}
use Rattle.star_bind.specs.declared.query.Query.{Query}
use Rattle.star_bind.specs.QueryShape.{is_ref, is_number_ref, is_number_expr, is_item, HasShape}
use Rattle.star_select.specs.Picks.{expr_refs, item_refs, named_refs, same_ref}
use Rattle.star_select.proofs.ListLemmas.{all-self}

-- a column of a dimension that is named is among its wanted ones
pub is_among : (r : ColumnRef) (rs : List ColumnRef) → list_any (same_ref r) rs ≡ true → list_any (λ c. c == r.column) (map (λ q. q.column) (filter (λ q. q.table == r.table) rs)) ≡ true
is_among r [] e = e
is_among r (q ∷ rs) e = by (r.table == q.table) refl (r.column == q.column) refl e (is_among r rs)
  where
    wider : (b : Bool) → list_any (λ c. c == r.column) (map (λ q. q.column) (filter (λ q. q.table == r.table) rs)) ≡ true
        → list_any (λ c. c == r.column) (map (λ q. q.column) (cond b (q ∷ filter (λ q. q.table == r.table) rs) (filter (λ q. q.table == r.table) rs))) ≡ true
    wider true h = ap (λ b. (q.column == r.column) || b) h ∙ or-true (q.column == r.column)
    wider false h = h

    by : (b : Bool) → (r.table == q.table) ≡ b → (c : Bool) → (r.column == q.column) ≡ c → ((b && c) || list_any (same_ref r) rs) ≡ true
        → (list_any (same_ref r) rs ≡ true → list_any (λ c. c == r.column) (map (λ q. q.column) (filter (λ q. q.table == r.table) rs)) ≡ true)
        → list_any (λ c. c == r.column) (map (λ q. q.column) (cond (q.table == r.table) (q ∷ filter (λ q. q.table == r.table) rs) (filter (λ q. q.table == r.table) rs))) ≡ true
    by true f true g e more =
        let same_table : (q.table == r.table) ≡ true = eq-eqb q.table r.table (sym (eqb-true r.table q.table f)) in
        let same_column : (q.column == r.column) ≡ true = eq-eqb q.column r.column (sym (eqb-true r.column q.column g)) in
        ap (λ b. list_any (λ c. c == r.column) (map (λ q. q.column) (cond b (q ∷ filter (λ q. q.table == r.table) rs) (filter (λ q. q.table == r.table) rs)))) same_table
        ∙ ap (λ b. b || list_any (λ c. c == r.column) (map (λ q. q.column) (filter (λ q. q.table == r.table) rs))) same_column
    by true f false g e more = wider (q.table == r.table) (more e)
    by false f c g e more = wider (q.table == r.table) (more e)

number-there : (scope : Scope) (r : ColumnRef) → is_number_ref scope r ≡ true → is_ref scope r ≡ true
number-there scope r h = by (column_at scope (record { table = r.table; column = r.column })) h
  where
    by : (o : Option Column) → option_map_or (λ c. same_kind c.kind kind.Int) o false ≡ true → is_some o ≡ true
    by None k = absurd (true≢false (sym k))
    by (Some c) k = refl

two-there : (scope : Scope) (a b : ColumnRef) → (is_number_ref scope a && is_number_ref scope b) ≡ true → list_all (is_ref scope) (a ∷ b ∷ []) ≡ true
two-there scope a b h =
    let k = both (is_number_ref scope a) (is_number_ref scope b) h in
    λ i. number-there scope a k.0 i && (number-there scope b k.1 i && true)

expr-there : (scope : Scope) (e : BoundExpr) → is_number_expr scope e ≡ true → list_all (is_ref scope) (expr_refs e) ≡ true
expr-there scope (One a) h = λ i. number-there scope a h i && true
expr-there scope (Times a b) h = two-there scope a b h
expr-there scope (Plus a b) h = two-there scope a b h
expr-there scope (Minus a b) h = two-there scope a b h

item-there : (scope : Scope) (i : BoundItem) → is_item scope i ≡ true → list_all (is_ref scope) (item_refs i) ≡ true
item-there scope (Bare r) h = λ i. h i && true
item-there scope Count h = refl
item-there scope (Sum e) h = expr-there scope e h
item-there scope (Average e) h = expr-there scope e h
item-there scope (Least r) h = λ i. h i && true
item-there scope (Greatest r) h = λ i. h i && true

pub refs-there : (scope : Scope) (query : Query) → HasShape scope query → list_all (is_ref scope) (named_refs query) ≡ true
refs-there scope query shape =
    list_all-append (is_ref scope) (flat_map item_refs query.items) query.groups
    ∙ and_both (list_all (is_ref scope) (flat_map item_refs query.items)) (list_all (is_ref scope) query.groups)
    (all-flat_map (is_ref scope) item_refs query.items ∙ all-imply (is_item scope) (λ i. list_all (is_ref scope) (item_refs i)) (λ i h. item-there scope i h) query.items shape.items)
    shape.groups

pub ref-within : (scope : Scope) (r : ColumnRef) → is_ref scope r ≡ true → r.table < length scope
ref-within scope r h = by (slice_get scope r.table) refl h
  where
    by : (o : Option FromEntry) → slice_get scope r.table ≡ o → is_some (option_and_then (λ entry. slice_get entry.schema.columns r.column) o) ≡ true → r.table < length scope
    by None e k = absurd (true≢false (sym k))
    by (Some entry) e k = slice_get_within scope r.table entry e

same_ref-self : (r : ColumnRef) → same_ref r r ≡ true
same_ref-self r = λ i. eq-eqb r.table r.table refl i && eq-eqb r.column r.column refl i

-- whether a column is there, and is one of those that a query names
abbrev pub is_named : Scope → Query → ColumnRef → Bool
is_named scope query r = list_any (same_ref r) (named_refs query) && is_ref scope r

-- items and groups name such columns
pub all-named : (scope : Scope) (query : Query) → HasShape scope query
    → (list_all (λ i. list_all (is_named scope query) (item_refs i)) query.items ≡ true) × (list_all (is_named scope query) query.groups ≡ true)
all-named scope query shape =
    let named : ColumnRef → Bool = is_named scope query in
    let all : list_all named (flat_map item_refs query.items ++ query.groups) ≡ true =
    all_both (λ r. list_any (same_ref r) (named_refs query)) (is_ref scope) (named_refs query) (all-self same_ref (λ (r : ColumnRef). r) same_ref-self (named_refs query)) (refs-there scope query shape) in
    let b = both (list_all named (flat_map item_refs query.items)) (list_all named query.groups) (sym (list_all-append named (flat_map item_refs query.items) query.groups) ∙ all) in
    (sym (all-flat_map named item_refs query.items) ∙ b.0, b.1)
