-- What a query sums of a row that fits is good whole numbers.
use Rattle.std.proofs.Common.{◌≡◌, ◌==◌, Bool, true, false, ◌&&◌, length, slice_get, slice_index_or, Option, Some, None, refl, sym, ap, ◌∙◌, true≢false}
use Rattle.std.specs.Prelude.{pos}
use Rattle.std.specs.List.{list_all, zip}
use Rattle.std.specs.Option.{option_and_then, option_map_or}
use Rattle.std.proofs.lemmas.Bool.{eqb-true}
use Rattle.std.proofs.lemmas.Option.{slice_get_within}
use Rattle.blink_base.specs.declared.schema.Column.{Column}
use Rattle.blink_base.specs.declared.value.Kind.{Kind}
use Rattle.blink_base.specs.declared.value.Kind.TheVariants as kind
use Rattle.blink_base.specs.declared.value.Value.{Value}
use Rattle.blink_base.specs.declared.value.Value.TheVariants.{Int, Text, Date}
use Rattle.blink_base.specs.RowFits.{is_good, is_entry, fits}
use Rattle.blink_base.specs.Values.{Row, same_kind}
use Rattle.blink_lists.proofs.BoolLemmas.{all_both}
use Rattle.blink_lists.proofs.GroupLemmas.{both, all-imply}
use Rattle.star_meaning.specs.Names.{Scope, FromEntry}
use Rattle.star_bind.specs.declared.query.ColumnRef.{ColumnRef}
use Rattle.star_bind.specs.declared.query.BoundExpr.{BoundExpr}
use Rattle.star_bind.specs.declared.query.BoundExpr.TheVariants.{One, Times, Plus, Minus}
use Rattle.star_bind.specs.declared.query.BoundItem.{BoundItem}
use Rattle.star_bind.specs.declared.query.BoundItem.TheVariants.{Column as Bare, Count, Sum, Average, Least, Greatest}
use Rattle.star_bind.specs.declared.query.Query.{Query}
use Rattle.star_bind.specs.QueryShape.{is_number_ref, is_number_expr, is_item, HasShape}
use Rattle.code_group.specs.Plans.{is_good_number}
use Rattle.star_select.specs.Picks.{expr_refs, item_refs}
use Rattle.star_select.proofs.ListLemmas.{some-same, zip-place, all-place}
use Rattle.star_select.proofs.NamedColumnLemmas.{is_named, all-named}
use Rattle.star_select.proofs.PlanLemmas.{summed_refs}

number-good : (k : Kind) (v : Value) → is_entry k v ≡ true → same_kind k kind.Int ≡ true → is_good_number v ≡ true
number-good k (Int n) h e = (both (is_good (Int n)) (same_kind k kind.Int) h).0
number-good k (Text t) h e = absurd (other k (both (is_good (Text t)) (same_kind k kind.Text) h).1 e)
  where
    other : (k : Kind) → same_kind k kind.Text ≡ true → same_kind k kind.Int ≡ true → ⊥
    other kind.Int a b = true≢false (sym a)
    other kind.Text a b = true≢false (sym b)
    other kind.Date a b = true≢false (sym a)
number-good k (Date d) h e = absurd (other k (both (is_good (Date d)) (same_kind k kind.Date) h).1 e)
  where
    other : (k : Kind) → same_kind k kind.Date ≡ true → same_kind k kind.Int ≡ true → ⊥
    other kind.Int a b = true≢false (sym a)
    other kind.Text a b = true≢false (sym a)
    other kind.Date a b = true≢false (sym b)

-- the value of a row that fits, in a column of whole numbers
pub value-good : (scope : Scope) (r : ColumnRef) (entry : FromEntry) (row : Row) → is_number_ref scope r ≡ true → slice_get scope r.table ≡ Some entry → fits entry.schema row ≡ true
    → is_good_number (slice_index_or row r.column (Int (pos 0))) ≡ true
value-good scope r entry row h here fit =
    let b = both (length row == length entry.schema.columns) (list_all (λ p. is_entry p.0.kind p.1) (zip entry.schema.columns row)) fit in
    by (slice_get entry.schema.columns r.column) refl (sym (ap (λ (o : Option FromEntry). option_map_or (λ c. same_kind c.kind kind.Int) (option_and_then (λ e. slice_get e.schema.columns r.column) o) false) here) ∙ h)
    (eqb-true (length row) (length entry.schema.columns) b.0) b.1
  where
    by : (o : Option Column) → slice_get entry.schema.columns r.column ≡ o → option_map_or (λ c. same_kind c.kind kind.Int) o false ≡ true → length row ≡ length entry.schema.columns
        → list_all (λ p. is_entry p.0.kind p.1) (zip entry.schema.columns row) ≡ true → is_good_number (slice_index_or row r.column (Int (pos 0))) ≡ true
    by None e k long all = absurd (true≢false (sym k))
    by (Some c) e k long all =
        let (d, pair, at) = zip-place (Int (pos 0)) entry.schema.columns row r.column long (slice_get_within entry.schema.columns r.column c e) in
        number-good d.kind (slice_index_or row r.column (Int (pos 0))) (all-place (λ p. is_entry p.0.kind p.1) (zip entry.schema.columns row) r.column (d, slice_index_or row r.column (Int (pos 0))) all pair)
        (ap (λ (x : Column). same_kind x.kind kind.Int) (some-same d c (sym at ∙ e)) ∙ k)

-- ---- the columns that are summed

expr-numbers : (scope : Scope) (e : BoundExpr) → is_number_expr scope e ≡ true → list_all (is_number_ref scope) (expr_refs e) ≡ true
expr-numbers scope (One a) h = λ i. h i && true
expr-numbers scope (Times a b) h = let k = both (is_number_ref scope a) (is_number_ref scope b) h in λ i. k.0 i && (k.1 i && true)
expr-numbers scope (Plus a b) h = let k = both (is_number_ref scope a) (is_number_ref scope b) h in λ i. k.0 i && (k.1 i && true)
expr-numbers scope (Minus a b) h = let k = both (is_number_ref scope a) (is_number_ref scope b) h in λ i. k.0 i && (k.1 i && true)

item-numbers : (scope : Scope) (i : BoundItem) → is_item scope i ≡ true → list_all (is_number_ref scope) (summed_refs i) ≡ true
item-numbers scope (Bare r) h = refl
item-numbers scope Count h = refl
item-numbers scope (Sum e) h = expr-numbers scope e h
item-numbers scope (Average e) h = expr-numbers scope e h
item-numbers scope (Least r) h = refl
item-numbers scope (Greatest r) h = refl

item-summed : (named : ColumnRef → Bool) (i : BoundItem) → list_all named (item_refs i) ≡ true → list_all named (summed_refs i) ≡ true
item-summed named (Bare r) h = refl
item-summed named Count h = refl
item-summed named (Sum e) h = h
item-summed named (Average e) h = h
item-summed named (Least r) h = refl
item-summed named (Greatest r) h = refl

-- whether a column is named, and is one of whole numbers
abbrev pub is_summed : Scope → Query → ColumnRef → Bool
is_summed scope query r = is_named scope query r && is_number_ref scope r

pub all-summed : (scope : Scope) (query : Query) → HasShape scope query → list_all (λ i. list_all (is_summed scope query) (summed_refs i)) query.items ≡ true
all-summed scope query shape =
    all-imply (λ i. list_all (is_named scope query) (item_refs i) && is_item scope i) (λ i. list_all (is_summed scope query) (summed_refs i))
    (λ i h.
    let b = both (list_all (is_named scope query) (item_refs i)) (is_item scope i) h in
    all_both (is_named scope query) (is_number_ref scope) (summed_refs i) (item-summed (is_named scope query) i b.0) (item-numbers scope i b.1))
    query.items (all_both (λ i. list_all (is_named scope query) (item_refs i)) (is_item scope) query.items (all-named scope query shape).0 shape.items)
