-- The answer to a query that is accepted is that of the query that it is.
use Rattle.std.proofs.Common.{◌≡◌, ◌<◌, ℕ, Bool, true, false, ◌&&◌, ◌||◌, List, [], ◌∷◌, ◌++◌, map, flat_map, length, nat_lt, Option, Some, None, option_map, ℤ, pos, ◌+ℤ◌, ◌-ℤ◌, ◌*ℤ◌, refl, sym, ap, ◌∙◌, true≢false, arith}
use Rattle.std.specs.Prelude.{unwrap_or}
use Rattle.std.specs.List.{list_all, list_any}
use Rattle.std.specs.Option.{option_map_or, is_some}
use Rattle.std.proofs.lemmas.Bool.{and_parts, lt-ltb}
use Rattle.std.proofs.lemmas.List.Folds.{list_all-append}
use Rattle.blink_base.specs.declared.answer.Answer.{Answer}
use Rattle.blink_base.specs.declared.answer.Field.{Field}
use Rattle.blink_base.specs.declared.answer.Field.TheVariants as field
use Rattle.blink_base.specs.declared.value.Value.{Value}
use Rattle.blink_base.specs.declared.value.Value.TheVariants as value
use Rattle.blink_base.specs.Values.{Row, number_in}
use Rattle.blink_base.specs.Lines.{LineKey, least_field, greatest_field, sum_field, average_field, printed_lines}
use Rattle.star_sql.specs.declared.ast.ColumnName.{ColumnName}
use Rattle.star_sql.specs.declared.ast.Expr.{Expr}
use Rattle.star_sql.specs.declared.ast.Expr.TheVariants.{One, Times, Plus, Minus}
use Rattle.star_sql.specs.declared.ast.What.{What}
use Rattle.star_sql.specs.declared.ast.What.TheVariants.{Column, Count, Sum, Avg, Min, Max}
use Rattle.star_sql.specs.declared.ast.Item.{Item}
use Rattle.star_sql.specs.declared.ast.Select.{Select}
use Rattle.star_meaning.specs.Names.{Scope, ColumnPlace, Combination, place_of, value_at}
use Rattle.star_meaning.specs.NameRefusals.{expr_names, item_names, cond_names, names_in}
use Rattle.star_meaning.specs.Truth.{kept}
use Rattle.star_meaning.specs.Groups.{value_of, number_at, item_value, is_aggregate, has_aggregate, key_of, groups_by, line_groups, groups}
use Rattle.star_meaning.specs.Answer.{line_keys, line_of, printed_names, answer, lines}
use Rattle.star_bind.specs.declared.query.ColumnRef.{ColumnRef}
use Rattle.star_bind.specs.declared.query.BoundOrder.{BoundOrder}
use Rattle.star_bind.specs.BoundAnswer.{ref_value, bound_number, bound_value, is_total, bound_key, bound_groups, bound_line, bound_answer, AnswersAsBound}
use Rattle.star_bind.specs.BoundQuery.{Schemas, scope_of, ref_of, meant, bound_expr_of, bound_item_of, query_in, query_of, first_refusal}
use Rattle.star_bind.specs.GroupRule.{has_groups}
use Rattle.star_bind.specs.StarForm.{fact_of}
use Rattle.star_bind.proofs.AcceptanceLemmas.{accepted, scope_accepted}

-- whether a name means a column
abbrev pub is_known : Scope → ColumnName → Bool
is_known scope c = is_some (place_of scope c)

meant-value : (scope : Scope) (c : ColumnName) → is_known scope c ≡ true → ref_value (meant scope c) ≡ value_of scope c
meant-value scope c known = λ i rows. by (place_of scope c) known rows i
  where
    by : (o : Option ColumnPlace) → is_some o ≡ true → (rows : Combination) → ref_value (unwrap_or (option_map ref_of o) (record { table = 0; column = 0 })) rows ≡ option_map_or (value_at rows) o (value.Int (pos 0))
    by None e rows = absurd (true≢false (sym e))
    by (Some p) e rows = refl

two-known : (scope : Scope) (a b : ColumnName) → list_all (is_known scope) (a ∷ b ∷ []) ≡ true → (is_known scope a ≡ true) × (is_known scope b ≡ true)
two-known scope a b e = let p = and_parts (is_known scope a) (is_known scope b && true) e in (p.0, (and_parts (is_known scope b) true p.1).0)

meant-number : (scope : Scope) (e : Expr) → list_all (is_known scope) (expr_names e) ≡ true → bound_number (bound_expr_of scope e) ≡ number_at scope e
meant-number scope (One a) h = λ i rows. number_in (meant-value scope a (and_parts (is_known scope a) true h).0 i rows)
meant-number scope (Times a b) h = let p = two-known scope a b h in λ i rows. number_in (meant-value scope a p.0 i rows) *ℤ number_in (meant-value scope b p.1 i rows)
meant-number scope (Plus a b) h = let p = two-known scope a b h in λ i rows. number_in (meant-value scope a p.0 i rows) +ℤ number_in (meant-value scope b p.1 i rows)
meant-number scope (Minus a b) h = let p = two-known scope a b h in λ i rows. number_in (meant-value scope a p.0 i rows) -ℤ number_in (meant-value scope b p.1 i rows)

item-same : (scope : Scope) (w : What) (group : List Combination) → list_all (is_known scope) (item_names w) ≡ true → bound_value (bound_item_of scope w) group ≡ item_value scope w group
item-same scope (Column c) group h = λ i. least_field (map (meant-value scope c (and_parts (is_known scope c) true h).0 i) group)
item-same scope Count group h = refl
item-same scope (Sum e) group h = λ i. sum_field (map (meant-number scope e h i) group)
item-same scope (Avg e) group h = λ i. average_field (map (meant-number scope e h i) group)
item-same scope (Min c) group h = λ i. least_field (map (meant-value scope c (and_parts (is_known scope c) true h).0 i) group)
item-same scope (Max c) group h = λ i. greatest_field (map (meant-value scope c (and_parts (is_known scope c) true h).0 i) group)

line-same : (scope : Scope) (items : List Item) (group : List Combination) → list_all (is_known scope) (flat_map (λ i. item_names i.what) items) ≡ true
    → bound_line (map (λ i. bound_item_of scope i.what) items) group ≡ line_of scope items group
line-same scope [] group h = refl
line-same scope (item ∷ items) group h =
    let p = and_parts (list_all (is_known scope) (item_names item.what)) (list_all (is_known scope) (flat_map (λ i. item_names i.what) items))
    (sym (list_all-append (is_known scope) (item_names item.what) (flat_map (λ i. item_names i.what) items)) ∙ h) in
    λ i. item-same scope item.what group p.0 i ∷ line-same scope items group p.1 i

key-same : (scope : Scope) (columns : List ColumnName) (rows : Combination) → list_all (is_known scope) columns ≡ true → bound_key (map (meant scope) columns) rows ≡ key_of scope columns rows
key-same scope [] rows h = refl
key-same scope (c ∷ columns) rows h =
    let p = and_parts (is_known scope c) (list_all (is_known scope) columns) h in
    λ i. meant-value scope c p.0 i rows ∷ key-same scope columns rows p.1 i

total-same : (scope : Scope) (items : List Item) → list_any is_total (map (λ i. bound_item_of scope i.what) items) ≡ has_aggregate items
total-same scope [] = refl
total-same scope (item ∷ items) = λ i. one item.what i || total-same scope items i
  where
    one : (w : What) → is_total (bound_item_of scope w) ≡ is_aggregate w
    one (Column c) = refl
    one Count = refl
    one (Sum e) = refl
    one (Avg e) = refl
    one (Min c) = refl
    one (Max c) = refl

groups-same : (scope : Scope) (columns : List ColumnName) (aggregate : Bool) (rows : List Combination) → list_all (is_known scope) columns ≡ true
    → bound_groups (nat_lt 0 (length columns)) aggregate (map (meant scope) columns) rows ≡ line_groups scope columns aggregate rows
groups-same scope [] true rows h = refl
groups-same scope [] false rows h = refl
groups-same scope (c ∷ columns) aggregate rows h =
    ap (λ (b : Bool). bound_groups b aggregate (map (meant scope) (c ∷ columns)) rows) (lt-ltb 0 (length (c ∷ columns)) (omega arith))
    ∙ λ i. groups_by (λ r. key-same scope (c ∷ columns) r h i) rows

keys-same : (keys : List LineKey) → map (λ (o : BoundOrder). record { item = o.item; falling = o.falling }) (map (λ (key : LineKey). record { item = key.item; falling = key.falling }) keys) ≡ keys
keys-same [] = refl
keys-same (key ∷ keys) = ap (λ ks. key ∷ ks) (keys-same keys)

lines-same : (scope : Scope) (s : Select) (gs : List (List Combination)) → list_all (is_known scope) (flat_map (λ i. item_names i.what) s.items) ≡ true
    → map (bound_line (map (λ i. bound_item_of scope i.what) s.items)) gs ≡ map (line_of scope s.items) gs
lines-same scope s [] h = refl
lines-same scope s (g ∷ gs) h = λ i. line-same scope s.items g h i ∷ lines-same scope s gs h i

answer-same : (scope : Scope) (s : Select) (fact : ℕ) (tables : List (List Row)) → list_all (is_known scope) (names_in s) ≡ true
    → answer scope s tables ≡ bound_answer (query_in scope s fact) (kept scope s.condition tables)
unfolding answer lines bound_answer
answer-same scope s fact tables known =
    let front = flat_map (λ i. item_names i.what) s.items in
    let a = and_parts (list_all (is_known scope) (front ++ cond_names s.condition)) (list_all (is_known scope) s.groups) (sym (list_all-append (is_known scope) (front ++ cond_names s.condition) s.groups) ∙ known) in
    let b = and_parts (list_all (is_known scope) front) (list_all (is_known scope) (cond_names s.condition)) (sym (list_all-append (is_known scope) front (cond_names s.condition)) ∙ a.0) in
    let rows = kept scope s.condition tables in
    let gs = ap (λ (t : Bool). bound_groups (has_groups s) t (map (meant scope) s.groups) rows) (total-same scope s.items) ∙ groups-same scope s.groups (has_aggregate s.items) rows a.1 in
    λ i. record {
      names = printed_names s;
      lines = printed_lines (sym (keys-same (line_keys scope s)) i) s.limit
          ((sym (lines-same scope s (groups scope s rows) b.0) ∙ ap (map (bound_line (map (λ i. bound_item_of scope i.what) s.items))) (sym gs)) i);
    }

pub answers_as_bound : AnswersAsBound
unfolding query_of
answers_as_bound schemas s tables free =
    let found = accepted (scope_of schemas s) s (scope_accepted schemas s free).1 in
    answer-same (scope_of schemas s) s (unwrap_or (fact_of (scope_of schemas s) s) 0) tables found.1.known
