-- The parts of a query that is accepted are in range of its tables, and its conditions are few.
use Rattle.std.proofs.Common.{◌≡◌, ◌<◌, ◌≤◌, ◌+◌, ◌==◌, ℕ, zero, suc, Bool, true, false, not, ◌&&◌, ◌||◌, List, [], ◌∷◌, ◌++◌, map, filter, flat_map, filter_map, length, nat_lt, slice_get, position, Option, Some, None, option_map, cond, refl, sym, ap, ◌∙◌, subst, true≢false, arith}
use Rattle.std.specs.Prelude.{nat_le, unwrap_or}
use Rattle.std.specs.List.{list_all, list_any, zip, cons_option, position_or_len}
use Rattle.std.specs.Option.{option_map_or, option_or, is_some, option_and_then}
use Rattle.std.specs.Str.{bytes_eq}
use Rattle.std.proofs.lemmas.Bool.{and_parts, eqb-true, lt-ltb, ltb-true, ltb-false, le-leb}
use Rattle.std.proofs.lemmas.List.{length-map}
use Rattle.std.proofs.lemmas.List.Folds.{list_all-append, list_all-map}
use Rattle.blink_base.specs.declared.refusal.Refusal.TheVariants as refusal
use Rattle.blink_base.specs.Identifiers.{is_name}
use Rattle.blink_base.specs.Lines.{LineKey}
use Rattle.blink_base.specs.declared.schema.Column.{Column}
use Rattle.blink_base.specs.declared.tree.Tree.{Tree, All}
use Rattle.blink_base.specs.declared.value.Kind.{Kind}
use Rattle.blink_base.specs.declared.value.Kind.TheVariants as kind
use Rattle.blink_base.specs.Values.{same_kind}
use Rattle.blink_lists.specs.Lists.{joined, numbered, numbered_from, once_each, are_distinct, choices}
use Rattle.blink_lists.proofs.AllLemmas.{numbers_same}
use Rattle.blink_lists.proofs.BoolLemmas.{all_both}
use Rattle.blink_lists.proofs.GroupLemmas.{and_both, not_true, neither, once_each-distinct}
use Rattle.blink_lists.proofs.NumberLemmas.{length-numbered}
use Rattle.star_sql.specs.declared.ast.ColumnName.{ColumnName}
use Rattle.star_sql.specs.declared.ast.Expr.{Expr}
use Rattle.star_sql.specs.declared.ast.Expr.TheVariants.{One, Times, Plus, Minus}
use Rattle.star_sql.specs.declared.ast.What.{What}
use Rattle.star_sql.specs.declared.ast.What.TheVariants.{Column as Bare, Count, Sum, Avg, Min, Max}
use Rattle.star_sql.specs.declared.ast.Item.{Item}
use Rattle.star_sql.specs.declared.ast.OrderKey.{OrderKey}
use Rattle.star_sql.specs.declared.ast.Cond.{Cond}
use Rattle.star_sql.specs.declared.ast.Primary.{Primary}
use Rattle.star_sql.specs.declared.ast.Select.{Select}
use Rattle.star_sql.specs.declared.ast.TestWords.{TestWords}
use Rattle.star_sql.specs.declared.ast.TestWords.TheVariants.{Compare, Columns, Between, Among, Like}
use Rattle.star_sql.specs.Literals.{column_of}
use Rattle.star_sql.specs.WellFormed.{is_condition, some_and_all, if_there, is_item as is_written_item, is_column_name, is_order_key, is_written_limit, is_select}
use Rattle.star_meaning.specs.Names.{Scope, FromEntry, ColumnPlace, is_meant, place_if, places_in, places, place_of, column_at, kind_at}
use Rattle.star_meaning.specs.NameRefusals.{expr_names, item_names, test_names, cond_names, names_in, name_refusal}
use Rattle.star_meaning.specs.Answer.{called_item, column_item, item_meant, item_place, is_called, is_place, is_falling, line_keys, printed_names}
use Rattle.star_bind.specs.declared.limits.TheConstants.{MOST_CONJUNCTIONS}
use Rattle.star_bind.specs.declared.query.BoundOrder.{BoundOrder}
use Rattle.star_bind.specs.declared.query.ColumnRef.{ColumnRef}
use Rattle.star_bind.specs.declared.query.ColumnTest.{ColumnTest}
use Rattle.star_bind.specs.declared.query.Conjunction.{Conjunction}
use Rattle.star_bind.specs.declared.query.Tie.{Tie}
use Rattle.star_bind.specs.BoundQuery.{scope_of, refused_if, scope_refusal, ref_of, meant, bound_expr_of, bound_item_of, is_wide, query_of}
use Rattle.star_bind.specs.Checks.{where_tests}
use Rattle.star_bind.specs.GroupRule.{is_grouped}
use Rattle.star_bind.specs.Conjunctions.{Tests, Subtree, columns_of, subtree, anded, merged, and_of, factor_subtree, filters_of, table_conjunctions}
use Rattle.star_bind.specs.Factors.{factors, tests_in}
use Rattle.star_bind.specs.QueryShape.{column_count, is_ref, is_number_ref, is_number_expr, is_item, is_tie, is_conjunction, is_condition_on, QueriesHaveShape}
use Rattle.star_bind.specs.StarForm.{is_pair_factor, is_filter, tables_in, ties_in, fact_of, is_star}
use Rattle.star_bind.specs.WrongKind.{kinds_differ, is_no_number, is_wrong_expr, is_wrong_item, is_wrong_test, is_wrong_condition, has_wrong_kind}
use Rattle.star_bind.proofs.AcceptanceLemmas.{accepted, scope_accepted}
use Rattle.star_bind.proofs.BoundAnswerLemmas.{is_known}
use Rattle.star_bind.proofs.ConjunctionLemmas.{no_first, not_refused, all-kept}
use Rattle.star_bind.proofs.CountLemmas.{conjunctions_counted}
use Rattle.star_bind.proofs.LiteralLemmas.{wrong_tests}
use Rattle.star_bind.proofs.NameLemmas.{where_names}
use Rattle.star_bind.proofs.PlaceLemmas.{IsRead, ties-parts}
use Rattle.star_bind.proofs.PositiveCountLemmas.{has_one, is_formed, passes_formed, is_right, filter-some, count-some, cond-factors}
use Rattle.star_bind.proofs.TableLemmas.{conjunctions_named}
use Rattle.star_bind.proofs.TableNameLemmas.{only-of}
use Rattle.star_bind.proofs.TieLemmas.{Each, each-append}

-- ---- names mean columns that are there

-- a place is of a column that is there
abbrev pub IsThere : Scope → ColumnPlace → Type 0
IsThere scope p = is_some (column_at scope p) ≡ true

get-there : {X : Type 0} (xs : List X) (k : ℕ) → k < length xs → is_some (slice_get xs k) ≡ true
get-there [] k l = absurd (omega (arith, l))
get-there (x ∷ xs) zero l = refl
get-there (x ∷ xs) (suc k) l = get-there xs k (omega (arith, l))

columns-there : (scope : Scope) (c : ColumnName) (t : ℕ) (entry : FromEntry) (n from : ℕ) (columns : List Column) → slice_get scope t ≡ Some entry → n ≡ length entry.schema.columns → from + length columns ≡ n
    → Each (IsThere scope) (filter_map (λ at. place_if (is_meant c.table entry && bytes_eq c.column at.1.name) t at.0) (numbered_from from columns))
columns-there scope c t entry n from [] here long l = tt
columns-there scope c t entry n from (column ∷ columns) here long l = by (is_meant c.table entry && bytes_eq c.column column.name) (columns-there scope c t entry n (from + 1) columns here long (omega (arith, l)))
  where
    by : (b : Bool) → Each (IsThere scope) (filter_map (λ at. place_if (is_meant c.table entry && bytes_eq c.column at.1.name) t at.0) (numbered_from (from + 1) columns))
        → Each (IsThere scope) (cons_option (place_if b t from) (filter_map (λ at. place_if (is_meant c.table entry && bytes_eq c.column at.1.name) t at.0) (numbered_from (from + 1) columns)))
    by true more =
        (ap (λ (o : Option FromEntry). is_some (option_and_then (λ e. slice_get e.schema.columns from) o)) here ∙ get-there entry.schema.columns from (omega (arith, l, long)), more)
    by false more = more

places-there : (scope : Scope) (c : ColumnName) (from : ℕ) (es : Scope) → ((j : ℕ) → slice_get scope (from + j) ≡ slice_get es j) → Each (IsThere scope) (joined (map (places_in c) (numbered_from from es)))
places-there scope c from [] at = tt
places-there scope c from (e ∷ es) at =
    let here : from + 0 ≡ from = omega arith in
    each-append (IsThere scope) (places_in c (from, e)) (joined (map (places_in c) (numbered_from (from + 1) es)))
    (columns-there scope c from e (length e.schema.columns) 0 e.schema.columns (sym (ap (slice_get scope) here) ∙ at 0) refl (omega arith))
    (places-there scope c (from + 1) es (λ j. (let i : from + 1 + j ≡ from + suc j = omega arith in ap (slice_get scope) i) ∙ at (suc j)))

pub place-there : (scope : Scope) (c : ColumnName) (p : ColumnPlace) → place_of scope c ≡ Some p → IsThere scope p
place-there scope c p e = only-of (IsThere scope) (places scope c) p (places-there scope c 0 scope (λ j. (let i : 0 + j ≡ j = omega arith in ap (slice_get scope) i))) e

ref-there : (scope : Scope) (c : ColumnName) → is_known scope c ≡ true → is_ref scope (meant scope c) ≡ true
ref-there scope c known = by (place_of scope c) refl known
  where
    by : (o : Option ColumnPlace) → place_of scope c ≡ o → is_some o ≡ true → is_ref scope (unwrap_or (option_map ref_of o) (record { table = 0; column = 0 })) ≡ true
    by None e k = absurd (true≢false (sym k))
    by (Some p) e k = place-there scope c p e

-- ---- items

not-not : (b : Bool) → not b ≡ false → b ≡ true
not-not true e = refl
not-not false e = absurd (true≢false e)

number-there : (scope : Scope) (c : ColumnName) → is_known scope c ≡ true → is_no_number scope c ≡ false → is_number_ref scope (meant scope c) ≡ true
number-there scope c known right = by (place_of scope c) refl known right
  where
    at : (o : Option Column) → is_some o ≡ true → same_kind (option_map_or (λ c. c.kind) o kind.Int) kind.Int ≡ true → option_map_or (λ c. same_kind c.kind kind.Int) o false ≡ true
    at None s k = absurd (true≢false (sym s))
    at (Some column) s k = k

    by : (o : Option ColumnPlace) → place_of scope c ≡ o → is_some o ≡ true → kinds_differ (option_map_or (λ p. Some (kind_at scope p)) o None) (Some kind.Int) ≡ false
        → is_number_ref scope (unwrap_or (option_map ref_of o) (record { table = 0; column = 0 })) ≡ true
    by None e k w = absurd (true≢false (sym k))
    by (Some p) e k w = at (column_at scope p) (place-there scope c p e) (not-not (same_kind (kind_at scope p) kind.Int) w)

two-numbers : (scope : Scope) (a b : ColumnName) → list_all (is_known scope) (a ∷ b ∷ []) ≡ true → (is_no_number scope a || is_no_number scope b) ≡ false → (is_number_ref scope (meant scope a) && is_number_ref scope (meant scope b)) ≡ true
two-numbers scope a b k w =
    let p = and_parts (is_known scope a) (is_known scope b && true) k in
    let q = neither (is_no_number scope a) (is_no_number scope b) w in
    and_both (is_number_ref scope (meant scope a)) (is_number_ref scope (meant scope b)) (number-there scope a p.0 q.0) (number-there scope b (and_parts (is_known scope b) true p.1).0 q.1)

expr-numbers : (scope : Scope) (e : Expr) → list_all (is_known scope) (expr_names e) ≡ true → is_wrong_expr scope e ≡ false → is_number_expr scope (bound_expr_of scope e) ≡ true
expr-numbers scope (One a) k w = number-there scope a (and_parts (is_known scope a) true k).0 w
expr-numbers scope (Times a b) k w = two-numbers scope a b k w
expr-numbers scope (Plus a b) k w = two-numbers scope a b k w
expr-numbers scope (Minus a b) k w = two-numbers scope a b k w

item-there : (scope : Scope) (w : What) → list_all (is_known scope) (item_names w) ≡ true → is_wrong_item scope w ≡ false → is_item scope (bound_item_of scope w) ≡ true
item-there scope (Bare c) k h = ref-there scope c (and_parts (is_known scope c) true k).0
item-there scope Count k h = refl
item-there scope (Sum e) k h = expr-numbers scope e k h
item-there scope (Avg e) k h = expr-numbers scope e k h
item-there scope (Min c) k h = ref-there scope c (and_parts (is_known scope c) true k).0
item-there scope (Max c) k h = ref-there scope c (and_parts (is_known scope c) true k).0

pub items-there : (scope : Scope) (items : List Item) → list_all (is_known scope) (flat_map (λ i. item_names i.what) items) ≡ true → list_any (λ i. is_wrong_item scope i.what) items ≡ false
    → list_all (is_item scope) (map (λ i. bound_item_of scope i.what) items) ≡ true
items-there scope [] k w = refl
items-there scope (item ∷ items) k w =
    let a = and_parts (list_all (is_known scope) (item_names item.what)) (list_all (is_known scope) (flat_map (λ i. item_names i.what) items))
    (sym (list_all-append (is_known scope) (item_names item.what) (flat_map (λ i. item_names i.what) items)) ∙ k) in
    let b = neither (is_wrong_item scope item.what) (list_any (λ i. is_wrong_item scope i.what) items) w in
    and_both (is_item scope (bound_item_of scope item.what)) (list_all (is_item scope) (map (λ i. bound_item_of scope i.what) items)) (item-there scope item.what a.0 b.0) (items-there scope items a.1 b.1)

pub groups-there : (scope : Scope) (columns : List ColumnName) → list_all (is_known scope) columns ≡ true → list_all (is_ref scope) (map (meant scope) columns) ≡ true
groups-there scope [] k = refl
groups-there scope (c ∷ columns) k =
    let a = and_parts (is_known scope c) (list_all (is_known scope) columns) k in
    and_both (is_ref scope (meant scope c)) (list_all (is_ref scope) (map (meant scope) columns)) (ref-there scope c a.0) (groups-there scope columns a.1)

-- ---- ties

column-below : (scope : Scope) (p : ColumnPlace) → IsThere scope p → nat_lt p.column (column_count scope p.table) ≡ true
column-below scope p there = by (slice_get scope p.table) there
  where
    got : {X : Type 0} (xs : List X) (k : ℕ) → is_some (slice_get xs k) ≡ true → k < length xs
    got [] k e = absurd (true≢false (sym e))
    got (x ∷ xs) zero e = omega arith
    got (x ∷ xs) (suc k) e = let h = got xs k e in omega (arith, h)

    by : (o : Option FromEntry) → is_some (option_and_then (λ entry. slice_get entry.schema.columns p.column) o) ≡ true → nat_lt p.column (option_map_or (λ entry. length entry.schema.columns) o 0) ≡ true
    by None e = absurd (true≢false (sym e))
    by (Some entry) e = lt-ltb p.column (length entry.schema.columns) (got entry.schema.columns p.column e)

key-there : (o : Option FromEntry) (column : ℕ) → option_map_or (λ entry. option_map_or (λ k. k == column) entry.schema.key false) o false ≡ true → option_map_or (λ entry. is_some entry.schema.key) o false ≡ true
key-there None column e = absurd (true≢false (sym e))
key-there (Some entry) column e = by entry.schema.key e
  where
    by : (o : Option ℕ) → option_map_or (λ k. k == column) o false ≡ true → is_some o ≡ true
    by None f = absurd (true≢false (sym f))
    by (Some k) f = refl

module _ (scope : Scope) (fact : ℕ) where
  tie-there : (t : Tie) → IsRead scope fact (IsThere scope) (λ c p e. place-there scope c p e) t → is_tie scope fact t ≡ true
  tie-there t h =
      subst (λ (x : Tie). is_tie scope fact x ≡ true) (sym h.is)
      (and_both (nat_lt h.own.column (column_count scope fact) && not (h.other.table == fact)) (option_map_or (λ entry. is_some entry.schema.key) (slice_get scope h.other.table) false)
      (and_both (nat_lt h.own.column (column_count scope fact)) (not (h.other.table == fact)) (subst (λ k. nat_lt h.own.column (column_count scope k) ≡ true) h.of_fact (column-below scope h.own h.own_named)) h.away)
      (key-there (slice_get scope h.other.table) h.other.column h.key))

  all-ties : (ts : List Tie) → Each (IsRead scope fact (IsThere scope) (λ c p e. place-there scope c p e)) ts → list_all (is_tie scope fact) ts ≡ true
  all-ties [] h = refl
  all-ties (t ∷ ts) h = and_both (is_tie scope fact t) (list_all (is_tie scope fact) ts) (tie-there t h.0) (all-ties ts h.1)

  pub ties-there : (fs : List Primary) → list_all (is_tie scope fact) (joined (map (ties_in scope fact) fs)) ≡ true
  ties-there fs = all-ties (joined (map (ties_in scope fact) fs)) (ties-parts scope fact (IsThere scope) (λ c p e. place-there scope c p e) fs)

-- ---- keys of the order

position-within : {X : Type 0} (p : X → Bool) (xs : List X) (k : ℕ) → position p xs ≡ Some k → k < length xs
position-within p xs k e = by (nat_lt (position_or_len p xs) (length xs)) refl e
  where
    some : Option ℕ → ℕ
    some None = k
    some (Some j) = j

    by : (b : Bool) → nat_lt (position_or_len p xs) (length xs) ≡ b → cond b (Some (position_or_len p xs)) None ≡ Some k → k < length xs
    by true f g = let same : position_or_len p xs ≡ k = ap some g in let lt = ltb-true (position_or_len p xs) (length xs) f in omega (arith, same, lt)
    by false f g = absurd (true≢false (ap is_some (sym g)))

meant-within : (scope : Scope) (items : List Item) (c : ColumnName) (k : ℕ) → item_meant scope items c ≡ Some k → k < length items
meant-within scope items c k e = by c.table (called_item items c) refl refl e
  where
    called : (o : Option (List ℕ)) → c.table ≡ o → (j : ℕ) → called_item items c ≡ Some j → j < length items
    called None f j g = position-within (is_called c.column) items j (sym (ap (λ (t : Option (List ℕ)). called_item items (record { table = t; column = c.column })) f) ∙ g)
    called (Some t) f j g = absurd (true≢false (sym (ap is_some (sym (ap (λ (t : Option (List ℕ)). called_item items (record { table = t; column = c.column })) f) ∙ g))))

    column : (o : Option ColumnPlace) → option_map_or (λ p. position (λ i. is_place p (item_place scope i)) items) o None ≡ Some k → k < length items
    column None g = absurd (true≢false (ap is_some (sym g)))
    column (Some p) g = position-within (λ i. is_place p (item_place scope i)) items k g

    by : (t : Option (List ℕ)) (o : Option ℕ) → c.table ≡ t → called_item items c ≡ o → option_or o (column_item scope items c) ≡ Some k → k < length items
    by t None f g h = column (place_of scope c) h
    by t (Some j) f g h = called t f k (g ∙ h)

pub order-within : (scope : Scope) (items : List Item) (n : ℕ) (keys : List OrderKey) → n ≡ length items
    → list_all (λ (o : BoundOrder). nat_lt o.item n) (map (λ (key : LineKey). record { item = key.item; falling = key.falling })
    (filter_map (λ (key : OrderKey). option_map (λ at. record { item = at; falling = is_falling key.way }) (item_meant scope items key.column)) keys)) ≡ true
order-within scope items n [] long = refl
order-within scope items n (key ∷ keys) long = by (item_meant scope items key.column) refl (order-within scope items n keys long)
  where
    rest : List LineKey
    rest = filter_map (λ (key : OrderKey). option_map (λ at. record { item = at; falling = is_falling key.way }) (item_meant scope items key.column)) keys

    by : (o : Option ℕ) → item_meant scope items key.column ≡ o → list_all (λ (o : BoundOrder). nat_lt o.item n) (map (λ (key : LineKey). record { item = key.item; falling = key.falling }) rest) ≡ true
        → list_all (λ (o : BoundOrder). nat_lt o.item n) (map (λ (key : LineKey). record { item = key.item; falling = key.falling }) (cons_option (option_map (λ at. record { item = at; falling = is_falling key.way }) o) rest)) ≡ true
    by None e more = more
    by (Some at) e more =
        let lt = meant-within scope items key.column at e in
        and_both (nat_lt at n) (list_all (λ (o : BoundOrder). nat_lt o.item n) (map (λ (key : LineKey). record { item = key.item; falling = key.falling }) rest)) (lt-ltb at n (omega (arith, lt, long))) more

-- ---- conditions

-- whether no column stands twice in a conjunction
abbrev apart : Tests → Bool
apart tests = are_distinct (λ x y. x == y) (map (λ (t : ColumnTest). t.column) tests)

merged-apart : (tests : Tests) → apart (merged tests) ≡ true
merged-apart tests =
    ap (are_distinct (λ x y. x == y)) (columns (once_each (λ x y. x == y) (map (λ (t : ColumnTest). t.column) tests)))
    ∙ once_each-distinct (λ (x y : ℕ). x == y) numbers_same (map (λ (t : ColumnTest). t.column) tests)
  where
    columns : (ks : List ℕ) → map (λ (t : ColumnTest). t.column) (map (λ k. record { column = k; tree = anded (map (λ (t : ColumnTest). t.tree) (filter (λ (t : ColumnTest). k == t.column) tests)) }) ks) ≡ ks
    columns [] = refl
    columns (k ∷ ks) = ap (λ js. k ∷ js) (columns ks)

subtree-apart : (ks : List ℕ) (tree : Tree) (made : List Tests) → list_all apart made ≡ true → list_all apart (subtree ks tree made).conjunctions ≡ true
subtree-apart [] tree made h = h
subtree-apart (k ∷ []) tree made h = refl
subtree-apart (k ∷ j ∷ ks) tree made h = h

and-apart : (parts : List Subtree) → list_all apart (and_of parts).conjunctions ≡ true
and-apart parts = subtree-apart (columns_of parts) (All (map (λ (p : Subtree). p.tree) parts)) (map (λ (choice : List Tests). merged (joined choice)) (choices (map (λ (p : Subtree). p.conjunctions) parts)))
    (each (choices (map (λ (p : Subtree). p.conjunctions) parts)))
  where
    each : (cs : List (List Tests)) → list_all apart (map (λ (choice : List Tests). merged (joined choice)) cs) ≡ true
    each [] = refl
    each (c ∷ cs) = and_both (apart (merged (joined c))) (list_all apart (map (λ (choice : List Tests). merged (joined choice)) cs)) (merged-apart (joined c)) (each cs)

module _ (scope : Scope) (s : Select) (parted : list_all (λ f. is_pair_factor f || is_filter scope f) (factors s.condition) ≡ true) (right : list_all (passes_formed (is_right scope)) (factors s.condition) ≡ true) where
  filters-some : (table : ℕ) → 0 < length (table_conjunctions scope s table)
  filters-some table =
      let own = all-kept (λ f. passes_formed (is_right scope) f && (is_pair_factor f || is_filter scope f)) (λ f. not (is_pair_factor f) && list_all (λ t. t == table) (tables_in scope f))
      (λ f. is_formed scope f && list_all (has_one scope) (tests_in f))
      (λ f h k.
      let a = and_parts (passes_formed (is_right scope) f) (is_pair_factor f || is_filter scope f) h in
      let b = and_parts (not (is_pair_factor f)) (list_all (λ t. t == table) (tables_in scope f)) k in
      filter-some scope f a.0 a.1 (not_true (is_pair_factor f) b.0))
      (factors s.condition) (all_both (passes_formed (is_right scope)) (λ f. is_pair_factor f || is_filter scope f) (factors s.condition) right parted) in
      subst (λ n. 0 < n) (sym (conjunctions_counted scope s table)) (count-some scope (filters_of scope s table) own)

  table-condition : (table : ℕ) (entry : FromEntry) → slice_get scope table ≡ Some entry → nat_lt MOST_CONJUNCTIONS (length (table_conjunctions scope s table)) ≡ false
      → is_condition_on (length entry.schema.columns) (table_conjunctions scope s table) ≡ true
  table-condition table entry here narrow =
      let cs = table_conjunctions scope s table in
      let n = length entry.schema.columns in
      let made = (and_of (map (factor_subtree scope) (filters_of scope s table))).conjunctions in
      let most = ltb-false MOST_CONJUNCTIONS (length cs) narrow in
      and_both (nat_lt 0 (length cs) && nat_le (length cs) MOST_CONJUNCTIONS) (list_all (is_conjunction n) cs)
      (and_both (nat_lt 0 (length cs)) (nat_le (length cs) MOST_CONJUNCTIONS) (lt-ltb 0 (length cs) (filters-some table)) (le-leb (length cs) MOST_CONJUNCTIONS (omega (arith, most))))
      (all_both (λ (c : Conjunction). list_all (λ (t : ColumnTest). nat_lt t.column n) c.tests) (λ (c : Conjunction). apart c.tests) cs
      (conjunctions_named scope table n (λ c p e t. subst (λ m. nat_lt p.column m ≡ true) (ap (column_count scope) (eqb-true p.table table t) ∙ ap (λ (o : Option FromEntry). option_map_or (λ entry. length entry.schema.columns) o 0) here) (column-below scope p (place-there scope c p e))) s parted)
      (list_all-map (λ (c : Conjunction). apart c.tests) (λ tests. record { tests = tests }) made ∙ and-apart (map (factor_subtree scope) (filters_of scope s table))))

  pub tables-conditions : (n : ℕ) (es : Scope) → ((j : ℕ) → slice_get scope (n + j) ≡ slice_get es j) → list_any (λ p. nat_lt MOST_CONJUNCTIONS (length (table_conjunctions scope s p.0))) (numbered_from n es) ≡ false
      → list_all (λ (p : FromEntry × List Conjunction). is_condition_on (length p.0.schema.columns) p.1) (zip es (map (λ p. table_conjunctions scope s p.0) (numbered_from n es))) ≡ true
  tables-conditions n [] at narrow = refl
  tables-conditions n (e ∷ es) at narrow =
      let here : n + 0 ≡ n = omega arith in
      let b = neither (nat_lt MOST_CONJUNCTIONS (length (table_conjunctions scope s n))) (list_any (λ p. nat_lt MOST_CONJUNCTIONS (length (table_conjunctions scope s p.0))) (numbered_from (n + 1) es)) narrow in
      and_both (is_condition_on (length e.schema.columns) (table_conjunctions scope s n))
      (list_all (λ (p : FromEntry × List Conjunction). is_condition_on (length p.0.schema.columns) p.1) (zip es (map (λ p. table_conjunctions scope s p.0) (numbered_from (n + 1) es))))
      (table-condition n e (sym (ap (slice_get scope) here) ∙ at 0) b.0)
      (tables-conditions (n + 1) es (λ j. (let i : n + 1 + j ≡ n + suc j = omega arith in ap (slice_get scope) i) ∙ at (suc j)) b.1)

-- ---- the parts together

known-tests : (scope : Scope) (ws : List TestWords) → list_all (is_known scope) (flat_map test_names ws) ≡ true → list_any (is_wrong_test scope) ws ≡ false → list_all (is_right scope) ws ≡ true
known-tests scope [] k w = refl
known-tests scope (t ∷ ws) k w =
    let a = and_parts (list_all (is_known scope) (test_names t)) (list_all (is_known scope) (flat_map test_names ws)) (sym (list_all-append (is_known scope) (test_names t) (flat_map test_names ws)) ∙ k) in
    let b = neither (is_wrong_test scope t) (list_any (is_wrong_test scope) ws) w in
    and_both (is_right scope t) (list_all (is_right scope) ws) (and_both (is_known scope (column_of t)) (not (is_wrong_test scope t)) (first t a.0) (ap not b.0)) (known-tests scope ws a.1 b.1)
  where
    first : (w : TestWords) → list_all (is_known scope) (test_names w) ≡ true → is_known scope (column_of w) ≡ true
    first (Compare c op l) h = (and_parts (is_known scope c) true h).0
    first (Columns l o r) h = (and_parts (is_known scope l) (is_known scope r && true) h).0
    first (Between c low high) h = (and_parts (is_known scope c) true h).0
    first (Among c list) h = (and_parts (is_known scope c) true h).0
    first (Like c pattern) h = (and_parts (is_known scope c) true h).0

right-factors : (scope : Scope) (o : Option Cond) → if_there is_condition o ≡ true → list_all (is_right scope) (where_tests o) ≡ true → list_all (passes_formed (is_right scope)) (factors o) ≡ true
right-factors scope None f h = refl
right-factors scope (Some c) f h = cond-factors (is_right scope) c f h

condition-formed : (s : Select) → is_select s ≡ true → if_there is_condition s.condition ≡ true
condition-formed s h =
    let first = some_and_all is_written_item s.items && some_and_all is_name s.tables in
    let upto = first && if_there is_condition s.condition in
    let a = and_parts (upto && list_all is_column_name s.groups && list_all is_order_key s.order) (if_there is_written_limit s.limit) h in
    let b = and_parts (upto && list_all is_column_name s.groups) (list_all is_order_key s.order) a.0 in
    let c = and_parts upto (list_all is_column_name s.groups) b.0 in
    (and_parts first (if_there is_condition s.condition) c.0).1

no_kinds : (scope : Scope) (s : Select) → scope_refusal scope s ≡ None → (list_any (λ i. is_wrong_item scope i.what) s.items ≡ false) × (is_wrong_condition scope s.condition ≡ false)
no_kinds scope s e =
    let a = no_first (name_refusal scope s) _ e in
    let b = no_first (refused_if (has_wrong_kind scope s) refusal.WrongKind) _ a.1 in
    neither (list_any (λ i. is_wrong_item scope i.what) s.items) (is_wrong_condition scope s.condition) (not_refused (has_wrong_kind scope s) refusal.WrongKind b.0)

narrow : (scope : Scope) (s : Select) → scope_refusal scope s ≡ None → is_wide scope s ≡ false
narrow scope s e =
    let a = no_first (name_refusal scope s) _ e in
    let b = no_first (refused_if (has_wrong_kind scope s) refusal.WrongKind) _ a.1 in
    let c = no_first (refused_if (not (is_star scope s)) refusal.NotStar) _ b.1 in
    let d = no_first (refused_if (not (is_grouped scope s)) refusal.NotGrouped) _ c.1 in
    not_refused (is_wide scope s) refusal.TooManyConjunctions (no_first (refused_if (is_wide scope s) refusal.TooManyConjunctions) _ d.1).0

filters-long : (scope : Scope) (s : Select) → length (map (λ p. table_conjunctions scope s p.0) (numbered scope)) ≡ length scope
filters-long scope s = let long : length (map (λ p. table_conjunctions scope s p.0) (numbered scope)) ≡ length (numbered scope) = simp length-map in long ∙ length-numbered 0 scope

pub queries_have_shape : QueriesHaveShape
unfolding query_of
queries_have_shape schemas s formed free =
    let scope = scope_of schemas s in
    let start = scope_accepted schemas s free in
    let found = accepted scope s start.1 in
    let fact : unwrap_or (fact_of scope s) 0 ≡ found.0 = ap (λ (o : Option ℕ). unwrap_or o 0) found.1.is_fact in
    let kinds = no_kinds scope s start.1 in
    let front = flat_map (λ i. item_names i.what) s.items in
    let a = and_parts (list_all (is_known scope) (front ++ cond_names s.condition)) (list_all (is_known scope) s.groups) (sym (list_all-append (is_known scope) (front ++ cond_names s.condition) s.groups) ∙ found.1.known) in
    let b = and_parts (list_all (is_known scope) front) (list_all (is_known scope) (cond_names s.condition)) (sym (list_all-append (is_known scope) front (cond_names s.condition)) ∙ a.0) in
    let right = right-factors scope s.condition (condition-formed s formed)
    (known-tests scope (where_tests s.condition) (ap (list_all (is_known scope)) (sym (where_names s.condition)) ∙ b.1) (sym (wrong_tests scope s.condition) ∙ kinds.1)) in
    let long : length (map (λ i. bound_item_of scope i.what) s.items) ≡ length s.items = simp length-map in
    let named : length (printed_names s) ≡ length s.items = simp length-map in
    let counted : length (map (λ p. table_conjunctions scope s p.0) (numbered scope)) ≡ length scope = filters-long scope s in
    record {
      tables = sym start.0;
      fact = subst (λ k. k < length scope) (sym fact) found.1.within;
      ties = ties-there scope (unwrap_or (fact_of scope s) 0) (factors s.condition);
      as_many = counted;
      filters = tables-conditions scope s found.1.parted right 0 scope (λ j. (let i : 0 + j ≡ j = omega arith in ap (slice_get scope) i)) (narrow scope s start.1);
      items = items-there scope s.items b.0 kinds.0;
      names = named ∙ sym long;
      groups = groups-there scope s.groups a.1;
      order = order-within scope s.items (length (map (λ i. bound_item_of scope i.what) s.items)) s.order long;
    }
