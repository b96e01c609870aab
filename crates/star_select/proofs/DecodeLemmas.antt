-- What the calls of a query decode is no more than the query may.
use Rattle.std.proofs.Common.{◌≡◌, ◌<◌, ◌≤◌, ◌==◌, ◌+◌, ◌*◌, ℕ, zero, suc, Bool, true, false, not, ◌&&◌, ◌||◌, List, [], ◌∷◌, ◌++◌, map, filter, flat_map, length, count_by, nat_lt, slice_get, Option, Some, None, cond, refl, sym, ap, ◌∙◌, subst, true≢false, arith, length-append}
use Rattle.std.specs.Prelude.{sum_by}
use Rattle.std.specs.List.{list_any, list_all}
use Rattle.std.specs.Option.{option_map_or, is_some}
use Rattle.std.proofs.lemmas.Bool.{eqb-true, eq-eqb, lt-ltb, ltb-true}
use Rattle.std.proofs.lemmas.List.{length-map}
use Rattle.std.proofs.lemmas.List.Concat.{length-flat_map}
use Rattle.std.proofs.lemmas.List.Sums.{sum_by-cons, sum_by-append, sum_by-le-sum_by, length-filter}
use Rattle.std.proofs.lemmas.Nat.{mul-le}
use Rattle.std.proofs.lemmas.Option.{slice_get_within}
use Rattle.blink_base.specs.Values.{Row}
use Rattle.blink_lists.specs.Lists.{numbered, numbered_from}
use Rattle.blink_lists.proofs.DistinctLemmas.{length-once_each-le}
use Rattle.blink_lists.proofs.GroupLemmas.{both, neither, all-imply}
use Rattle.blink_lists.proofs.SumLemmas.{count-map}
use Rattle.star_sql.specs.declared.ast.Select.{Select}
use Rattle.star_meaning.specs.Names.{Scope, FromEntry}
use Rattle.star_bind.specs.declared.query.BoundExpr.{BoundExpr}
use Rattle.star_bind.specs.declared.query.BoundExpr.TheVariants.{One, Times, Plus, Minus}
use Rattle.star_bind.specs.declared.query.BoundItem.{BoundItem}
use Rattle.star_bind.specs.declared.query.BoundItem.TheVariants.{Column, Count, Sum, Average, Least, Greatest}
use Rattle.star_bind.specs.declared.query.ColumnRef.{ColumnRef}
use Rattle.star_bind.specs.declared.query.Query.{Query}
use Rattle.star_bind.specs.declared.query.Tie.{Tie}
use Rattle.star_bind.specs.BoundAnswer.{is_total}
use Rattle.star_bind.specs.BoundQuery.{Schemas, scope_of, first_refusal, query_of}
use Rattle.star_bind.specs.QueryShape.{column_count, is_tie, QueriesHaveShape}
use Rattle.star_bind.proofs.AcceptanceLemmas.{accepted, scope_accepted}
use Rattle.star_bind.proofs.FactRowLemmas.{query-is}
use Rattle.cell_layout.specs.Image.{TableImage, CellImage, decoded_row}
use Rattle.cell_layout.specs.Valid.{is_valid}
use Rattle.cell_layout.proofs.PlacedImageLemmas.{valid_parts}
use Rattle.code_join.specs.Keys.{Keyed}
use Rattle.code_group.specs.GroupLaws.{selected_in}
use Rattle.code_group.specs.Plans.{formula_picks, measure_picks, is_of_fact, fact_picks, fact_key_picks, fact_value_picks}
use Rattle.dim_filter.specs.Entries.{entry_of}
use Rattle.star_select.specs.CodeSelection.{fact_cells, fact_rest, SelectsByCodes}
use Rattle.star_select.specs.Decodes.{selected_if, selected_rows, key_places, named_places, most_decodes, key_decodes, group_decodes, DecodesAddUp}
use Rattle.star_select.specs.ImageAnswer.{rows_in, image_keys, FactNamed}
use Rattle.star_select.specs.KeySets.{wanted_rows, is_selected}
use Rattle.star_select.specs.Picks.{expr_refs, item_refs, named_refs, wanted_columns, pick_if, pick_of}
use Rattle.star_select.specs.QueryPlan.{has_total, is_plain, formula_of, measure_of, item_pick, keys_if, measures_if, plan_of}
use Rattle.star_bind.specs.Joins.{key_at}
use Rattle.star_select.proofs.CodeSelectionLemmas.{rows-selected}
use Rattle.star_select.proofs.QueryLineLemmas.{none-total}
use Rattle.star_select.proofs.ImageAnswerLemmas.{rows-at}
use Rattle.star_select.proofs.ListLemmas.{all-place}

-- ---- picks of the fact

-- whether a column is of the fact
abbrev of_fact : Query → ColumnRef → Bool
of_fact query r = r.table == query.fact

fact-pick : (query : Query) (r : ColumnRef) → is_of_fact (pick_of query r) ≡ of_fact query r
fact-pick query r = by (r.table == query.fact)
  where
    by : (b : Bool) → is_of_fact (pick_if b query r) ≡ b
    by true = refl
    by false = refl

fact-picks : (query : Query) (rs : List ColumnRef) → fact_picks (map (pick_of query) rs) ≡ count_by (of_fact query) rs
fact-picks query rs = count-map is_of_fact (pick_of query) rs ∙ (λ i. count_by (λ r. fact-pick query r i) rs)

formula-picks : (query : Query) (e : BoundExpr) → formula_picks (formula_of query e) ≡ map (pick_of query) (expr_refs e)
formula-picks query (One a) = refl
formula-picks query (Times a b) = refl
formula-picks query (Plus a b) = refl
formula-picks query (Minus a b) = refl

no-more : (m n : ℕ) → m ≡ n → m ≤ n
no-more m n e = omega (arith, e)

-- an item measures no more columns of the fact than it names
item-measures : (query : Query) (i : BoundItem) → fact_picks (measure_picks (measure_of query i)) ≤ count_by (of_fact query) (item_refs i)
item-measures query (Column r) = omega arith
item-measures query Count = omega arith
item-measures query (Sum e) = no-more _ _ (ap fact_picks (formula-picks query e) ∙ fact-picks query (expr_refs e))
item-measures query (Average e) = no-more _ _ (ap fact_picks (formula-picks query e) ∙ fact-picks query (expr_refs e))
item-measures query (Least r) = no-more _ _ (fact-picks query (r ∷ []))
item-measures query (Greatest r) = no-more _ _ (fact-picks query (r ∷ []))

-- counts of two lists one behind the other
count-append : {X : Type 0} (p : X → Bool) (xs ys : List X) → count_by p (xs ++ ys) ≡ count_by p xs + count_by p ys
count-append p xs ys = sum_by-append (λ x. cond (p x) 1 0) xs ys

count-cons : {X : Type 0} (p : X → Bool) (x : X) (xs : List X) → count_by p (x ∷ xs) ≡ cond (p x) 1 0 + count_by p xs
count-cons p x xs = sum_by-cons (λ y. cond (p y) 1 0) x xs

items-measure : (query : Query) (items : List BoundItem) → fact_picks (flat_map measure_picks (map (measure_of query) items)) ≤ count_by (of_fact query) (flat_map item_refs items)
items-measure query [] = omega arith
items-measure query (i ∷ items) =
    let one = item-measures query i in
    let more = items-measure query items in
    let left = count-append is_of_fact (measure_picks (measure_of query i)) (flat_map measure_picks (map (measure_of query) items)) in
    let right = count-append (of_fact query) (item_refs i) (flat_map item_refs items) in
    omega (arith, one, more, left, right)

-- the keys of a plain query are no more than its items name
bare-keys : (query : Query) (items : List BoundItem) → list_all (λ i. not (is_total i)) items ≡ true → fact_picks (map (item_pick query) items) ≤ count_by (of_fact query) (flat_map item_refs items)
bare-keys query [] h = omega arith
bare-keys query (i ∷ items) h =
    let b = both (not (is_total i)) (list_all (λ j. not (is_total j)) items) h in
    let more = bare-keys query items b.1 in
    let one = bare i b.0 in
    let left = count-append is_of_fact (item_pick query i ∷ []) (map (item_pick query) items) in
    let right = count-append (of_fact query) (item_refs i) (flat_map item_refs items) in
    omega (arith, one, more, left, right)
  where
    bare : (j : BoundItem) → not (is_total j) ≡ true → fact_picks (item_pick query j ∷ []) ≤ count_by (of_fact query) (item_refs j)
    bare (Column r) k = no-more _ _ (fact-picks query (r ∷ []))
    bare Count k = absurd (true≢false (sym k))
    bare (Sum e) k = absurd (true≢false (sym k))
    bare (Average e) k = absurd (true≢false (sym k))
    bare (Least r) k = absurd (true≢false (sym k))
    bare (Greatest r) k = absurd (true≢false (sym k))

plan-named : (query : Query) (plain : Bool) → is_plain query ≡ plain
    → fact_picks (flat_map measure_picks (measures_if plain query)) + fact_picks (keys_if plain query) ≤ count_by (of_fact query) (named_refs query)
plan-named query true e =
    let none : list_any is_total query.items ≡ false = (neither query.grouped (has_total query) (not-yes (query.grouped || has_total query) e)).1 in
    let keys = bare-keys query query.items (none-total query.items none) in
    let all = count-append (of_fact query) (flat_map item_refs query.items) query.groups in
    let nothing : fact_picks (flat_map measure_picks (measures_if true query)) ≡ 0 = refl in
    omega (arith, keys, all, nothing)
  where
    not-yes : (a : Bool) → not a ≡ true → a ≡ false
    not-yes true k = absurd (true≢false (sym k))
    not-yes false k = refl
plan-named query false e =
    let values = items-measure query query.items in
    let keys = fact-picks query query.groups in
    let all = count-append (of_fact query) (flat_map item_refs query.items) query.groups in
    omega (arith, values, keys, all)

fact-places : (query : Query) → fact_value_picks (plan_of query) + fact_key_picks (plan_of query) ≤ named_places query query.fact
fact-places query = let all = plan-named query (is_plain query) refl in omega (arith, all)

-- ---- the wanted columns of a dimension

wanted-places : (query : Query) (table : ℕ) → (table == query.fact) ≡ false → 1 + length (wanted_columns query table) ≤ named_places query table
wanted-places query table away =
    let of_table : ColumnRef → Bool = λ r. r.table == table in
    let few = length-once_each-le (λ x y. x == y) (map (λ (r : ColumnRef). r.column) (filter of_table (named_refs query))) in
    let long = length-map (filter of_table (named_refs query)) (λ (r : ColumnRef). r.column) in
    let many = length-filter of_table (named_refs query) in
    let key : key_places (table == query.fact) ≡ 1 = ap key_places away in
    omega (arith, few, long, many, key)

-- ---- sums over tables

sum-where : {X : Type 0} (w : X → Bool) (f g : X → ℕ) → ((x : X) → w x ≡ true → f x ≤ g x) → (xs : List X) → list_all w xs ≡ true → sum_by f xs ≤ sum_by g xs
sum-where w f g less [] h = omega arith
sum-where w f g less (x ∷ xs) h =
    let b = both (w x) (list_all w xs) h in
    let one = less x b.0 in
    let more = sum-where w f g less xs b.1 in
    let left = sum_by-cons f x xs in
    let right = sum_by-cons g x xs in
    omega (arith, one, more, left, right)

-- a number more at one place
add-at : {Z : Type 0} (at x from k : ℕ) (h : ℕ × Z → ℕ) (zs : List Z) → at ≡ from + k → k < length zs → x + sum_by h (numbered_from from zs) ≤ sum_by (λ p. h p + cond (p.0 == at) x 0) (numbered_from from zs)
add-at at x from k h [] e l = absurd (omega (arith, l))
add-at {Z} at x from zero h (z ∷ zs) e l =
    let left = sum_by-cons h (from, z) (numbered_from (from + 1) zs) in
    let right = sum_by-cons (λ (p : ℕ × Z). h p + cond (p.0 == at) x 0) (from, z) (numbered_from (from + 1) zs) in
    let rest = sum_by-le-sum_by h (λ (p : ℕ × Z). h p + cond (p.0 == at) x 0) (numbered_from (from + 1) zs) (λ p. omega arith) in
    let here : cond (from == at) x 0 ≡ x = ap (λ b. cond b x 0) (eq-eqb from at (omega (arith, e))) in
    omega (arith, left, right, rest, here)
add-at {Z} at x from (suc k) h (z ∷ zs) e l =
    let left = sum_by-cons h (from, z) (numbered_from (from + 1) zs) in
    let right = sum_by-cons (λ (p : ℕ × Z). h p + cond (p.0 == at) x 0) (from, z) (numbered_from (from + 1) zs) in
    let rest = add-at at x (from + 1) k h zs (omega (arith, e)) (omega (arith, l)) in
    omega (arith, left, right, rest)

-- a sum over ties, by their dimensions
ties-sum : {Z : Type 0} (g : ℕ → ℕ) (zs : List Z) (ts : List Tie) → list_all (λ (t : Tie). nat_lt t.dimension (length zs)) ts ≡ true
    → sum_by (λ (t : Tie). g t.dimension) ts ≤ sum_by (λ (p : ℕ × Z). count_by (λ (t : Tie). t.dimension == p.0) ts * g p.0) (numbered zs)
ties-sum g zs [] h = omega arith
ties-sum {Z} g zs (t ∷ ts) h =
    let b = both (nat_lt t.dimension (length zs)) (list_all (λ (u : Tie). nat_lt u.dimension (length zs)) ts) h in
    let more = ties-sum g zs ts b.1 in
    let first = sum_by-cons (λ (u : Tie). g u.dimension) t ts in
    let added = add-at t.dimension (g t.dimension) 0 t.dimension (λ (p : ℕ × Z). count_by (λ (u : Tie). u.dimension == p.0) ts * g p.0) zs (omega arith) (ltb-true t.dimension (length zs) b.0) in
    let less = sum_by-le-sum_by (λ (p : ℕ × Z). count_by (λ (u : Tie). u.dimension == p.0) ts * g p.0 + cond (p.0 == t.dimension) (g t.dimension) 0)
    (λ (p : ℕ × Z). count_by (λ (u : Tie). u.dimension == p.0) (t ∷ ts) * g p.0) (numbered zs) (λ p. one p.0) in
    omega (arith, more, first, added, less)
  where
    one : (d : ℕ) → count_by (λ (u : Tie). u.dimension == d) ts * g d + cond (d == t.dimension) (g t.dimension) 0 ≤ count_by (λ (u : Tie). u.dimension == d) (t ∷ ts) * g d
    one d = by (d == t.dimension) refl
      where
        by : (b : Bool) → (d == t.dimension) ≡ b → count_by (λ (u : Tie). u.dimension == d) ts * g d + cond b (g t.dimension) 0 ≤ count_by (λ (u : Tie). u.dimension == d) (t ∷ ts) * g d
        by true e =
            let same : d ≡ t.dimension = eqb-true d t.dimension e in
            let counted : count_by (λ (u : Tie). u.dimension == d) (t ∷ ts) ≡ 1 + count_by (λ (u : Tie). u.dimension == d) ts = count-cons (λ (u : Tie). u.dimension == d) t ts ∙ ap (λ b. cond b 1 0 + count_by (λ (u : Tie). u.dimension == d) ts) (eq-eqb t.dimension d (sym same)) in
            let value : g d ≡ g t.dimension = ap g same in
            let product : count_by (λ (u : Tie). u.dimension == d) (t ∷ ts) * g d ≡ (1 + count_by (λ (u : Tie). u.dimension == d) ts) * g d = ap (λ n. n * g d) counted in
            omega (arith, product, value)
        by false e =
            let counted = count-cons (λ (u : Tie). u.dimension == d) t ts in
            let less = mul-le (count_by (λ (u : Tie). u.dimension == d) ts) (g d) (count_by (λ (u : Tie). u.dimension == d) (t ∷ ts)) (g d) (omega (arith, counted)) (omega arith) in
            omega (arith, less)

count-none : {X : Type 0} (p : X → Bool) (xs : List X) → list_all (λ x. not (p x)) xs ≡ true → count_by p xs ≡ 0
count-none p [] h = refl
count-none p (x ∷ xs) h =
    let b = both (not (p x)) (list_all (λ y. not (p y)) xs) h in
    let first = count-cons p x xs in
    let here : cond {A = ℕ} (p x) 1 0 ≡ 0 = ap (λ (c : Bool). cond {A = ℕ} c 1 0) (not-yes (p x) b.0) in
    let more = count-none p xs b.1 in
    omega (arith, first, here, more)
  where
    not-yes : (a : Bool) → not a ≡ true → a ≡ false
    not-yes true k = absurd (true≢false (sym k))
    not-yes false k = refl

module _ (query : Query) (scope : Scope) (tables : List (List Row)) (within : query.fact < length scope) (ties : list_all (is_tie scope query.fact) query.ties ≡ true)
    (counted : list_all (λ p. p.0 == query.fact || count_by (λ (t : Tie). t.dimension == p.0) query.ties == 1) (numbered scope) ≡ true) where
  -- what the key map of a dimension decodes
  abbrev of_keys : ℕ → ℕ
  of_keys d = length (wanted_rows query tables d) * (1 + length (wanted_columns query d))

  tie-parts : (t : Tie) → is_tie scope query.fact t ≡ true → (nat_lt t.dimension (length scope) ≡ true) × (not (t.dimension == query.fact) ≡ true)
  tie-parts t h =
      let b = both (nat_lt t.column (column_count scope query.fact) && not (t.dimension == query.fact)) (option_map_or (λ entry. is_some entry.schema.key) (slice_get scope t.dimension) false) h in
      (by (slice_get scope t.dimension) refl b.1, (both (nat_lt t.column (column_count scope query.fact)) (not (t.dimension == query.fact)) b.0).1)
    where
      by : (o : Option FromEntry) → slice_get scope t.dimension ≡ o → option_map_or (λ entry. is_some entry.schema.key) o false ≡ true → nat_lt t.dimension (length scope) ≡ true
      by None e k = absurd (true≢false (sym k))
      by (Some entry) e k = lt-ltb t.dimension (length scope) (slice_get_within scope t.dimension entry e)

  no-tie : count_by (λ (t : Tie). t.dimension == query.fact) query.ties ≡ 0
  no-tie = count-none (λ (t : Tie). t.dimension == query.fact) query.ties (all-imply (is_tie scope query.fact) (λ (t : Tie). not (t.dimension == query.fact)) (λ t h. (tie-parts t h).1) query.ties ties)

  -- one table, with what the groups of the fact decode
  one-table : (most : ℕ) → most ≤ length (selected_rows query scope tables query.fact) * named_places query query.fact → (d : ℕ) → (d == query.fact || count_by (λ (t : Tie). t.dimension == d) query.ties == 1) ≡ true
      → count_by (λ (t : Tie). t.dimension == d) query.ties * of_keys d + cond (d == query.fact) most 0 ≤ length (selected_rows query scope tables d) * named_places query d
  one-table most few d h = by (d == query.fact) refl h
    where
      by : (b : Bool) → (d == query.fact) ≡ b → (b || count_by (λ (t : Tie). t.dimension == d) query.ties == 1) ≡ true
          → count_by (λ (t : Tie). t.dimension == d) query.ties * of_keys d + cond b most 0 ≤ length (selected_if b query scope tables d) * named_places query d
      by true e k =
          let same : d ≡ query.fact = eqb-true d query.fact e in
          let none : count_by (λ (t : Tie). t.dimension == d) query.ties ≡ 0 = ap (λ n. count_by (λ (t : Tie). t.dimension == n) query.ties) same ∙ no-tie in
          let product : count_by (λ (t : Tie). t.dimension == d) query.ties * of_keys d ≡ 0 * of_keys d = ap (λ n. n * of_keys d) none in
          let here : length (selected_rows query scope tables query.fact) * named_places query query.fact ≡ length (selected_if true query scope tables d) * named_places query d =
          ap (λ c. length (selected_if c query scope tables query.fact) * named_places query query.fact) (eq-eqb query.fact query.fact refl) ∙ ap (λ n. length (selected_if true query scope tables n) * named_places query n) (sym same) in
          omega (arith, few, product, here)
      by false e k =
          let one : count_by (λ (t : Tie). t.dimension == d) query.ties ≡ 1 = eqb-true (count_by (λ (t : Tie). t.dimension == d) query.ties) 1 k in
          let product : count_by (λ (t : Tie). t.dimension == d) query.ties * of_keys d ≡ 1 * of_keys d = ap (λ n. n * of_keys d) one in
          let less = mul-le (length (wanted_rows query tables d)) (1 + length (wanted_columns query d)) (length (wanted_rows query tables d)) (named_places query d) (omega arith) (wanted-places query d e) in
          omega (arith, product, less)

  sums-within : (most : ℕ) → most ≤ length (selected_rows query scope tables query.fact) * named_places query query.fact → sum_by (λ (t : Tie). of_keys t.dimension) query.ties + most ≤ most_decodes query scope tables
  sums-within most few =
      let dimensions : list_all (λ (t : Tie). nat_lt t.dimension (length scope)) query.ties ≡ true = all-imply (is_tie scope query.fact) (λ (t : Tie). nat_lt t.dimension (length scope)) (λ t h. (tie-parts t h).0) query.ties ties in
      let keys = ties-sum of_keys scope query.ties dimensions in
      let added = add-at query.fact most 0 query.fact (λ (p : ℕ × FromEntry). count_by (λ (t : Tie). t.dimension == p.0) query.ties * of_keys p.0) scope (omega arith) within in
      let less = sum-where (λ (p : ℕ × FromEntry). p.0 == query.fact || count_by (λ (t : Tie). t.dimension == p.0) query.ties == 1)
      (λ (p : ℕ × FromEntry). count_by (λ (t : Tie). t.dimension == p.0) query.ties * of_keys p.0 + cond (p.0 == query.fact) most 0)
      (λ (p : ℕ × FromEntry). length (selected_rows query scope tables p.0) * named_places query p.0) (λ p h. one-table most few p.0 h) (numbered scope) counted in
      omega (arith, keys, added, less)

-- ---- over images

-- each other table has one tie
tables-tied : (schemas : Schemas) (s : Select) → first_refusal schemas s ≡ None → list_all (λ p. p.0 == (query_of schemas s).fact || count_by (λ (t : Tie). t.dimension == p.0) (query_of schemas s).ties == 1) (numbered (scope_of schemas s)) ≡ true
tables-tied schemas s free =
    let a = accepted (scope_of schemas s) s (scope_accepted schemas s free).1 in
    subst (λ (q : Query). list_all (λ p. p.0 == q.fact || count_by (λ (t : Tie). t.dimension == p.0) q.ties == 1) (numbered (scope_of schemas s)) ≡ true) (sym (query-is schemas s a.0 a.1.is_fact)) a.1.counted

keys-long : (query : Query) (scope : Scope) (tables : List (List Row)) → key_decodes query scope tables ≡ sum_by (λ (t : Tie). length (wanted_rows query tables t.dimension) * (1 + length (wanted_columns query t.dimension))) query.ties
keys-long query scope tables = λ i. sum_by (λ (t : Tie). length-map (wanted_rows query tables t.dimension) (entry_of (key_at scope t.dimension) (wanted_columns query t.dimension)) i * (1 + length (wanted_columns query t.dimension))) query.ties

cells-long : (image : TableImage) (cells : List (CellImage × List (List ℕ))) → sum_by (λ (cell : CellImage × List (List ℕ)). length cell.1) cells ≡ length (flat_map (selected_in image) cells)
cells-long image cells =
    sym (length-flat_map (selected_in image) cells ∙ (λ i. sum_by (λ (cell : CellImage × List (List ℕ)). length-map cell.1 (decoded_row image.columns cell.0.classes) i) cells))

pub decodes_add_up : QueriesHaveShape → SelectsByCodes → FactNamed → DecodesAddUp
decodes_add_up shaped by_codes named schemas s images image has here =
    let scope : Scope = scope_of schemas s in
    let query : Query = query_of schemas s in
    let tables : List (List Row) = rows_in images in
    let keys : List Keyed = image_keys query scope images in
    let shape = shaped schemas s has.formed has.free in
    let cells = (valid_parts image (all-place is_valid images query.fact image has.valid here)).cells in
    let rows : selected_rows query scope tables query.fact ≡ flat_map (selected_in image) (fact_cells image query keys) ++ fact_rest image query keys =
    ap (λ c. selected_if c query scope tables query.fact) (eq-eqb query.fact query.fact refl)
    ∙ ap (filter (is_selected query keys)) (rows-at images query.fact image here)
    ∙ rows-selected by_codes image query keys (named schemas s images image has here) cells in
    let long : length (selected_rows query scope tables query.fact) ≡ length (flat_map (selected_in image) (fact_cells image query keys)) + length (fact_rest image query keys) =
    ap (λ (l : List Row). length l) rows ∙ length-append (flat_map (selected_in image) (fact_cells image query keys)) (fact_rest image query keys) in
    let count = cells-long image (fact_cells image query keys) in
    let few = mul-le (sum_by (λ (cell : CellImage × List (List ℕ)). length cell.1) (fact_cells image query keys)) (fact_value_picks (plan_of query) + fact_key_picks (plan_of query))
    (length (selected_rows query scope tables query.fact)) (named_places query query.fact) (omega (arith, long, count)) (fact-places query) in
    let all = sums-within query scope tables shape.fact shape.ties (tables-tied schemas s has.free) (group_decodes image query keys) few in
    omega (arith, all, keys-long query scope tables)
