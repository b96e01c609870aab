-- No key stands twice in the key set of a tie.
use Rattle.std.proofs.Common.{◌≡◌, ℕ, Bool, true, false, not, ◌&&◌, ◌||◌, List, [], ◌∷◌, map, filter, length, slice_index_or, Option, cond, refl, sym, ap, ◌∙◌, subst, true≢false}
use Rattle.std.specs.List.{list_all, list_any, zip}
use Rattle.std.specs.Option.{option_map_or}
use Rattle.std.specs.Map.{keys_of}
use Rattle.std.proofs.lemmas.Bool.{and_parts}
use Rattle.std.proofs.lemmas.List.Folds.{list_all-map}
use Rattle.std.proofs.lemmas.Option.{slice_get_within}
use Rattle.blink_base.specs.declared.value.Value.{Value}
use Rattle.blink_base.specs.Values.{Row, same_value}
use Rattle.blink_base.specs.RowFits.{fits}
use Rattle.blink_lists.specs.Lists.{are_distinct}
use Rattle.star_sql.specs.declared.ast.Select.{Select}
use Rattle.star_meaning.specs.Names.{Scope, FromEntry}
use Rattle.star_bind.specs.declared.query.Query.{Query}
use Rattle.star_bind.specs.declared.query.Tie.{Tie}
use Rattle.star_bind.specs.StarForm.{ties_of}
use Rattle.star_bind.specs.BoundQuery.{scope_of, query_in}
use Rattle.star_bind.specs.Laws.{value_in, may_hold, has_own_keys}
use Rattle.star_bind.specs.Joins.{key_in, key_at, is_wanted}
use Rattle.star_select.specs.KeySets.{keyed_of, key_maps, KeysOnce}
use Rattle.star_select.specs.Picks.{wanted_columns}
use Rattle.code_join.specs.Keys.{are_keys}
use Rattle.dim_filter.specs.Entries.{entry_of}
use Rattle.star_bind.proofs.TieLemmas.{IsTie}
use Rattle.star_bind.proofs.StarLemmas.{all-each}
use Rattle.star_bind.proofs.AcceptanceLemmas.{Accepted, accepted, scope_accepted}
use Rattle.star_bind.proofs.FactRowLemmas.{query-is, tied}
use Rattle.star_select.proofs.ListLemmas.{some-same, zip-place, all-place}
use Rattle.blink_lists.proofs.BoolLemmas.{all-true}

-- some of distinct keys are distinct
any-some : {X : Type 0} (key : X → Value) (own : X → Bool) (k : Value) (xs : List X) → list_any (same_value k) (map key xs) ≡ false → list_any (same_value k) (map key (filter own xs)) ≡ false
any-some key own k [] h = h
any-some {X = X} key own k (x ∷ xs) h = by (same_value k (key x)) refl (own x) h (any-some key own k xs)
  where
    by : (b : Bool) → same_value k (key x) ≡ b → (c : Bool) → (b || list_any (same_value k) (map key xs)) ≡ false → (list_any (same_value k) (map key xs) ≡ false → list_any (same_value k) (map key (filter own xs)) ≡ false)
        → list_any (same_value k) (map key (cond c (x ∷ filter own xs) (filter own xs))) ≡ false
    by true e c h more = absurd (true≢false h)
    by false e true h more = ap (λ b. b || list_any (same_value k) (map key (filter own xs))) e ∙ more h
    by false e false h more = more h

not-yes : (a : Bool) → not a ≡ true → a ≡ false
not-yes true e = absurd (true≢false (sym e))
not-yes false e = refl

distinct-some : {X : Type 0} (key : X → Value) (own : X → Bool) (xs : List X) → are_distinct same_value (map key xs) ≡ true → are_distinct same_value (map key (filter own xs)) ≡ true
distinct-some key own [] h = h
distinct-some {X = X} key own (x ∷ xs) h =
    let p = and_parts (not (list_any (same_value (key x)) (map key xs))) (are_distinct same_value (map key xs)) h in
    by (own x) (any-some key own (key x) xs (not-yes (list_any (same_value (key x)) (map key xs)) p.0)) (distinct-some key own xs p.1)
  where
    by : (c : Bool) → list_any (same_value (key x)) (map key (filter own xs)) ≡ false → are_distinct same_value (map key (filter own xs)) ≡ true → are_distinct same_value (map key (cond c (x ∷ filter own xs) (filter own xs))) ≡ true
    by true a more = λ i. not (a i) && more i
    by false a more = more

entry-keys : (key : ℕ) (wanted : List ℕ) (rows : List Row) → keys_of (map (entry_of key wanted) rows) ≡ map (λ row. value_in row key) rows
entry-keys key wanted [] = refl
entry-keys key wanted (row ∷ rows) = ap (λ l. value_in row key ∷ l) (entry-keys key wanted rows)

module _ (scope : Scope) (s : Select) (fact : ℕ) (a : Accepted scope s fact) (tables : List (List Row)) (sized : length tables ≡ length scope) (allowed : list_all may_hold (zip scope tables) ≡ true) where
  abbrev query : Query
  query = query_in scope s fact

  tie-once : (t : Tie) → IsTie scope fact t → are_keys (keyed_of query scope tables t) ≡ true
  tie-once t (e, k, there, key, away) =
      let (x, both, here) = zip-place [] scope tables t.dimension sized (slice_get_within scope t.dimension e there) in
      let same : x ≡ e = some-same x e (sym here ∙ there) in
      let holds = all-place may_hold (zip scope tables) t.dimension (x, slice_index_or tables t.dimension []) allowed both in
      let own = (and_parts (list_all (fits x.schema) (slice_index_or tables t.dimension [])) (has_own_keys x.schema.key (slice_index_or tables t.dimension [])) holds).1 in
      let distinct : are_distinct same_value (map (λ row. value_in row k) (slice_index_or tables t.dimension [])) ≡ true = sym (ap (λ (y : FromEntry). has_own_keys y.schema.key (slice_index_or tables t.dimension [])) same ∙ ap (λ o. has_own_keys o (slice_index_or tables t.dimension [])) key) ∙ own in
      let column : key_at scope t.dimension ≡ k = ap (λ (o : Option FromEntry). option_map_or (λ y. key_in y.schema.key) o 0) there ∙ ap key_in key in
      ap (are_distinct same_value) (entry-keys (key_at scope t.dimension) (wanted_columns query t.dimension) (filter (is_wanted query t.dimension) (slice_index_or tables t.dimension [])))
      ∙ ap (λ n. are_distinct same_value (map (λ row. value_in row n) (filter (is_wanted query t.dimension) (slice_index_or tables t.dimension [])))) column
      ∙ distinct-some (λ row. value_in row k) (is_wanted query t.dimension) (slice_index_or tables t.dimension []) distinct

  once : list_all are_keys (key_maps query scope tables) ≡ true
  once =
      list_all-map are_keys (keyed_of query scope tables) (ties_of scope s fact)
      ∙ all-each (IsTie scope fact) (λ t. are_keys (keyed_of query scope tables t)) (λ t. true) tie-once (ties_of scope s fact) (tied scope s fact a)
      ∙ all-true (ties_of scope s fact)

pub keys_once : KeysOnce
keys_once schemas s tables t =
    let n = scope_accepted schemas s t.free in
    let a = accepted (scope_of schemas s) s n.1 in
    subst (λ (q : Query). list_all are_keys (key_maps q (scope_of schemas s) tables) ≡ true) (sym (query-is schemas s a.0 a.1.is_fact)) (once (scope_of schemas s) s a.0 a.1 tables (t.sized ∙ sym n.0) t.allowed)
