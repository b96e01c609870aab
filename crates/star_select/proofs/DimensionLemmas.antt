-- The dimensions of a star: the pick of a column that is named is there, and the rows of a combination fit their tables.
use Rattle.std.proofs.Common.{◌≡◌, ◌<◌, ◌==◌, ℕ, Bool, true, false, List, [], ◌∷◌, map, filter, find, length, nat_lt, slice_get, slice_index_or, Option, Some, None, option_map, cond, if◌then◌else◌, refl, sym, ap, ◌∙◌, subst, true≢false, arith}
use Rattle.std.specs.List.{list_all, list_any, zip}
use Rattle.std.specs.Option.{is_some, option_and_then}
use Rattle.std.proofs.lemmas.Bool.{eqb-true, lt-ltb}
use Rattle.std.proofs.lemmas.List.{length-map}
use Rattle.std.proofs.lemmas.List.Folds.{find_at, list_all-map}
use Rattle.std.proofs.lemmas.Option.{get_or_from_slice_get, slice_get-map, slice_get_within}
use Rattle.blink_base.specs.declared.schema.Column.{Column}
use Rattle.blink_base.specs.declared.value.Value.{Value}
use Rattle.blink_base.specs.Values.{Row, same_value}
use Rattle.blink_base.specs.RowFits.{fits}
use Rattle.blink_lists.proofs.AllLemmas.{all-part}
use Rattle.blink_lists.proofs.BoolLemmas.{all-true}
use Rattle.blink_lists.proofs.GroupLemmas.{both, and_both, all-imply}
use Rattle.star_sql.specs.declared.ast.Select.{Select}
use Rattle.star_meaning.specs.Names.{Scope, FromEntry, Combination}
use Rattle.star_bind.specs.declared.query.ColumnRef.{ColumnRef}
use Rattle.star_bind.specs.declared.query.Query.{Query}
use Rattle.star_bind.specs.declared.query.Tie.{Tie}
use Rattle.star_bind.specs.BoundQuery.{query_in}
use Rattle.star_bind.specs.Joins.{is_wanted, key_at, wanted_if, wanted_beside, joined_row}
use Rattle.star_bind.specs.Laws.{value_in, row_of_key, tied_row, tie_of, may_hold, has_own_keys}
use Rattle.star_bind.specs.QueryShape.{is_ref}
use Rattle.star_bind.specs.StarForm.{ties_of}
use Rattle.star_bind.proofs.AcceptanceLemmas.{Accepted}
use Rattle.star_bind.proofs.StarLemmas.{IsPart}
use Rattle.code_join.specs.Keys.{Keyed}
use Rattle.code_group.specs.Plans.{pick_there}
use Rattle.dim_filter.specs.Entries.{entry_of}
use Rattle.late_decode.specs.declared.plan.Pick.TheVariants.{Dimension}
use Rattle.star_select.specs.KeySets.{wanted_rows, keyed_of, key_maps}
use Rattle.star_select.specs.Picks.{same_ref, named_refs, wanted_columns, wanted_place, tie_place, pick_if, pick_of}
use Rattle.star_select.proofs.KeySetLemmas.{parts}
use Rattle.star_select.proofs.ListLemmas.{some-same, none-some, each-place, zip-place, there-place, found-passes, any-found, any-once, all-place}
use Rattle.star_select.proofs.NamedColumnLemmas.{is_among, ref-within}

-- what is found passes what all pass
found-of : {X : Type 0} (q p : X → Bool) (xs : List X) (x : X) → list_all q xs ≡ true → find p xs ≡ Some x → q x ≡ true
found-of q p [] x h e = absurd (none-some x e)
found-of {X} q p (y ∷ ys) x h e = let b = both (q y) (list_all q ys) h in by (p y) b.0 e (found-of q p ys x b.1)
  where
    by : (c : Bool) → q y ≡ true → cond c (Some y) (find p ys) ≡ Some x → (find p ys ≡ Some x → q x ≡ true) → q x ≡ true
    by true k f more = subst (λ z. q z ≡ true) (some-same y x f) k
    by false k f more = more f

-- a column that is there is below the number of its table's columns
pub column-within : (scope : Scope) (r : ColumnRef) (entry : FromEntry) → is_ref scope r ≡ true → slice_get scope r.table ≡ Some entry → r.column < length entry.schema.columns
column-within scope r entry h here = by (slice_get entry.schema.columns r.column) refl (sym (ap (λ (o : Option FromEntry). is_some (option_and_then (λ e. slice_get e.schema.columns r.column) o)) here) ∙ h)
  where
    by : (o : Option Column) → slice_get entry.schema.columns r.column ≡ o → is_some o ≡ true → r.column < length entry.schema.columns
    by None e k = absurd (true≢false (sym k))
    by (Some c) e k = slice_get_within entry.schema.columns r.column c e

module _ (scope : Scope) (s : Select) (fact : ℕ) (a : Accepted scope s fact) (tables : List (List Row)) (sized : length tables ≡ length scope) (allowed : list_all may_hold (zip scope tables) ≡ true) where
  abbrev query : Query
  query = query_in scope s fact

  abbrev ties : List Tie
  ties = ties_of scope s fact

  abbrev own : ℕ → Row → Bool
  own = is_wanted (query_in scope s fact)

  -- a table at its place, with its rows
  part-at : (d : ℕ) → d < length scope → (e : FromEntry) × (slice_get (zip scope tables) d ≡ Some (e, slice_index_or tables d [])) × (slice_get scope d ≡ Some e) × IsPart scope fact ties own (d, (e, slice_index_or tables d []))
  part-at d l =
      let (e, pair, here) = zip-place [] scope tables d sized l in (
        e,
        pair,
        here,
        subst (λ n. IsPart scope fact ties own (n, (e, slice_index_or tables d []))) (omega arith) (each-place (IsPart scope fact ties own) 0 (zip scope tables) d (e, slice_index_or tables d []) (parts scope s fact a tables sized allowed) pair),
      )

  -- the tie of a dimension, and its place
  pub tie-at : (d : ℕ) → (d == fact) ≡ false → d < length scope → (t : Tie) × (slice_get ties (tie_place query d) ≡ Some t) × (t.dimension ≡ d)
  tie-at d away l =
      let (e, pair, here, part) = part-at d l in
      let (t, k, one, key, same_key, alone, distinct) = part away in
      (t, sym (find_at (λ t. t.dimension == d) ties) ∙ one, eqb-true t.dimension d (found-passes (λ t. t.dimension == d) ties t one))

  -- a wanted column has a place
  wanted-within : (r : ColumnRef) → list_any (same_ref r) (named_refs query) ≡ true → wanted_place query r < length (wanted_columns query r.table)
  wanted-within r named =
      let some = any-found (λ c. c == r.column) (wanted_columns query r.table) (any-once r.column (map (λ q. q.column) (filter (λ q. q.table == r.table) (named_refs query))) (is_among r (named_refs query) named)) in
      slice_get_within (wanted_columns query r.table) (wanted_place query r) some.0 (sym (find_at (λ c. c == r.column) (wanted_columns query r.table)) ∙ some.1)

  -- each entry has a payload value per wanted column
  entries-long : (key place : ℕ) (wanted : List ℕ) (rows : List Row) → place < length wanted → list_all (λ entry. nat_lt place (length entry.1)) (map (entry_of key wanted) rows) ≡ true
  entries-long key place wanted rows l =
      list_all-map (λ (entry : Value × Row). nat_lt place (length entry.1)) (entry_of key wanted) rows
      ∙ all-imply (λ (row : Row). true) (λ row. nat_lt place (length (entry_of key wanted row).1)) (λ row h. lt-ltb place (length (entry_of key wanted row).1) (subst (λ n. place < n) (sym (length-map wanted (value_in row))) l)) rows (all-true rows)

  -- a pick of a dimension is there
  dimension-there : (columns : ℕ) (r : ColumnRef) → (r.table == fact) ≡ false → r.table < length scope → list_any (same_ref r) (named_refs query) ≡ true
      → pick_there columns (key_maps query scope tables) (Dimension (tie_place query r.table) (wanted_place query r)) ≡ true
  dimension-there columns r away l named =
      let (t, place, at) = tie-at r.table away l in
      let keys : slice_index_or (map (keyed_of query scope tables) ties) (tie_place query r.table) [] ≡ keyed_of query scope tables t =
      get_or_from_slice_get (map (keyed_of query scope tables) ties) (tie_place query r.table) (keyed_of query scope tables t) []
      (slice_get-map (keyed_of query scope tables) ties (tie_place query r.table) ∙ ap (option_map (keyed_of query scope tables)) place) in
      let below : tie_place query r.table < length (key_maps query scope tables) = subst (λ n. tie_place query r.table < n) (sym (length-map ties (keyed_of query scope tables))) (slice_get_within ties (tie_place query r.table) t place) in
      let within : wanted_place query r < length (wanted_columns query t.dimension) = subst (λ d. wanted_place query r < length (wanted_columns query d)) (sym at) (wanted-within r named) in
      and_both (nat_lt (tie_place query r.table) (length (key_maps query scope tables))) _ (lt-ltb (tie_place query r.table) (length (key_maps query scope tables)) below)
      (ap (λ (k : Keyed). list_all (λ entry. nat_lt (wanted_place query r) (length entry.1)) k) keys
      ∙ entries-long (key_at scope t.dimension) (wanted_place query r) (wanted_columns query t.dimension) (wanted_rows query tables t.dimension) within)

  -- so is that of each column that is named
  pub pick-there : (entry : FromEntry) → slice_get scope fact ≡ Some entry → (r : ColumnRef) → list_any (same_ref r) (named_refs query) ≡ true → is_ref scope r ≡ true
      → pick_there (length entry.schema.columns) (key_maps query scope tables) (pick_of query r) ≡ true
  pick-there entry here r named there = by (r.table == fact) refl
    where
      by : (b : Bool) → (r.table == fact) ≡ b → pick_there (length entry.schema.columns) (key_maps query scope tables) (pick_if b query r) ≡ true
      by true e = lt-ltb r.column (length entry.schema.columns) (column-within scope r entry there (ap (slice_get scope) (eqb-true r.table fact e) ∙ here))
      by false e = dimension-there (length entry.schema.columns) r e (ref-within scope r there) named

  -- ---- the rows of a combination

  module _ (row : Row) (entry : FromEntry) (here : slice_get scope fact ≡ Some entry) (fit : fits entry.schema row ≡ true) where
    own-fits : (e : FromEntry) (x : Row) → entry ≡ e → (b : Bool) → (if b then Some row else None) ≡ Some x → fits e.schema x ≡ true
    own-fits e x same true h = subst (λ y. fits e.schema y ≡ true) (some-same row x h) (subst (λ (f : FromEntry). fits f.schema row ≡ true) same fit)
    own-fits e x same false h = absurd (none-some x h)

    tied-fits : (e : FromEntry) (rows : List Row) (x : Row) → list_all (fits e.schema) rows ≡ true → (o : Option Tie) → option_and_then (tied_row (e, rows) row) o ≡ Some x → fits e.schema x ≡ true
    tied-fits e rows x all None h = absurd (none-some x h)
    tied-fits e rows x all (Some t) h = by e.schema.key h
      where
        by : (key : Option ℕ) → row_of_key key rows (value_in row t.column) ≡ Some x → fits e.schema x ≡ true
        by None k = absurd (none-some x k)
        by (Some key) k = found-of (fits e.schema) (λ y. same_value (value_in y key) (value_in row t.column)) rows x all k

    pub row-fits : (rows : Combination) → joined_row query scope tables row ≡ Some rows → (d : ℕ) → d < length scope → (e : FromEntry) × (slice_get scope d ≡ Some e) × (fits e.schema (slice_index_or rows d []) ≡ true)
    row-fits rows all d l =
        let (e, pair, at, part) = part-at d l in
        let beside : wanted_beside query row (d, (e, slice_index_or tables d [])) ≡ Some (slice_index_or rows d []) =
        subst (λ n. wanted_beside query row (n, (e, slice_index_or tables d [])) ≡ Some (slice_index_or rows d [])) (omega arith)
        (there-place [] (wanted_beside query row) 0 (zip scope tables) rows all d (e, slice_index_or tables d []) pair) in
        let holds = all-place may_hold (zip scope tables) d (e, slice_index_or tables d []) allowed pair in
        let fit_all = (both (list_all (fits e.schema) (slice_index_or tables d [])) (has_own_keys e.schema.key (slice_index_or tables d [])) holds).0 in
        (e, at, by e at (d == fact) refl beside (all-part (fits e.schema) (own d) (slice_index_or tables d []) fit_all))
      where
        by : (e : FromEntry) → slice_get scope d ≡ Some e → (b : Bool) → (d == fact) ≡ b → wanted_if query row d (e, slice_index_or tables d []) b ≡ Some (slice_index_or rows d [])
            → list_all (fits e.schema) (filter (own d) (slice_index_or tables d [])) ≡ true → fits e.schema (slice_index_or rows d []) ≡ true
        by e at true f h fit_all = own-fits e (slice_index_or rows d []) (some-same entry e (sym here ∙ ap (slice_get scope) (sym (eqb-true d fact f)) ∙ at)) (own d row) h
        by e at false f h fit_all = tied-fits e (filter (own d) (slice_index_or tables d [])) (slice_index_or rows d []) fit_all (tie_of query d) h
