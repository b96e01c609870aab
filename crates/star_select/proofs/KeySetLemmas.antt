-- A row of the fact has its combination exactly where it is selected by key sets, and picks find the values of that combination.
use Rattle.std.proofs.Common.{◌≡◌, ℕ, suc, ◌+◌, ◌<◌, ◌==◌, Bool, true, false, not, ◌&&◌, ◌||◌, List, [], ◌∷◌, map, filter, find, length, slice_get, slice_index_or, Option, Some, None, option_map, if◌then◌else◌, refl, sym, ap, ◌∙◌, subst, arith}
use Rattle.std.specs.Prelude.{pos}
use Rattle.std.specs.List.{list_all, list_any, zip, position_or_len}
use Rattle.std.specs.Option.{is_some, option_and_then}
use Rattle.std.proofs.lemmas.Bool.{eqb-true, eq-eqb}
use Rattle.std.proofs.lemmas.List.Folds.{find_at, list_all-map}
use Rattle.std.proofs.lemmas.Option.{get_or_from_slice_get, slice_get-map, slice_get_within}
use Rattle.blink_base.specs.declared.value.Value.{Value}
use Rattle.blink_base.specs.declared.value.Value.TheVariants.{Int}
use Rattle.blink_base.specs.Values.{Row, same_value}
use Rattle.blink_lists.specs.Lists.{numbered, numbered_from}
use Rattle.star_sql.specs.declared.ast.Select.{Select}
use Rattle.star_meaning.specs.Names.{Scope, FromEntry, Combination}
use Rattle.star_bind.specs.declared.query.Query.{Query}
use Rattle.star_bind.specs.declared.query.Tie.{Tie}
use Rattle.star_bind.specs.declared.query.ColumnRef.{ColumnRef}
use Rattle.star_bind.specs.StarForm.{ties_of}
use Rattle.star_bind.specs.BoundAnswer.{ref_value}
use Rattle.star_bind.specs.BoundQuery.{Schemas, scope_of, query_in, query_of}
use Rattle.star_bind.specs.Laws.{value_in, row_of_key, tied_row, may_hold}
use Rattle.code_join.specs.Keys.{Keyed, is_key, entry_at, payload_of}
use Rattle.code_join.specs.KeyLaws.{EntriesOfKeys}
use Rattle.code_group.specs.Entries.{picked_beside}
use Rattle.dim_filter.specs.Entries.{entry_of}
use Rattle.blink_lists.proofs.AllLemmas.{all-alike}
use Rattle.blink_lists.proofs.FindLemmas.{find-map}
use Rattle.blink_lists.proofs.BoolLemmas.{and-true, all-and, all-swap, all-guarded}
use Rattle.star_bind.specs.Joins.{is_wanted, key_at, wanted_if, wanted_beside, joined_row}
use Rattle.star_select.specs.KeySets.{keyed_of, key_maps, is_selected, MayBeAsked, SelectsByKeys, PicksByPlace}
use Rattle.star_select.specs.Picks.{same_ref, named_refs, wanted_columns, pick_if, pick_of, tied_columns}
use Rattle.star_bind.proofs.TieLemmas.{Each, IsTie}
use Rattle.star_bind.proofs.StarLemmas.{all-each, IsPart}
use Rattle.star_bind.proofs.AcceptanceLemmas.{Accepted, accepted, scope_accepted, parts_from}
use Rattle.star_bind.proofs.FactRowLemmas.{query-is, tied}
use Rattle.star_select.proofs.NamedColumnLemmas.{is_among}
use Rattle.star_select.proofs.ListLemmas.{some-same, none-some, each-both, each-place, zip-length, zip-place, zip-maps, found-passes, any-found, some-map, any-numbered, there-some, there-place, any-once}

module _ (scope : Scope) (s : Select) (fact : ℕ) (a : Accepted scope s fact) (tables : List (List Row)) (sized : length tables ≡ length scope) (allowed : list_all may_hold (zip scope tables) ≡ true) where
  abbrev query : Query
  query = query_in scope s fact

  abbrev ties : List Tie
  ties = ties_of scope s fact

  abbrev own : ℕ → Row → Bool
  own = is_wanted (query_in scope s fact)

  pub parts : Each (IsPart scope fact ties own) (numbered (zip scope tables))
  parts = parts_from scope fact ties own (tied scope s fact a) 0 scope tables (λ j. ap (slice_get scope) (omega arith)) a.counted allowed

  -- each part has the rows of its table
  abbrev IsThere : ℕ × (FromEntry × List Row) → Type 0
  IsThere p = slice_index_or tables p.0 [] ≡ p.1.1

  there-from : (n : ℕ) (es : Scope) (ts : List (List Row)) → ((j : ℕ) → slice_index_or tables (n + j) [] ≡ slice_index_or ts j []) → Each IsThere (numbered_from n (zip es ts))
  there-from n [] ts h = tt
  there-from n (e ∷ es) [] h = tt
  there-from n (e ∷ es) (t ∷ ts) h =
      let here : slice_index_or tables n [] ≡ t = subst (λ k. slice_index_or tables k [] ≡ t) (omega arith) (h 0) in
      let more : (j : ℕ) → slice_index_or tables (n + 1 + j) [] ≡ slice_index_or ts j [] = λ j. subst (λ k. slice_index_or tables k [] ≡ slice_index_or ts j []) (omega arith) (h (suc j)) in
      (here, there-from (n + 1) es ts more)

  are_there : Each IsThere (numbered (zip scope tables))
  are_there = there-from 0 scope tables (λ j. ap (λ k. slice_index_or tables k []) (omega arith))

  -- the entries of a dimension, and the one of a key
  abbrev entries : ℕ → Keyed
  entries d = map (entry_of (key_at scope d) (wanted_columns query d)) (filter (own d) (slice_index_or tables d []))

  entry-is : (d k : ℕ) (rs : List Row) (v : Value) → key_at scope d ≡ k → slice_index_or tables d [] ≡ rs
      → entry_at (entries d) v ≡ option_map (entry_of (key_at scope d) (wanted_columns query d)) (find (λ x. same_value (value_in x k) v) (filter (own d) rs))
  entry-is d k rs v key rows =
      find-map (entry_of (key_at scope d) (wanted_columns query d)) (λ e. same_value e.0 v) (filter (own d) (slice_index_or tables d []))
      ∙ (λ i. option_map (entry_of (key_at scope d) (wanted_columns query d)) (find (λ x. same_value (value_in x (key i)) v) (filter (own d) (rows i))))

  module _ (row : Row) where
    -- whether the tied value of a tie is a key
    abbrev hit : Tie → Bool
    hit t = is_some (entry_at (entries t.dimension) (value_in row t.column))

    -- the row of a dimension beside the row of the fact
    beside-is : (d : ℕ) (e : FromEntry) (rs : List Row) (t : Tie) (k : ℕ) → find (λ t. t.dimension == d) ties ≡ Some t → e.schema.key ≡ Some k
        → wanted_if query row d (e, rs) false ≡ find (λ x. same_value (value_in x k) (value_in row t.column)) (filter (own d) rs)
    beside-is d e rs t k one key = ap (option_and_then (tied_row (e, filter (own d) rs) row)) one ∙ ap (λ o. row_of_key o (filter (own d) rs) (value_in row t.column)) key

    no_tie : (d : ℕ) → d ≡ fact → (ts : List Tie) → Each (IsTie scope fact) ts → list_all (λ t. not (t.dimension == d) || hit t) ts ≡ true
    no_tie d e [] all = refl
    no_tie d e (t ∷ ts) all = rw (let away : (t.dimension == d) ≡ false = ap (λ n. t.dimension == n) e ∙ all.0.4 in away) (no_tie d e ts all.1)

    part-some : (p : ℕ × (FromEntry × List Row)) → IsPart scope fact ties own p × IsThere p
        → is_some (wanted_beside query row p) ≡ ((not (p.0 == fact) || own fact row) && list_all (λ t. not (t.dimension == p.0) || hit t) ties)
    part-some (d, (e, rs)) (part, rows) = by (d == fact) refl
      where
        of_own : (b : Bool) → is_some (if b then Some row else None) ≡ b
        of_own true = refl
        of_own false = refl

        by : (b : Bool) → (d == fact) ≡ b → is_some (wanted_if query row d (e, rs) b) ≡ ((not b || own fact row) && list_all (λ t. not (t.dimension == d) || hit t) ties)
        by true h = of_own (own d row) ∙ ap (λ n. own n row) (eqb-true d fact h) ∙ sym (and-true (own fact row)) ∙ ap (λ b. own fact row && b) (sym (no_tie d (eqb-true d fact h) ties (tied scope s fact a)))
        by false h =
            let (t, k, one, key, same_key, alone, distinct) = part h in
            let at : t.dimension ≡ d = eqb-true t.dimension d (found-passes (λ t. t.dimension == d) ties t one) in
            ap (λ (o : Option Row). is_some o) (beside-is d e rs t k one key)
            ∙ sym (some-map (entry_of (key_at scope d) (wanted_columns query d)) (find (λ x. same_value (value_in x k) (value_in row t.column)) (filter (own d) rs)))
            ∙ ap (λ (o : Option (Value × Row)). is_some o) (sym (entry-is d k rs (value_in row t.column) same_key rows))
            ∙ ap (λ n. is_some (entry_at (entries n) (value_in row t.column))) (sym at)
            ∙ sym (alone hit)

    pub selects : EntriesOfKeys → is_some (joined_row query scope tables row) ≡ is_selected query (key_maps query scope tables) row
    selects keyed =
        there-some (map (wanted_beside query row) (numbered (zip scope tables)))
        ∙ list_all-map (λ (o : Option Row). is_some o) (wanted_beside query row) (numbered (zip scope tables))
        ∙ all-each (λ p. IsPart scope fact ties own p × IsThere p) (λ p. is_some (wanted_beside query row p)) (λ p. (not (p.0 == fact) || own fact row) && list_all (λ t. not (t.dimension == p.0) || hit t) ties)
        part-some (numbered (zip scope tables)) (each-both (IsPart scope fact ties own) IsThere (numbered (zip scope tables)) parts are_there)
        ∙ all-and (λ p. not (p.0 == fact) || own fact row) (λ p. list_all (λ t. not (t.dimension == p.0) || hit t) ties) (numbered (zip scope tables))
        ∙ (λ i. all-guarded (λ p. p.0 == fact) (own fact row) (numbered (zip scope tables)) (any-numbered (λ n. n == fact) fact 0 (zip scope tables) (here fact) (within fact a.within)) i
        && (all-swap (λ t p. not (t.dimension == p.0) || hit t) ties (numbered (zip scope tables))
        ∙ all-each (IsTie scope fact) (λ t. list_all (λ p. not (t.dimension == p.0) || hit t) (numbered (zip scope tables))) hit
        (λ t is. all-guarded (λ p. t.dimension == p.0) (hit t) (numbered (zip scope tables)) (any-numbered (λ n. t.dimension == n) t.dimension 0 (zip scope tables) (back t.dimension) (within t.dimension (slice_get_within scope t.dimension is.0 is.2)))) ties (tied scope s fact a)
        ∙ all-alike hit (λ t. is_key (entries t.dimension) (value_in row t.column)) (λ t. keyed (entries t.dimension) (value_in row t.column)) ties
        ∙ sym (zip-maps (λ (p : ℕ × Keyed). is_key p.1 (value_in row p.0)) (λ (t : Tie). t.column) (keyed_of query scope tables) ties)) i)
      where
        here : (n : ℕ) → (0 + n == n) ≡ true
        here n = eq-eqb (0 + n) n (omega arith)

        back : (n : ℕ) → (n == 0 + n) ≡ true
        back n = eq-eqb n (0 + n) (omega arith)

        within : (n : ℕ) → n < length scope → n < length (zip scope tables)
        within n l = subst (λ m. n < m) (sym (zip-length scope tables sized)) l

    pub picks : (rows : Combination) → joined_row query scope tables row ≡ Some rows → (r : ColumnRef) → list_any (same_ref r) (named_refs query) ≡ true → r.table < length tables
        → picked_beside (tied_columns query) (key_maps query scope tables) row (pick_of query r) ≡ ref_value r rows
    picks rows all r named below =
        let (e, both, here) = zip-place [] scope tables r.table sized (subst (λ n. r.table < n) sized below) in
        let beside : wanted_beside query row (r.table, (e, slice_index_or tables r.table [])) ≡ Some (slice_index_or rows r.table []) =
        subst (λ n. wanted_beside query row (n, (e, slice_index_or tables r.table [])) ≡ Some (slice_index_or rows r.table [])) (omega arith) (there-place [] (wanted_beside query row) 0 (zip scope tables) rows all r.table (e, slice_index_or tables r.table []) both) in
        let part : IsPart scope fact ties own (r.table, (e, slice_index_or tables r.table [])) =
        subst (λ n. IsPart scope fact ties own (n, (e, slice_index_or tables r.table []))) (omega arith) (each-place (IsPart scope fact ties own) 0 (zip scope tables) r.table (e, slice_index_or tables r.table []) parts both) in
        by e (r.table == fact) refl beside part
      where
        rs : List Row
        rs = slice_index_or tables r.table []

        own-row : (b : Bool) → (if b then Some row else None) ≡ Some (slice_index_or rows r.table []) → row ≡ slice_index_or rows r.table []
        own-row true h = some-same row (slice_index_or rows r.table []) h
        own-row false h = absurd (none-some (slice_index_or rows r.table []) h)

        by : (e : FromEntry) (b : Bool) → (r.table == fact) ≡ b → wanted_if query row r.table (e, slice_index_or tables r.table []) b ≡ Some (slice_index_or rows r.table [])
            → IsPart scope fact ties own (r.table, (e, slice_index_or tables r.table []))
            → picked_beside (tied_columns query) (key_maps query scope tables) row (pick_if b query r)
            ≡ value_in (slice_index_or rows r.table []) r.column
        by e true h beside part = ap (λ x. value_in x r.column) (own-row (own r.table row) beside)
        by e false h beside part =
            let (t, k, one, key, same_key, alone, distinct) = part h in
            let at : t.dimension ≡ r.table = eqb-true t.dimension r.table (found-passes (λ t. t.dimension == r.table) ties t one) in
            let x : Row = slice_index_or rows r.table [] in
            let v : Value = value_in row t.column in
            let place : slice_get ties (position_or_len (λ t. t.dimension == r.table) ties) ≡ Some t = sym (find_at (λ t. t.dimension == r.table) ties) ∙ one in
            let keys : slice_index_or (map (keyed_of query scope tables) ties) (position_or_len (λ t. t.dimension == r.table) ties) [] ≡ keyed_of query scope tables t =
            get_or_from_slice_get (map (keyed_of query scope tables) ties) (position_or_len (λ t. t.dimension == r.table) ties) (keyed_of query scope tables t) []
            (slice_get-map (keyed_of query scope tables) ties (position_or_len (λ t. t.dimension == r.table) ties) ∙ ap (option_map (keyed_of query scope tables)) place) in
            let column : slice_index_or (map (λ (t : Tie). t.column) ties) (position_or_len (λ t. t.dimension == r.table) ties) 0 ≡ t.column =
            get_or_from_slice_get (map (λ (t : Tie). t.column) ties) (position_or_len (λ t. t.dimension == r.table) ties) t.column 0
            (slice_get-map (λ (t : Tie). t.column) ties (position_or_len (λ t. t.dimension == r.table) ties) ∙ ap (option_map (λ (t : Tie). t.column)) place) in
            let entry : entry_at (entries r.table) v ≡ Some (entry_of (key_at scope r.table) (wanted_columns query r.table) x) =
            entry-is r.table k (slice_index_or tables r.table []) v same_key refl
            ∙ ap (option_map (entry_of (key_at scope r.table) (wanted_columns query r.table))) (sym (beside-is r.table e (slice_index_or tables r.table []) t k one key) ∙ beside) in
            let some = any-found (λ c. c == r.column) (wanted_columns query r.table) (any-once r.column (map (λ q. q.column) (filter (λ q. q.table == r.table) (named_refs query))) (is_among r (named_refs query) named)) in
            let wanted : slice_get (wanted_columns query r.table) (position_or_len (λ c. c == r.column) (wanted_columns query r.table)) ≡ Some some.0 = sym (find_at (λ c. c == r.column) (wanted_columns query r.table)) ∙ some.1 in
            (λ i. value_in (payload_of (entry_at (keys i) (value_in row (column i)))) (position_or_len (λ c. c == r.column) (wanted_columns query r.table)))
            ∙ ap (λ n. value_in (payload_of (entry_at (entries n) v)) (position_or_len (λ c. c == r.column) (wanted_columns query r.table))) at
            ∙ ap (λ o. value_in (payload_of o) (position_or_len (λ c. c == r.column) (wanted_columns query r.table))) entry
            ∙ get_or_from_slice_get (map (value_in x) (wanted_columns query r.table)) (position_or_len (λ c. c == r.column) (wanted_columns query r.table)) (value_in x some.0) (Int (pos 0))
            (slice_get-map (value_in x) (wanted_columns query r.table) (position_or_len (λ c. c == r.column) (wanted_columns query r.table)) ∙ ap (option_map (value_in x)) wanted)
            ∙ ap (value_in x) (eqb-true some.0 r.column (found-passes (λ c. c == r.column) (wanted_columns query r.table) some.0 some.1))

module _ (schemas : Schemas) (s : Select) (tables : List (List Row)) (t : MayBeAsked schemas s tables) where
  selects-at : EntriesOfKeys → (row : Row)
      → is_some (joined_row (query_of schemas s) (scope_of schemas s) tables row) ≡ is_selected (query_of schemas s) (key_maps (query_of schemas s) (scope_of schemas s) tables) row
  selects-at keyed row =
      let n = scope_accepted schemas s t.free in
      let a = accepted (scope_of schemas s) s n.1 in
      subst (λ (q : Query). is_some (joined_row q (scope_of schemas s) tables row) ≡ is_selected q (key_maps q (scope_of schemas s) tables) row) (sym (query-is schemas s a.0 a.1.is_fact))
      (selects (scope_of schemas s) s a.0 a.1 tables (t.sized ∙ sym n.0) t.allowed row keyed)

  picks-at : (row : Row) (rows : Combination) → joined_row (query_of schemas s) (scope_of schemas s) tables row ≡ Some rows
      → (r : ColumnRef) → list_any (same_ref r) (named_refs (query_of schemas s)) ≡ true → r.table < length tables
      → picked_beside (tied_columns (query_of schemas s)) (key_maps (query_of schemas s) (scope_of schemas s) tables) row (pick_of (query_of schemas s) r) ≡ ref_value r rows
  picks-at row rows =
      let n = scope_accepted schemas s t.free in
      let a = accepted (scope_of schemas s) s n.1 in
      subst (λ (q : Query). joined_row q (scope_of schemas s) tables row ≡ Some rows → (r : ColumnRef) → list_any (same_ref r) (named_refs q) ≡ true → r.table < length tables
      → picked_beside (tied_columns q) (key_maps q (scope_of schemas s) tables) row (pick_of q r) ≡ ref_value r rows) (sym (query-is schemas s a.0 a.1.is_fact))
      (picks (scope_of schemas s) s a.0 a.1 tables (t.sized ∙ sym n.0) t.allowed row rows)

pub selects_by_keys : EntriesOfKeys → SelectsByKeys
selects_by_keys keyed schemas s tables t row = selects-at schemas s tables t keyed row

pub picks_by_place : PicksByPlace
picks_by_place schemas s tables t row rows = picks-at schemas s tables t row rows
