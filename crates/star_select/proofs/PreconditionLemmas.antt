-- What calls ask of the parts of a query over images.
use Rattle.std.proofs.Common.{◌≡◌, ◌<◌, ◌==◌, ℕ, zero, suc, Bool, true, false, not, ◌&&◌, ◌||◌, List, [], ◌∷◌, map, filter, length, nat_lt, nat_le, slice_get, slice_index_or, get_or, Option, Some, None, refl, sym, ap, ◌∙◌, subst, true≢false, arith}
use Rattle.std.specs.Prelude.{unwrap_or, IsSome}
use Rattle.std.specs.List.{list_all, list_any, zip}
use Rattle.std.specs.Option.{option_map_or, is_some}
use Rattle.std.proofs.lemmas.Bool.{eqb-true, lt-ltb, ltb-true}
use Rattle.std.proofs.lemmas.List.Folds.{list_all-map}
use Rattle.std.proofs.lemmas.Option.{slice_get_within}
use Rattle.blink_base.specs.declared.schema.Schema.{Schema}
use Rattle.blink_base.specs.RowFits.{fits}
use Rattle.blink_base.specs.Values.{Row}
use Rattle.blink_lists.specs.Lists.{are_distinct}
use Rattle.blink_lists.proofs.AllLemmas.{all_at, all-once_each}
use Rattle.blink_lists.proofs.GroupLemmas.{both, and_both, all-imply}
use Rattle.star_sql.specs.declared.ast.Select.{Select}
use Rattle.star_meaning.specs.Names.{Scope, FromEntry, Combination}
use Rattle.star_bind.specs.declared.query.ColumnRef.{ColumnRef}
use Rattle.star_bind.specs.declared.query.ColumnTest.{ColumnTest}
use Rattle.star_bind.specs.declared.query.Conjunction.{Conjunction}
use Rattle.star_bind.specs.declared.query.Query.{Query}
use Rattle.star_bind.specs.declared.limits.TheConstants.{MOST_CONJUNCTIONS}
use Rattle.star_bind.specs.BoundQuery.{Schemas, scope_of, query_in, query_of}
use Rattle.star_bind.specs.Joins.{filters_at, key_in, joined_row}
use Rattle.star_bind.specs.QueryShape.{column_count, is_ref, is_number_ref, is_tie, is_conjunction, is_condition_on, QueriesHaveShape}
use Rattle.star_bind.proofs.AcceptanceLemmas.{accepted, scope_accepted}
use Rattle.star_bind.proofs.FactRowLemmas.{query-is}
use Rattle.cell_layout.specs.Image.{TableImage}
use Rattle.cell_layout.specs.Valid.{is_valid}
use Rattle.cell_scan.specs.ValueTests.{ValueTest}
use Rattle.code_join.specs.Keys.{Keyed}
use Rattle.code_group.specs.Entries.{picked_beside}
use Rattle.code_group.specs.Plans.{is_good_number, pick_there, sums_numbers}
use Rattle.star_select.specs.CodeSelection.{conjunction_tests, key_tests, put_if, put_test, put_tests, fact_tests}
use Rattle.star_select.specs.ImageAnswer.{rows_in, image_keys, HasImages, ImagesMayBeAsked, TablesHaveImages}
use Rattle.star_select.specs.KeySets.{key_maps, MayBeAsked, SelectsByKeys, PicksByPlace}
use Rattle.star_select.specs.Picks.{same_ref, named_refs, wanted_columns, pick_of, tied_columns}
use Rattle.star_select.specs.Preconditions.{PlansAreThere, SumsAreNumbers, IsDimension, TiesHaveDimensions, FactTestsApart}
use Rattle.star_select.specs.QueryPlan.{plan_of}
use Rattle.star_select.proofs.DimensionLemmas.{pick-there, row-fits, column-within}
use Rattle.star_select.proofs.ImageAnswerLemmas.{entry-same, columns-as-many, as-many}
use Rattle.star_select.proofs.ListLemmas.{some-same, none-some, zip-place, all-place}
use Rattle.star_select.proofs.NamedColumnLemmas.{is_named, all-named, ref-within, refs-there}
use Rattle.star_select.proofs.PlanLemmas.{plan-picks, plan-sums}
use Rattle.star_select.proofs.SumLemmas.{value-good, is_summed, all-summed}

-- a fact's entry of FROM
module _ (schemas : Schemas) (s : Select) (images : List TableImage) (image : TableImage) (has : HasImages schemas s images) (here : slice_get images (query_of schemas s).fact ≡ Some image) where
  fact-entry : (entry : FromEntry) × (slice_get (scope_of schemas s) (query_of schemas s).fact ≡ Some entry) × (image.schema ≡ entry.schema) × (length image.columns ≡ length entry.schema.columns)
  fact-entry =
      let (entry, at, same) = entry-same (scope_of schemas s) images has.same (query_of schemas s).fact image here in
      (entry, at, same, columns-as-many image (all-place is_valid images (query_of schemas s).fact image has.valid here) ∙ ap (λ (x : Schema). length x.columns) same)

-- ---- picks

pick-at : (schemas : Schemas) (s : Select) (tables : List (List Row)) → MayBeAsked schemas s tables → (entry : FromEntry) → slice_get (scope_of schemas s) (query_of schemas s).fact ≡ Some entry
    → (r : ColumnRef) → is_named (scope_of schemas s) (query_of schemas s) r ≡ true → pick_there (length entry.schema.columns) (key_maps (query_of schemas s) (scope_of schemas s) tables) (pick_of (query_of schemas s) r) ≡ true
pick-at schemas s tables asked entry =
    let scope : Scope = scope_of schemas s in
    let n = scope_accepted schemas s asked.free in
    let a = accepted scope s n.1 in
    subst (λ (q : Query). slice_get scope q.fact ≡ Some entry → (r : ColumnRef) → is_named scope q r ≡ true → pick_there (length entry.schema.columns) (key_maps q scope tables) (pick_of q r) ≡ true) (sym (query-is schemas s a.0 a.1.is_fact))
    (λ at r h.
    let b = both (list_any (same_ref r) (named_refs (query_in scope s a.0))) (is_ref scope r) h in
    pick-there scope s a.0 a.1 tables (asked.sized ∙ sym n.0) asked.allowed entry at r b.0 b.1)

pub plans_are_there : QueriesHaveShape → ImagesMayBeAsked → PlansAreThere
plans_are_there shaped asked schemas s images image has here =
    let scope : Scope = scope_of schemas s in
    let query : Query = query_of schemas s in
    let named = all-named scope query (shaped schemas s has.formed has.free) in
    let (entry, at, same, many) = fact-entry schemas s images image has here in
    let keys : List Keyed = image_keys query scope images in
    plan-picks query (is_named scope query) (pick_there (length image.columns) keys)
    (λ r h. ap (λ n. pick_there n keys (pick_of query r)) many ∙ pick-at schemas s (rows_in images) (asked schemas s images has) entry at r h) named.0 named.1

-- ---- sums

fits-at : (schemas : Schemas) (s : Select) (tables : List (List Row)) → MayBeAsked schemas s tables → (row : Row) (entry : FromEntry) → slice_get (scope_of schemas s) (query_of schemas s).fact ≡ Some entry → fits entry.schema row ≡ true
    → (rows : Combination) → joined_row (query_of schemas s) (scope_of schemas s) tables row ≡ Some rows → (d : ℕ) → d < length (scope_of schemas s)
    → (e : FromEntry) × (slice_get (scope_of schemas s) d ≡ Some e) × (fits e.schema (slice_index_or rows d []) ≡ true)
fits-at schemas s tables asked row entry =
    let scope : Scope = scope_of schemas s in
    let n = scope_accepted schemas s asked.free in
    let a = accepted scope s n.1 in
    subst (λ (q : Query). slice_get scope q.fact ≡ Some entry → fits entry.schema row ≡ true → (rows : Combination) → joined_row q scope tables row ≡ Some rows → (d : ℕ) → d < length scope
    → (e : FromEntry) × (slice_get scope d ≡ Some e) × (fits e.schema (slice_index_or rows d []) ≡ true)) (sym (query-is schemas s a.0 a.1.is_fact))
    (λ at fit rows all d l. row-fits scope s a.0 a.1 tables (asked.sized ∙ sym n.0) asked.allowed row entry at fit rows all d l)

pub sums_are_numbers : QueriesHaveShape → ImagesMayBeAsked → SelectsByKeys → PicksByPlace → SumsAreNumbers
sums_are_numbers shaped asked by_keys by_place schemas s images image has here row fit selected =
    let scope : Scope = scope_of schemas s in
    let query : Query = query_of schemas s in
    let tables : List (List Row) = rows_in images in
    let may = asked schemas s images has in
    let (entry, at, same, many) = fact-entry schemas s images image has here in
    by (joined_row query scope tables row) refl (by_keys schemas s tables may row ∙ selected) entry at (ap (λ (x : Schema). fits x row) (sym same) ∙ fit)
  where
    good : (rows : Combination) → joined_row (query_of schemas s) (scope_of schemas s) (rows_in images) row ≡ Some rows → (entry : FromEntry) → slice_get (scope_of schemas s) (query_of schemas s).fact ≡ Some entry → fits entry.schema row ≡ true
        → (r : ColumnRef) → is_summed (scope_of schemas s) (query_of schemas s) r ≡ true
        → is_good_number (picked_beside (tied_columns (query_of schemas s)) (image_keys (query_of schemas s) (scope_of schemas s) images) row (pick_of (query_of schemas s) r)) ≡ true
    good rows all entry at fits_fact r h =
        let scope : Scope = scope_of schemas s in
        let query : Query = query_of schemas s in
        let may = asked schemas s images has in
        let b = both (is_named scope query r) (is_number_ref scope r) h in
        let c = both (list_any (same_ref r) (named_refs query)) (is_ref scope r) b.0 in
        let below = ref-within scope r c.1 in
        let (e, there, fit_row) = fits-at schemas s (rows_in images) may row entry at fits_fact rows all r.table below in
        ap is_good_number (by_place schemas s (rows_in images) may row rows all r c.0 (slice-within e there))
        ∙ value-good scope r e (slice_index_or rows r.table []) b.1 there fit_row
      where
        slice-within : (e : FromEntry) → slice_get (scope_of schemas s) r.table ≡ Some e → r.table < length (rows_in images)
        slice-within e there =
            let n = scope_accepted schemas s has.free in
            subst (λ m. r.table < m) (n.0 ∙ sym (asked schemas s images has).sized) (slice_get_within (scope_of schemas s) r.table e there)

    by : (o : Option Combination) → joined_row (query_of schemas s) (scope_of schemas s) (rows_in images) row ≡ o → is_some o ≡ true → (entry : FromEntry) → slice_get (scope_of schemas s) (query_of schemas s).fact ≡ Some entry → fits entry.schema row ≡ true
        → sums_numbers (plan_of (query_of schemas s)) (picked_beside (tied_columns (query_of schemas s)) (image_keys (query_of schemas s) (scope_of schemas s) images) row) ≡ true
    by None e k entry at f = absurd (true≢false (sym k))
    by (Some rows) e k entry at f =
        plan-sums (query_of schemas s) (is_summed (scope_of schemas s) (query_of schemas s)) (λ p. is_good_number (picked_beside (tied_columns (query_of schemas s)) (image_keys (query_of schemas s) (scope_of schemas s) images) row p))
        (good rows e entry at f) (all-summed (scope_of schemas s) (query_of schemas s) (shaped schemas s has.formed has.free))

-- ---- dimensions

image-at : (scope : Scope) (images : List TableImage) → map (λ image. image.schema) images ≡ map (λ entry. entry.schema) scope → (k : ℕ) (entry : FromEntry) → slice_get scope k ≡ Some entry
    → (image : TableImage) × (slice_get images k ≡ Some image) × (image.schema ≡ entry.schema)
image-at [] images same k entry here = absurd (none-some entry here)
image-at (e ∷ scope) [] same k entry here = absurd (let l = ap (λ (l : List Schema). length l) same in omega (arith, l))
image-at (e ∷ scope) (x ∷ images) same zero entry here = (x, refl, ap (first_of x.schema) same ∙ ap (λ (y : FromEntry). y.schema) (some-same e entry here))
  where
    first_of : Schema → List Schema → Schema
    first_of other [] = other
    first_of other (schema ∷ schemas) = schema
image-at (e ∷ scope) (x ∷ images) same (suc k) entry here = image-at scope images (ap others same) k entry here
  where
    others : List Schema → List Schema
    others [] = []
    others (schema ∷ schemas) = schemas

pub tables_have_images : QueriesHaveShape → TablesHaveImages
tables_have_images shaped schemas s images has =
    let scope : Scope = scope_of schemas s in
    let query : Query = query_of schemas s in
    let shape = shaped schemas s has.formed has.free in
    let (entry, pair, at) = zip-place [] scope query.filters query.fact shape.as_many shape.fact in
    let found = image-at scope images has.same query.fact entry at in
    ((as-many schemas s images shaped has).0 ∙ sym shape.tables, found.0, found.1)

-- the wanted columns of a table are there
wanted-there : (scope : Scope) (query : Query) (table : ℕ) (entry : FromEntry) → slice_get scope table ≡ Some entry → list_all (is_ref scope) (named_refs query) ≡ true
    → list_all (λ c. nat_lt c (length entry.schema.columns)) (wanted_columns query table) ≡ true
wanted-there scope query table entry here all =
    all-once_each (λ x y. x == y) (λ c. nat_lt c (length entry.schema.columns)) (map (λ (r : ColumnRef). r.column) (filter (λ (r : ColumnRef). r.table == table) (named_refs query)))
    (list_all-map (λ c. nat_lt c (length entry.schema.columns)) (λ (r : ColumnRef). r.column) (filter (λ (r : ColumnRef). r.table == table) (named_refs query)) ∙ each (named_refs query) all)
  where
    each : (rs : List ColumnRef) → list_all (is_ref scope) rs ≡ true → list_all (λ (r : ColumnRef). nat_lt r.column (length entry.schema.columns)) (filter (λ (r : ColumnRef). r.table == table) rs) ≡ true
    each [] h = refl
    each (r ∷ rs) h = let b = both (is_ref scope r) (list_all (is_ref scope) rs) h in by (r.table == table) refl b.0 (each rs b.1)
      where
        by : (c : Bool) → (r.table == table) ≡ c → is_ref scope r ≡ true → list_all (λ (q : ColumnRef). nat_lt q.column (length entry.schema.columns)) (filter (λ (q : ColumnRef). q.table == table) rs) ≡ true
            → list_all (λ (q : ColumnRef). nat_lt q.column (length entry.schema.columns)) (filter (λ (q : ColumnRef). q.table == table) (r ∷ rs)) ≡ true
        by true e k more = rw e (and_both (nat_lt r.column (length entry.schema.columns)) _ (lt-ltb r.column (length entry.schema.columns) (column-within scope r entry k (ap (slice_get scope) (eqb-true r.table table e) ∙ here))) more)
        by false e k more = rw e more

pub ties_have_dimensions : QueriesHaveShape → TiesHaveDimensions
ties_have_dimensions shaped schemas s images place tie has at =
    let scope : Scope = scope_of schemas s in
    let query : Query = query_of schemas s in
    let shape = shaped schemas s has.formed has.free in
    let is = all-place (is_tie scope query.fact) query.ties place tie shape.ties at in
    let keyed = (both (nat_lt tie.column (column_count scope query.fact) && not (tie.dimension == query.fact)) (option_map_or (λ entry. is_some entry.schema.key) (slice_get scope tie.dimension) false) is).1 in
    by (slice_get scope tie.dimension) refl keyed (refs-there scope query shape)
  where
    key-some : (o : Option ℕ) → is_some o ≡ true → IsSome o
    key-some None e = absurd (true≢false (sym e))
    key-some (Some k) e = refl

    key-column : (o : Option ℕ) → key_in o ≡ unwrap_or o 0
    key-column None = refl
    key-column (Some k) = refl

    by : (o : Option FromEntry) → slice_get (scope_of schemas s) tie.dimension ≡ o → option_map_or (λ entry. is_some entry.schema.key) o false ≡ true → list_all (is_ref (scope_of schemas s)) (named_refs (query_of schemas s)) ≡ true
        → (image : TableImage) × (slice_get images tie.dimension ≡ Some image) × IsDimension (query_of schemas s) (scope_of schemas s) tie image
    by None e k all = absurd (true≢false (sym k))
    by (Some entry) e k all =
        let (image, here, same) = image-at (scope_of schemas s) images has.same tie.dimension entry e in
        let many : length image.columns ≡ length entry.schema.columns = columns-as-many image (all-place is_valid images tie.dimension image has.valid here) ∙ ap (λ (x : Schema). length x.columns) same in
        let wanted = ap (λ n. list_all (λ c. nat_lt c n) (wanted_columns (query_of schemas s) tie.dimension)) many ∙ wanted-there (scope_of schemas s) (query_of schemas s) tie.dimension entry e all in (
          image,
          here,
          record {
            key = key-some image.schema.key (ap (λ (x : Schema). is_some x.key) same ∙ k);
            column = ap (λ (o : Option FromEntry). option_map_or (λ x. key_in x.schema.key) o 0) e ∙ ap (λ (x : Schema). key_in x.key) (sym same) ∙ key-column image.schema.key;
            wanted = λ i d l. ltb-true (get_or (wanted_columns (query_of schemas s) tie.dimension) i d) (length image.columns) (all_at (λ c. nat_lt c (length image.columns)) (wanted_columns (query_of schemas s) tie.dimension) i d wanted l);
          },
        )

-- ---- tests

-- the columns that are tested when one test more is put
put-any : (k : ℕ) (tests : List ValueTest) (b : ValueTest) → list_any (λ y. k == y) (map (λ (t : ValueTest). t.column) (put_test tests b)) ≡ (list_any (λ y. k == y) (map (λ (t : ValueTest). t.column) tests) || k == b.column)
put-any k [] b = last (k == b.column)
  where
    last : (c : Bool) → (c || false) ≡ c
    last true = refl
    last false = refl
put-any k (a ∷ tests) b = by (a.column == b.column) refl (put-any k tests b)
  where
    met : (x y z : Bool) → z ≡ x → (x || y) ≡ ((x || y) || z)
    met true y z e = refl
    met false true z e = refl
    met false false z e = sym e

    later : (x y z : Bool) → (x || (y || z)) ≡ ((x || y) || z)
    later true y z = refl
    later false y z = refl

    by : (c : Bool) → (a.column == b.column) ≡ c → list_any (λ y. k == y) (map (λ (t : ValueTest). t.column) (put_test tests b)) ≡ (list_any (λ y. k == y) (map (λ (t : ValueTest). t.column) tests) || k == b.column)
        → list_any (λ y. k == y) (map (λ (t : ValueTest). t.column) (put_if c a tests b (put_test tests b))) ≡ ((k == a.column || list_any (λ y. k == y) (map (λ (t : ValueTest). t.column) tests)) || k == b.column)
    by true e more = met (k == a.column) (list_any (λ y. k == y) (map (λ (t : ValueTest). t.column) tests)) (k == b.column) (ap (λ n. k == n) (sym (eqb-true a.column b.column e)))
    by false e more = ap (λ c. k == a.column || c) more ∙ later (k == a.column) (list_any (λ y. k == y) (map (λ (t : ValueTest). t.column) tests)) (k == b.column)

-- whether no column is tested twice
abbrev apart : List ValueTest → Bool
apart tests = are_distinct (λ x y. x == y) (map (λ (t : ValueTest). t.column) tests)

put-apart : (tests : List ValueTest) (b : ValueTest) → apart tests ≡ true → apart (put_test tests b) ≡ true
put-apart [] b h = refl
put-apart (a ∷ tests) b h =
    let c = both (not (list_any (λ y. a.column == y) (map (λ (t : ValueTest). t.column) tests))) (apart tests) h in
    by (a.column == b.column) refl c.0 c.1 (put-apart tests b c.1)
  where
    neither-of : (x y : Bool) → not x ≡ true → y ≡ false → not (x || y) ≡ true
    neither-of true y e f = absurd (true≢false (sym e))
    neither-of false y e f = ap not f

    by : (c : Bool) → (a.column == b.column) ≡ c → not (list_any (λ y. a.column == y) (map (λ (t : ValueTest). t.column) tests)) ≡ true → apart tests ≡ true → apart (put_test tests b) ≡ true → apart (put_if c a tests b (put_test tests b)) ≡ true
    by true e f g more = and_both (not (list_any (λ y. a.column == y) (map (λ (t : ValueTest). t.column) tests))) (apart tests) f g
    by false e f g more =
        and_both (not (list_any (λ y. a.column == y) (map (λ (t : ValueTest). t.column) (put_test tests b)))) (apart (put_test tests b))
        (ap not (put-any a.column tests b) ∙ neither-of (list_any (λ y. a.column == y) (map (λ (t : ValueTest). t.column) tests)) (a.column == b.column) f e) more

all-put-apart : (tests more : List ValueTest) → apart tests ≡ true → apart (put_tests tests more) ≡ true
all-put-apart tests [] h = h
all-put-apart tests (b ∷ more) h = all-put-apart (put_test tests b) more (put-apart tests b h)

conjunction-columns : (c : Conjunction) → map (λ (t : ValueTest). t.column) (conjunction_tests c) ≡ map (λ t. t.column) c.tests
conjunction-columns c = columns c.tests
  where
    columns : (ts : List ColumnTest) → map (λ (t : ValueTest). t.column) (conjunction_tests (record { tests = ts })) ≡ map (λ t. t.column) ts
    columns [] = refl
    columns (t ∷ ts) = ap (λ l. t.column ∷ l) (columns ts)

pub fact_tests_apart : QueriesHaveShape → FactTestsApart
fact_tests_apart shaped schemas s keys formed free =
    let scope : Scope = scope_of schemas s in
    let query : Query = query_of schemas s in
    let shape = shaped schemas s formed free in
    let (e, pair, at) = zip-place [] scope query.filters query.fact shape.as_many shape.fact in
    let cs : List Conjunction = filters_at query query.fact in
    let condition = all-place (λ p. is_condition_on (length p.0.schema.columns) p.1) (zip scope query.filters) query.fact (e, cs) shape.filters pair in
    let each = (both (nat_lt 0 (length cs) && nat_le (length cs) MOST_CONJUNCTIONS) (list_all (is_conjunction (length e.schema.columns)) cs) condition).1 in
    all-imply (is_conjunction (length e.schema.columns)) (λ c. apart (fact_tests query keys c))
    (λ c h. all-put-apart (conjunction_tests c) (key_tests query keys)
    (ap (are_distinct (λ x y. x == y)) (conjunction-columns c) ∙ (both (list_all (λ t. nat_lt t.column (length e.schema.columns)) c.tests) (are_distinct (λ x y. x == y) (map (λ t. t.column) c.tests)) h).1)) cs each
