-- The conjunctions of a table are its condition, and a query of one table keeps the rows that pass some conjunction.
use Rattle.std.proofs.Common.{◌≡◌, ℕ, ◌==◌, Bool, true, false, not, ◌&&◌, ◌||◌, List, [], ◌∷◌, ◌++◌, map, filter, filter_map, find, length, slice_index_or, Option, Some, None, refl, sym, ap, ◌∙◌, true≢false, nat_le}
use Rattle.std.specs.List.{list_any, list_all}
use Rattle.std.specs.Option.{option_map_or, option_or, is_some}
use Rattle.std.proofs.lemmas.Bool.{eqb-true}
use Rattle.std.proofs.lemmas.List.Folds.{list_all-append, list_all-map}
use Rattle.std.proofs.lemmas.List.Concat.{flat_map_single}
use Rattle.blink_base.specs.declared.refusal.Refusal.{Refusal}
use Rattle.blink_base.specs.declared.refusal.Refusal.TheVariants as refusal
use Rattle.blink_base.specs.Values.{Row}
use Rattle.blink_lists.specs.Lists.{once_each, numbered, joined, only_one, are_distinct}
use Rattle.blink_lists.proofs.GroupLemmas.{both, and_both, not_true, neither, filter-alike}
use Rattle.blink_lists.proofs.ChoiceLemmas.{any-map}
use Rattle.star_sql.specs.declared.ast.ColumnName.{ColumnName}
use Rattle.star_sql.specs.declared.ast.TestWords.{TestWords}
use Rattle.star_sql.specs.declared.ast.TestWords.TheVariants.{Compare, Columns, Between, Among, Like}
use Rattle.star_sql.specs.declared.ast.Primary.{Primary, Test as TestIn, Group'}
use Rattle.star_sql.specs.declared.ast.Cond.{Cond}
use Rattle.star_sql.specs.declared.ast.Item.{Item}
use Rattle.star_sql.specs.declared.ast.Select.{Select}
use Rattle.blink_base.specs.declared.op.Op.{Op}
use Rattle.std.specs.Str.{bytes_eq}
use Rattle.std.proofs.Common.{count_by}
use Rattle.star_sql.specs.Literals.{column_of}
use Rattle.star_meaning.specs.Names.{Scope, FromEntry, Combination, ColumnPlace, is_meant, place_if, places_in, places, place_of}
use Rattle.star_meaning.specs.NameRefusals.{name_refusal}
use Rattle.star_meaning.specs.Truth.{is_true, kept}
use Rattle.star_bind.specs.Factors.{factors, tests_in}
use Rattle.star_bind.specs.declared.query.Tie.{Tie}
use Rattle.star_bind.specs.StarForm.{needs_one_table, is_key, is_equality, ties_of, fact_if, ColumnPair, pair_of, compares_columns, is_pair_factor, tables_in, is_filter, tie_if, tie_read, tie_from, ties_in, has_star_parts, is_fact, is_star}
use Rattle.star_bind.specs.WrongKind.{has_wrong_kind}
use Rattle.star_bind.specs.Conjunctions.{and_of, factor_subtree, filters_of, table_conjunctions, passes}
use Rattle.star_bind.specs.BoundQuery.{scope_of, refused_if, scope_refusal, first_refusal}
use Rattle.star_bind.specs.Laws.{is_of_table, factor_holds, ConjunctionsAreCondition, KeptByConjunctions}
use Rattle.star_bind.proofs.ConditionLemmas.{all_once, AllMeet, and_meets, prim_meets}
use Rattle.star_bind.proofs.FactorLemmas.{factors_are_condition}

-- ---- what follows where nothing is refused

pub no_first : {X : Type 0} (a b : Option X) → option_or a b ≡ None → (a ≡ None) × (b ≡ None)
no_first None b e = (refl, e)
no_first (Some x) b e = absurd (true≢false (ap is_some e))

pub not_refused : (b : Bool) (why : Refusal) → refused_if b why ≡ None → b ≡ false
not_refused true why e = absurd (true≢false (ap is_some e))
not_refused false why e = refl

pub is_not_not : (b : Bool) → not b ≡ false → b ≡ true
is_not_not true e = refl
is_not_not false e = absurd (true≢false e)

star_of : (scope : Scope) (s : Select) → scope_refusal scope s ≡ None → is_star scope s ≡ true
star_of scope s e =
    let names = no_first (name_refusal scope s) _ e in
    let kinds = no_first (refused_if (has_wrong_kind scope s) refusal.WrongKind) _ names.1 in
    let star = no_first (refused_if (not (is_star scope s)) refusal.NotStar) _ kinds.1 in
    is_not_not (is_star scope s) (not_refused (not (is_star scope s)) refusal.NotStar star.0)

found_passes : (p : ℕ → Bool) (xs : List ℕ) → is_some (find p xs) ≡ true → (x : ℕ) × (p x ≡ true)
found_passes p [] e = absurd (true≢false (sym e))
found_passes p (x ∷ xs) e = by (p x) refl e (found_passes p xs)
  where
    by : (b : Bool) → p x ≡ b → is_some (find p (x ∷ xs)) ≡ true → (is_some (find p xs) ≡ true → (y : ℕ) × (p y ≡ true)) → (y : ℕ) × (p y ≡ true)
    by true k h r = (x, k)
    by false k h r = r (rw k at h)

-- a star has star parts, and a fact
star_has : (b : Bool) (fact : Option ℕ) → is_some (fact_if b fact) ≡ true → (b ≡ true) × (is_some fact ≡ true)
star_has true fact e = (refl, e)
star_has false fact e = absurd (true≢false (sym e))

parts_of_star : (scope : Scope) (s : Select) → is_star scope s ≡ true → (has_star_parts scope s ≡ true) × ((fact : ℕ) × (is_fact scope s fact ≡ true))
parts_of_star scope s e =
    let parts = star_has (has_star_parts scope s) (find (is_fact scope s) (map (λ p. p.0) (numbered scope))) e in
    (parts.0, found_passes (is_fact scope s) (map (λ p. p.0) (numbered scope)) parts.1)

-- ---- the tests of a table's factors are of this table

tests_of_table : (scope : Scope) (table : ℕ) (tests : List TestWords) → list_any compares_columns tests ≡ false
    → list_all (λ t. t == table) (filter_map (λ words. option_map_or (λ (p : ColumnPlace). Some p.table) (place_of scope (column_of words)) None) tests) ≡ true
    → list_all (is_of_table scope table) tests ≡ true
tests_of_table scope table [] n h = refl
tests_of_table scope table (w ∷ ws) n h =
    let parts = neither (compares_columns w) (list_any compares_columns ws) n in
    by (place_of scope (column_of w)) refl h parts.0 (tests_of_table scope table ws parts.1)
  where
    tables : List TestWords → List ℕ
    tables tests = filter_map (λ words. option_map_or (λ (p : ColumnPlace). Some p.table) (place_of scope (column_of words)) None) tests

    by : (place : Option ColumnPlace) → place_of scope (column_of w) ≡ place → list_all (λ t. t == table) (tables (w ∷ ws)) ≡ true → compares_columns w ≡ false
        → (list_all (λ t. t == table) (tables ws) ≡ true → list_all (is_of_table scope table) ws ≡ true) → list_all (is_of_table scope table) (w ∷ ws) ≡ true
    by None e m c r = rw (c, e) (r (rw e at m))
    by (Some p) e m c r = let b = both (p.table == table) (list_all (λ t. t == table) (tables ws)) (rw e at m) in rw (c, e, b.0) (r b.1)

-- what all pass of a list, of those that a further test passes
pub all-kept : {X : Type 0} (p c q : X → Bool) → ((x : X) → p x ≡ true → c x ≡ true → q x ≡ true) → (xs : List X) → list_all p xs ≡ true → list_all q (filter c xs) ≡ true
all-kept p c q step [] h = refl
all-kept p c q step (x ∷ xs) h = let b = both (p x) (list_all p xs) h in by (c x) refl b.0 (all-kept p c q step xs b.1)
  where
    by : (b : Bool) → c x ≡ b → p x ≡ true → list_all q (filter c xs) ≡ true → list_all q (filter c (x ∷ xs)) ≡ true
    by true e k r = rw (e, step x k e) r
    by false e k r = rw e r

-- whether the tests of a factor are of a table
abbrev tests_are_of : Scope → ℕ → Primary → Bool
tests_are_of scope table f = list_all (is_of_table scope table) (tests_in f)

pub filter_is_of : (scope : Scope) (table : ℕ) (f : Primary) → (is_pair_factor f || is_filter scope f) ≡ true → (not (is_pair_factor f) && list_all (λ t. t == table) (tables_in scope f)) ≡ true → tests_are_of scope table f ≡ true
filter_is_of scope table f h k =
    let own = both (not (is_pair_factor f)) (list_all (λ t. t == table) (tables_in scope f)) k in
    let plain : is_filter scope f ≡ true = ap (λ (b : Bool). b || is_filter scope f) (sym (not_true (is_pair_factor f) own.0)) ∙ h in
    let parts = both (nat_le (length (tables_in scope f)) 1) (not (list_any compares_columns (tests_in f))) plain in
    tests_of_table scope table (tests_in f) (not_true (list_any compares_columns (tests_in f)) parts.1)
    (all_once (λ t. t == table) (filter_map (λ words. option_map_or (λ (p : ColumnPlace). Some p.table) (place_of scope (column_of words)) None) (tests_in f)) own.1)

all_meet : (scope : Scope) (rows : Combination) (table : ℕ) (fs : List Primary) → list_all (tests_are_of scope table) fs ≡ true
    → AllMeet (slice_index_or rows table []) (map (factor_subtree scope) fs) (map (factor_holds scope rows) fs)
all_meet scope rows table [] h = tt
all_meet scope rows table (f ∷ fs) h =
    let b = both (tests_are_of scope table f) (list_all (tests_are_of scope table) fs) h in
    (prim_meets scope rows table f b.0, all_meet scope rows table fs b.1)

third : (a b c : Bool) → (a && b && c) ≡ true → c ≡ true
third a b c h = (both (a && b) c h).1

star_meets : (scope : Scope) (s : Select) (rows : Combination) (table : ℕ) → has_star_parts scope s ≡ true
    → list_any (passes (slice_index_or rows table [])) (table_conjunctions scope s table) ≡ list_all (factor_holds scope rows) (filters_of scope s table)
star_meets scope s rows table h =
    let row : Row = slice_index_or rows table [] in
    let fs : List Primary = filters_of scope s table in
    let few = (third (are_distinct bytes_eq s.tables) (nat_le (length s.tables) 1 || not (list_any (λ (i : Item). needs_one_table i.what) s.items)) (list_all (λ f. is_pair_factor f || is_filter scope f) (factors s.condition)) h) in
    let own = all-kept (λ f. is_pair_factor f || is_filter scope f) (λ f. not (is_pair_factor f) && list_all (λ t. t == table) (tables_in scope f)) (tests_are_of scope table) (filter_is_of scope table) (factors s.condition) few in
    any-map (passes row) (λ tests. record { tests = tests }) (and_of (map (factor_subtree scope) fs)).conjunctions
    ∙ (and_meets row (map (factor_subtree scope) fs) (map (factor_holds scope rows) fs) (all_meet scope rows table fs own)).passed
    ∙ list_all-map (λ b. b) (factor_holds scope rows) fs

pub conjunctions_are_condition : ConjunctionsAreCondition
unfolding first_refusal
conjunctions_are_condition schemas s rows table e =
    let scope : Scope = scope_of schemas s in
    star_meets scope s rows table (parts_of_star scope s (star_of scope s (no_first _ (scope_refusal scope s) e).1)).0

-- ---- one table

no_others : (a c x y : Bool) → a ≡ c → (a && not c && x && y) ≡ false
no_others true true x y e = refl
no_others true false x y e = absurd (true≢false e)
no_others false c x y e = refl

tie_if-false : (b : Bool) (mine other : ColumnPlace) → b ≡ false → tie_if b mine other ≡ []
tie_if-false true mine other e = absurd (true≢false e)
tie_if-false false mine other e = refl

-- places in the first table
in_first : {X : Type 0} (test : ℕ × X → Bool) (xs : List (ℕ × X)) → list_all (λ (p : ColumnPlace). p.table == 0) (filter_map (λ at. place_if (test at) 0 at.0) xs) ≡ true
in_first test [] = refl
in_first test (x ∷ xs) = by (test x) refl (in_first test xs)
  where
    by : (b : Bool) → test x ≡ b → list_all (λ (p : ColumnPlace). p.table == 0) (filter_map (λ at. place_if (test at) 0 at.0) xs) ≡ true
        → list_all (λ (p : ColumnPlace). p.table == 0) (filter_map (λ at. place_if (test at) 0 at.0) (x ∷ xs)) ≡ true
    by true e r = rw e r
    by false e r = rw e r

pub only_passes : (p : ColumnPlace → Bool) (xs : List ColumnPlace) (x : ColumnPlace) → list_all p xs ≡ true → only_one xs ≡ Some x → p x ≡ true
only_passes p [] x h e = absurd (true≢false (sym (ap is_some e)))
only_passes p (y ∷ []) x h e = ap (λ o. option_map_or p o true) (sym e) ∙ (both (p y) true h).0
only_passes p (y ∷ z ∷ ys) x h e = absurd (true≢false (sym (ap is_some e)))

pub first_alone : (entry : FromEntry) (c : ColumnName) (p : ColumnPlace) → place_of (entry ∷ []) c ≡ Some p → (p.table == 0) ≡ true
first_alone entry c p e =
    only_passes (λ q. q.table == 0) (places (entry ∷ []) c) p
    (list_all-append (λ (q : ColumnPlace). q.table == 0) (places_in c (0, entry)) []
    ∙ (λ i. in_first (λ at. is_meant c.table entry && bytes_eq c.column at.1.name) (numbered entry.schema.columns) i && true)) e

not_read : (scope : Scope) (fact : ℕ) (o : Op) (mine other : ColumnPlace) → mine.table ≡ other.table → tie_read scope fact o mine other ≡ []
not_read scope fact o mine other e =
    tie_if-false (mine.table == fact && not (other.table == fact) && is_key scope other && is_equality o) mine other
    (no_others (mine.table == fact) (other.table == fact) (is_key scope other) (is_equality o) (ap (λ t. t == fact) e))

no_tie : (scope : Scope) (fact : ℕ) (pair : ColumnPair) → (pair.left.table == 0) ≡ true → (pair.right.table == 0) ≡ true → tie_from scope fact pair ≡ []
no_tie scope fact pair l r =
    let same : pair.left.table ≡ pair.right.table = eqb-true pair.left.table 0 l ∙ sym (eqb-true pair.right.table 0 r) in
    λ i. not_read scope fact pair.op pair.left pair.right same i ++ not_read scope fact pair.op pair.right pair.left (sym same) i

pairs_tie_none : (entry : FromEntry) (fact : ℕ) (words : TestWords) → ties_in (entry ∷ []) fact (TestIn words) ≡ []
pairs_tie_none entry fact (Columns l o r) = by (place_of (entry ∷ []) l) (place_of (entry ∷ []) r) refl refl
  where
    by : (p q : Option ColumnPlace) → place_of (entry ∷ []) l ≡ p → place_of (entry ∷ []) r ≡ q → joined (map (tie_from (entry ∷ []) fact) (pair_of (place_of (entry ∷ []) l) o (place_of (entry ∷ []) r))) ≡ []
    by None q e k = rw e refl
    by (Some p) None e k = rw (e, k) refl
    by (Some p) (Some q) e k =
        rw (e, k) (ap (λ (ts : List _). ts ++ []) (no_tie (entry ∷ []) fact (record { left = p; op = o; right = q }) (first_alone entry l p e) (first_alone entry r q k)))
pairs_tie_none entry fact (Compare c o l) = refl
pairs_tie_none entry fact (Between c low high) = refl
pairs_tie_none entry fact (Among c list) = refl
pairs_tie_none entry fact (Like c pattern) = refl

ties_none : (entry : FromEntry) (fact : ℕ) (f : Primary) → ties_in (entry ∷ []) fact f ≡ []
ties_none entry fact (TestIn words) = pairs_tie_none entry fact words
ties_none entry fact (Group' shape cond) = refl

tables_first : (entry : FromEntry) (tests : List TestWords)
    → list_all (λ t. t == 0) (filter_map (λ words. option_map_or (λ (p : ColumnPlace). Some p.table) (place_of (entry ∷ []) (column_of words)) None) tests) ≡ true
tables_first entry [] = refl
tables_first entry (w ∷ ws) = by (place_of (entry ∷ []) (column_of w)) refl (tables_first entry ws)
  where
    tables : List TestWords → List ℕ
    tables tests = filter_map (λ words. option_map_or (λ (p : ColumnPlace). Some p.table) (place_of (entry ∷ []) (column_of words)) None) tests

    by : (place : Option ColumnPlace) → place_of (entry ∷ []) (column_of w) ≡ place → list_all (λ t. t == 0) (tables ws) ≡ true → list_all (λ t. t == 0) (tables (w ∷ ws)) ≡ true
    by None e r = rw e r
    by (Some p) e r = rw (e, first_alone entry (column_of w) p e) r

all-fewer : {X : Type 0} (p c : X → Bool) (xs : List X) → list_all p xs ≡ true → list_all p (filter c xs) ≡ true
all-fewer p c xs h = all-kept p c p (λ x k m. k) xs h

pub once_all : (p : ℕ → Bool) (ks : List ℕ) → list_all p ks ≡ true → list_all p (once_each (λ x y. x == y) ks) ≡ true
once_all p [] h = refl
once_all p (k ∷ ks) h =
    let b = both (p k) (list_all p ks) h in
    rw b.0 (all-fewer p (λ y. not (k == y)) (once_each (λ x y. x == y) ks) (once_all p ks b.1))

all-pass : {X : Type 0} (c : X → Bool) (xs : List X) → list_all c xs ≡ true → filter c xs ≡ xs
all-pass c [] h = refl
all-pass c (x ∷ xs) h = let b = both (c x) (list_all c xs) h in rw b.0 (ap (λ l. x ∷ l) (all-pass c xs b.1))

all_follow : {X : Type 0} (p q : X → Bool) → ((x : X) → p x ≡ true → q x ≡ true) → (xs : List X) → list_all p xs ≡ true → list_all q xs ≡ true
all_follow p q step [] h = refl
all_follow p q step (x ∷ xs) h = let b = both (p x) (list_all p xs) h in rw (step x b.0) (all_follow p q step xs b.1)

-- in a query of one table every factor is a filter of it
all_filters : (entry : FromEntry) (s : Select) (fact : ℕ) → is_fact (entry ∷ []) s fact ≡ true → filters_of (entry ∷ []) s 0 ≡ factors s.condition
all_filters entry s fact h =
    all-pass (λ f. not (is_pair_factor f) && list_all (λ t. t == 0) (tables_in (entry ∷ []) f)) (factors s.condition)
    (all_follow (λ f. not (is_pair_factor f) || length (ties_in (entry ∷ []) fact f) == 1) (λ f. not (is_pair_factor f) && list_all (λ t. t == 0) (tables_in (entry ∷ []) f))
    (λ f k. and_both (not (is_pair_factor f)) (list_all (λ t. t == 0) (tables_in (entry ∷ []) f)) (no_pair f k)
    (once_all (λ t. t == 0) (filter_map (λ words. option_map_or (λ (p : ColumnPlace). Some p.table) (place_of (entry ∷ []) (column_of words)) None) (tests_in f)) (tables_first entry (tests_in f))))
    (factors s.condition)
    (both (list_all (λ f. not (is_pair_factor f) || length (ties_in (entry ∷ []) fact f) == 1) (factors s.condition))
    (list_all (λ p. p.0 == fact || count_by (λ (t : Tie). t.dimension == p.0) (ties_of (entry ∷ []) s fact) == 1) (numbered (entry ∷ []))) h).0)
  where
    of_or : (a b : Bool) → b ≡ false → (a || b) ≡ true → a ≡ true
    of_or true b k m = refl
    of_or false b k m = absurd (true≢false (sym m ∙ k))

    no_pair : (f : Primary) → (not (is_pair_factor f) || length (ties_in (entry ∷ []) fact f) == 1) ≡ true → not (is_pair_factor f) ≡ true
    no_pair f k = of_or (not (is_pair_factor f)) (length (ties_in (entry ∷ []) fact f) == 1) (ap (λ ts. length ts == 1) (ties_none entry fact f)) k

filter-map : {X Y : Type 0} (p : Y → Bool) (f : X → Y) (xs : List X) → filter p (map f xs) ≡ map f (filter (λ x. p (f x)) xs)
filter-map p f [] = refl
filter-map p f (x ∷ xs) = by (p (f x)) refl (filter-map p f xs)
  where
    by : (b : Bool) → p (f x) ≡ b → filter p (map f xs) ≡ map f (filter (λ y. p (f y)) xs) → filter p (map f (x ∷ xs)) ≡ map f (filter (λ y. p (f y)) (x ∷ xs))
    by true e r = rw e (ap (λ l. f x ∷ l) r)
    by false e r = rw e r

kept_by_factors : (entry : FromEntry) (cond : Option Cond) (rows : List Row)
    → kept (entry ∷ []) cond (rows ∷ []) ≡ map (λ row. row ∷ []) (filter (λ row. list_all (factor_holds (entry ∷ []) (row ∷ [])) (factors cond)) rows)
kept_by_factors entry None rows =
    flat_map_single (λ row. row ∷ []) rows ∙ ap (map (λ row. row ∷ [])) (sym (all-pass (λ row. true) rows (all_true_of rows)))
  where
    all_true_of : (xs : List Row) → list_all (λ x. true) xs ≡ true
    all_true_of [] = refl
    all_true_of (x ∷ xs) = all_true_of xs
kept_by_factors entry (Some cond) rows =
    ap (filter (is_true (entry ∷ []) cond)) (flat_map_single (λ row. row ∷ []) rows)
    ∙ filter-map (is_true (entry ∷ []) cond) (λ row. row ∷ []) rows
    ∙ ap (map (λ row. row ∷ [])) (filter-alike (λ row. is_true (entry ∷ []) cond (row ∷ [])) (λ row. list_all (factor_holds (entry ∷ []) (row ∷ [])) (factors (Some cond))) (λ row. factors_are_condition (entry ∷ []) cond (row ∷ [])) rows)

pub kept_by_conjunctions : KeptByConjunctions
kept_by_conjunctions entry s rows e =
    let star = parts_of_star (entry ∷ []) s (star_of (entry ∷ []) s e) in
    kept_by_factors entry s.condition rows
    ∙ ap (map (λ row. row ∷ [])) (filter-alike (λ row. list_all (factor_holds (entry ∷ []) (row ∷ [])) (factors s.condition)) (λ row. list_any (passes row) (table_conjunctions (entry ∷ []) s 0))
    (λ row. ap (list_all (factor_holds (entry ∷ []) (row ∷ []))) (sym (all_filters entry s star.1.0 star.1.1)) ∙ sym (star_meets (entry ∷ []) s (row ∷ []) 0 star.0)) rows)
