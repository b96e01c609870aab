-- What holds of a query that has no refusal: its tables are there, its names mean columns, and it has a fact to which all other tables are tied.
use Rattle.std.proofs.Common.{◌≡◌, ℕ, suc, ◌+◌, ◌<◌, ◌==◌, Bool, true, false, not, ◌&&◌, ◌||◌, List, [], ◌∷◌, ◌++◌, map, filter, find, count_by, length, slice_get, Option, Some, None, option_map, cond, refl, sym, ap, ◌∙◌, subst, true≢false, arith}
use Rattle.std.specs.Prelude.{is_none, nat_lt, nat_le, filter_map}
use Rattle.std.specs.List.{list_all, list_any, zip, cons_option}
use Rattle.std.specs.Option.{option_map_or, is_some, option_or}
use Rattle.std.specs.Str.{bytes_eq}
use Rattle.std.proofs.lemmas.Bool.{and_parts, eqb-true, lt-ltb}
use Rattle.std.proofs.lemmas.List.Folds.{list_all-append}
use Rattle.blink_base.specs.declared.refusal.Refusal.{Refusal}
use Rattle.blink_base.specs.declared.refusal.Refusal.TheVariants as why
use Rattle.blink_base.specs.declared.schema.Schema.{Schema}
use Rattle.blink_base.specs.Values.{Row}
use Rattle.blink_base.specs.RowFits.{fits}
use Rattle.blink_lists.specs.Lists.{numbered, numbered_from, first_of, only_one, are_distinct}
use Rattle.star_sql.specs.declared.ast.ColumnName.{ColumnName}
use Rattle.star_sql.specs.declared.ast.Select.{Select}
use Rattle.star_meaning.specs.Names.{Scope, FromEntry, ColumnPlace, places, place_of, name_text}
use Rattle.star_meaning.specs.NameRefusals.{names_in, column_keys, is_unknown, is_ambiguous, is_unknown_key, unknown_names, ambiguous_names, name_refusal}
use Rattle.star_bind.specs.declared.query.Tie.{Tie}
use Rattle.star_bind.specs.Factors.{factors}
use Rattle.star_bind.specs.StarForm.{is_pair_factor, is_filter, ties_in, ties_of, fact_if, is_fact, has_star_parts, needs_one_table, fact_of, is_star}
use Rattle.star_bind.specs.BoundQuery.{Schemas, entry_of, scope_of, unknown_tables, refused_if, scope_refusal, first_refusal}
use Rattle.star_bind.specs.GroupRule.{is_grouped}
use Rattle.star_bind.specs.WrongKind.{has_wrong_kind}
use Rattle.star_bind.specs.Laws.{may_hold, has_own_keys}
use Rattle.blink_lists.proofs.BoolLemmas.{one_of}
use Rattle.star_bind.proofs.TieLemmas.{Each, IsTie}
use Rattle.star_bind.specs.Joins.{key_in}
use Rattle.star_bind.proofs.StarLemmas.{IsPart}

some-none : {X : Type 0} (x : X) → Some x ≡ None → ⊥
some-none x e = true≢false (ap is_some e)

option_or-none : {X : Type 0} (a b : Option X) → option_or a b ≡ None → (a ≡ None) × (b ≡ None)
option_or-none None b e = (refl, e)
option_or-none (Some x) b e = absurd (some-none x e)

refused_if-none : (b : Bool) (why : Refusal) → refused_if b why ≡ None → b ≡ false
refused_if-none true why e = absurd (some-none why e)
refused_if-none false why e = refl

first_of-none : {X : Type 0} (xs : List X) → first_of xs ≡ None → xs ≡ []
first_of-none [] e = refl
first_of-none (x ∷ xs) e = absurd (some-none x e)

length-none : {X : Type 0} (xs : List X) → length xs ≡ 0 → xs ≡ []
length-none [] e = refl
length-none (x ∷ xs) e = absurd (omega (arith, e))

map-none : {X Y : Type 0} (f : X → Y) (xs : List X) → map f xs ≡ [] → xs ≡ []
map-none f [] e = refl
map-none f (x ∷ xs) e = absurd (let l = ap length e in omega (arith, l))

append-none : {X : Type 0} (xs ys : List X) → xs ++ ys ≡ [] → (xs ≡ []) × (ys ≡ [])
append-none [] ys e = (refl, e)
append-none (x ∷ xs) ys e = absurd (let l = ap length e in omega (arith, l))

filter-none : {X : Type 0} (p : X → Bool) (xs : List X) → filter p xs ≡ [] → list_all (λ x. not (p x)) xs ≡ true
filter-none p [] e = refl
filter-none p (x ∷ xs) e = by (p x) e (filter-none p xs)
  where
    by : (b : Bool) → cond b (x ∷ filter p xs) (filter p xs) ≡ [] → (filter p xs ≡ [] → list_all (λ x. not (p x)) xs ≡ true) → (not b && list_all (λ x. not (p x)) xs) ≡ true
    by true f more = absurd (let l = ap length f in omega (arith, l))
    by false f more = more f

not-not : (a : Bool) → not a ≡ false → a ≡ true
not-not true e = refl
not-not false e = absurd (true≢false e)

not-yes : (a : Bool) → not a ≡ true → a ≡ false
not-yes true e = absurd (true≢false (sym e))
not-yes false e = refl

pub each-find : {X : Type 0} (P : X → Type 0) (p : X → Bool) (xs : List X) (x : X) → Each P xs → find p xs ≡ Some x → P x
each-find P p [] x all e = absurd (some-none x (sym e))
each-find {X = X} P p (y ∷ ys) x all e = by (p y) e (each-find P p ys x all.1)
  where
    some : Option X → X
    some None = y
    some (Some z) = z

    by : (b : Bool) → cond b (Some y) (find p ys) ≡ Some x → (find p ys ≡ Some x → P x) → P x
    by true f more = subst P (ap some f) all.0
    by false f more = more f

find-passes : {X : Type 0} (p : X → Bool) (xs : List X) (x : X) → find p xs ≡ Some x → p x ≡ true
find-passes p [] x e = absurd (some-none x (sym e))
find-passes {X = X} p (y ∷ ys) x e = by (p y) refl e (find-passes p ys x)
  where
    some : Option X → X
    some None = y
    some (Some z) = z

    by : (b : Bool) → p y ≡ b → cond b (Some y) (find p ys) ≡ Some x → (find p ys ≡ Some x → p x ≡ true) → p x ≡ true
    by true g f more = subst (λ z. p z ≡ true) (ap some f) g
    by false g f more = more f

-- ---- the names

only_one-known : (ps : List ColumnPlace) → (length ps == 0) ≡ false → nat_lt 1 (length ps) ≡ false → is_some (only_one ps) ≡ true
only_one-known [] a b = absurd (true≢false a)
only_one-known (p ∷ []) a b = refl
only_one-known (p ∷ q ∷ ps) a b = absurd (true≢false (sym (lt-ltb 1 (length (p ∷ q ∷ ps)) (omega arith)) ∙ b))

known_all : (scope : Scope) (cs : List ColumnName) → list_all (λ c. not (is_unknown scope c)) cs ≡ true → list_all (λ c. not (is_ambiguous scope c)) cs ≡ true → list_all (λ c. is_some (place_of scope c)) cs ≡ true
known_all scope [] a b = refl
known_all scope (c ∷ cs) a b =
    let x = and_parts (not (is_unknown scope c)) (list_all (λ c. not (is_unknown scope c)) cs) a in
    let y = and_parts (not (is_ambiguous scope c)) (list_all (λ c. not (is_ambiguous scope c)) cs) b in
    λ i. only_one-known (places scope c) (not-yes (is_unknown scope c) x.0) (not-yes (is_ambiguous scope c) y.0) i && known_all scope cs x.1 y.1 i

pub names_known : (scope : Scope) (s : Select) → name_refusal scope s ≡ None → list_all (λ c. is_some (place_of scope c)) (names_in s) ≡ true
names_known scope s e =
    let parts = append-none (map (λ c. why.UnknownColumn (name_text c)) (unknown_names scope s)) (map (λ c. why.AmbiguousColumn (name_text c)) (ambiguous_names scope s)) (first_of-none _ e) in
    let unknown = append-none (filter (is_unknown scope) (names_in s)) (filter (is_unknown_key scope s) (column_keys s)) (map-none (λ c. why.UnknownColumn (name_text c)) (unknown_names scope s) parts.0) in
    let ambiguous = map-none (λ c. why.AmbiguousColumn (name_text c)) (ambiguous_names scope s) parts.1 in
    let plain = filter-none (is_ambiguous scope) (names_in s ++ column_keys s) ambiguous in
    known_all scope (names_in s) (filter-none (is_unknown scope) (names_in s) unknown.0)
    (and_parts (list_all (λ c. not (is_ambiguous scope c)) (names_in s)) (list_all (λ c. not (is_ambiguous scope c)) (column_keys s)) (sym (list_all-append (λ c. not (is_ambiguous scope c)) (names_in s) (column_keys s)) ∙ plain)).0

-- ---- the tables

scope-length : (schemas : Schemas) (names : List (List ℕ)) → filter (λ name. is_none (schemas name)) names ≡ [] → length (filter_map (entry_of schemas) names) ≡ length names
scope-length schemas [] e = refl
scope-length schemas (name ∷ names) e = by (schemas name) e (scope-length schemas names)
  where
    by : (o : Option Schema) → cond (is_none o) (name ∷ filter (λ name. is_none (schemas name)) names) (filter (λ name. is_none (schemas name)) names) ≡ []
        → (filter (λ name. is_none (schemas name)) names ≡ [] → length (filter_map (entry_of schemas) names) ≡ length names)
        → length (cons_option (option_map (λ schema. let f : FromEntry = record { name = name; schema = schema } in f) o) (filter_map (entry_of schemas) names)) ≡ length (name ∷ names)
    by None f more = absurd (let l = ap length f in omega (arith, l))
    by (Some schema) f more = ap (λ n. suc n) (more f)

-- ---- the star

pub record Accepted (scope : Scope) (s : Select) (fact : ℕ) : Type 0 where
  pub known : list_all (λ c. is_some (place_of scope c)) (names_in s) ≡ true
  pub is_fact : fact_of scope s ≡ Some fact
  pub within : fact < length scope
  pub single : list_all (λ f. not (is_pair_factor f) || length (ties_in scope fact f) == 1) (factors s.condition) ≡ true
  pub counted : list_all (λ p. p.0 == fact || count_by (λ t. t.dimension == p.0) (ties_of scope s fact) == 1) (numbered scope) ≡ true
  pub grouped : is_grouped scope s ≡ true
  pub parted : list_all (λ f. is_pair_factor f || is_filter scope f) (factors s.condition) ≡ true

numbers-within : (n from : ℕ) (es : Scope) → from + length es ≡ n → Each (λ k. k < n) (map (λ p. p.0) (numbered_from from es))
numbers-within n from [] l = tt
numbers-within n from (e ∷ es) l = (omega (arith, l), numbers-within n (from + 1) es (omega (arith, l)))

some_is : {X : Type 0} (o : Option X) → is_some o ≡ true → (x : X) × (o ≡ Some x)
some_is None e = absurd (true≢false (sym e))
some_is (Some x) e = (x, refl)

fact_parts : (scope : Scope) (s : Select) (fact : ℕ) → fact_of scope s ≡ Some fact → (has_star_parts scope s ≡ true) × (find (is_fact scope s) (map (λ p. p.0) (numbered scope)) ≡ Some fact)
fact_parts scope s fact e = by (has_star_parts scope s) e
  where
    by : (b : Bool) → fact_if b (find (is_fact scope s) (map (λ p. p.0) (numbered scope))) ≡ Some fact → (b ≡ true) × (find (is_fact scope s) (map (λ p. p.0) (numbered scope)) ≡ Some fact)
    by true f = (refl, f)
    by false f = absurd (some-none fact (sym f))

pub accepted : (scope : Scope) (s : Select) → scope_refusal scope s ≡ None → (fact : ℕ) × Accepted scope s fact
accepted scope s e =
    let a = option_or-none (name_refusal scope s) _ e in
    let b = option_or-none (refused_if (has_wrong_kind scope s) why.WrongKind) _ a.1 in
    let c = option_or-none (refused_if (not (is_star scope s)) why.NotStar) _ b.1 in
    let d = option_or-none (refused_if (not (is_grouped scope s)) why.NotGrouped) _ c.1 in
    let star = some_is (fact_of scope s) (not-not (is_star scope s) (refused_if-none (not (is_star scope s)) why.NotStar c.0)) in
    let parts = fact_parts scope s star.0 star.1 in
    let fact = find-passes (is_fact scope s) (map (λ p. p.0) (numbered scope)) star.0 parts.1 in
    let split = and_parts (list_all (λ f. not (is_pair_factor f) || length (ties_in scope star.0 f) == 1) (factors s.condition)) (list_all (λ p. p.0 == star.0 || count_by (λ t. t.dimension == p.0) (ties_of scope s star.0) == 1) (numbered scope)) fact in (
      star.0,
      record {
        known = names_known scope s a.0;
        is_fact = star.1;
        within = each-find (λ k. k < length scope) (is_fact scope s) (map (λ p. p.0) (numbered scope)) star.0 (numbers-within (length scope) 0 scope (omega arith)) parts.1;
        single = split.0;
        counted = split.1;
        grouped = not-not (is_grouped scope s) (refused_if-none (not (is_grouped scope s)) why.NotGrouped d.0);
        parted = (and_parts (are_distinct bytes_eq s.tables && (nat_le (length s.tables) 1 || not (list_any (λ i. needs_one_table i.what) s.items))) (list_all (λ f. is_pair_factor f || is_filter scope f) (factors s.condition)) parts.0).1;
      },
    )

pub scope_accepted : (schemas : Schemas) (s : Select) → first_refusal schemas s ≡ None → (length (scope_of schemas s) ≡ length s.tables) × (scope_refusal (scope_of schemas s) s ≡ None)
unfolding first_refusal
scope_accepted schemas s e =
    let a = option_or-none (first_of (unknown_tables schemas s)) (scope_refusal (scope_of schemas s) s) e in
    (scope-length schemas s.tables (map-none why.UnknownTable (filter (λ name. is_none (schemas name)) s.tables) (first_of-none (unknown_tables schemas s) a.0)), a.1)

-- ---- the parts of a star

module _ (scope : Scope) (fact : ℕ) (ties : List Tie) (own : ℕ → Row → Bool) (tied : Each (IsTie scope fact) ties) where
  part_is : (d : ℕ) (e : FromEntry) (rows : List Row) → slice_get scope d ≡ Some e → (d == fact || count_by (λ t. t.dimension == d) ties == 1) ≡ true → may_hold (e, rows) ≡ true → IsPart scope fact ties own (d, (e, rows))
  part_is d e rows here counted holds away =
      let one = one_of (λ t. t.dimension == d) ties (eqb-true (count_by (λ t. t.dimension == d) ties) 1 (sym (ap (λ b. b || count_by (λ t. t.dimension == d) ties == 1) away) ∙ counted)) in
      let is = each-find (IsTie scope fact) (λ t. t.dimension == d) ties one.0 tied one.1 in
      let at : one.0.dimension ≡ d = eqb-true one.0.dimension d one.2 in
      let same : Some is.0 ≡ Some e = sym is.2 ∙ ap (slice_get scope) at ∙ here in
      let key : e.schema.key ≡ Some is.1 = sym (ap (λ (o : Option FromEntry). option_map_or (λ x. x.schema.key) o None) same) ∙ is.3 in
      let distinct = (and_parts (list_all (fits e.schema) rows) (has_own_keys e.schema.key rows) holds).1 in
      (one.0, is.1, one.1, key, ap (λ (o : Option FromEntry). option_map_or (λ x. key_in x.schema.key) o 0) here ∙ ap key_in key, one.3, sym (ap (λ k. has_own_keys k rows) key) ∙ distinct)

  pub parts_from : (n : ℕ) (es : Scope) (ts : List (List Row)) → ((j : ℕ) → slice_get scope (n + j) ≡ slice_get es j)
      → list_all (λ p. p.0 == fact || count_by (λ t. t.dimension == p.0) ties == 1) (numbered_from n es) ≡ true → list_all may_hold (zip es ts) ≡ true
      → Each (IsPart scope fact ties own) (numbered_from n (zip es ts))
  parts_from n [] ts h counted holds = tt
  parts_from n (e ∷ es) [] h counted holds = tt
  parts_from n (e ∷ es) (t ∷ ts) h counted holds =
      let c = and_parts (n == fact || count_by (λ t. t.dimension == n) ties == 1) (list_all (λ p. p.0 == fact || count_by (λ t. t.dimension == p.0) ties == 1) (numbered_from (n + 1) es)) counted in
      let m = and_parts (may_hold (e, t)) (list_all may_hold (zip es ts)) holds in
      let here : slice_get scope n ≡ Some e = subst (λ k. slice_get scope k ≡ Some e) (omega arith) (h 0) in
      let more : (j : ℕ) → slice_get scope (n + 1 + j) ≡ slice_get es j = λ j. subst (λ k. slice_get scope k ≡ slice_get es j) (omega arith) (h (suc j)) in
      (part_is n e t here c.0 m.0, parts_from (n + 1) es ts more c.1 m.1)
