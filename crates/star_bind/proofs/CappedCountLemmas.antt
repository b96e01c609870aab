-- Columns that are gathered one behind the other, and numbers that are capped at each step.
use Rattle.std.proofs.Common.{◌≡◌, ◌<◌, ◌≤◌, ◌+◌, ◌*◌, ◌==◌, ℕ, suc, Bool, true, false, not, ◌&&◌, ◌||◌, cond, List, [], ◌∷◌, ◌++◌, map, filter, sum_by, length, drop, get_or, Option, Some, None, append_assoc, add-one, drop-cons, refl, sym, ap, ◌∙◌, arith}
use Rattle.std.specs.List.{list_any}
use Rattle.std.specs.Prelude.{option_map, is_none}
use Rattle.blink_base.specs.declared.value.Kind.{Kind}
use Rattle.std.specs.Option.{option_map_or}
use Rattle.blink_base.specs.declared.test.Test.{Test}
use Rattle.std.proofs.lemmas.Bool.{eqb-true}
use Rattle.std.proofs.lemmas.List.{append-nil, drop_all}
use Rattle.std.proofs.lemmas.List.Sums.{sum_by-cons}
use Rattle.std.proofs.lemmas.List.Folds.{list_any-append}
use Rattle.blink_lists.specs.Lists.{joined, once_each}
use Rattle.star_sql.specs.declared.ast.Primary.{Primary}
use Rattle.star_sql.specs.declared.ast.ColumnName.{ColumnName}
use Rattle.star_sql.specs.declared.ast.TestWords.{TestWords}
use Rattle.star_sql.specs.Conditions.{of_prim}
use Rattle.star_sql.specs.Literals.{test_of, column_of}
use Rattle.star_meaning.specs.Names.{Scope, ColumnPlace, place_of, kind_at}
use Rattle.star_bind.specs.declared.names.scope.Place.{Place}
use Rattle.star_bind.specs.Lookup.{place_in}
use Rattle.star_bind.specs.declared.conditions.count.Count.{Count}
use Rattle.star_bind.specs.Caps.{capped}
use Rattle.star_bind.specs.Counts.{Counted, counted, counted_columns, product_of, and_count, or_count, leaf_count, test_count, factor_count}
use Rattle.star_bind.specs.CappedCounts.{with_column, add_once, sum_from, product_from, count_of, count_columns, count_test, count_every, count_some}
use Rattle.star_bind.proofs.CapLemmas.{caps_compose}
use Rattle.star_bind.proofs.FoldLemmas.{AllAgree, prim_agrees}

filter-filter : (p q : ℕ → Bool) (xs : List ℕ) → filter p (filter q xs) ≡ filter (λ z. q z && p z) xs
filter-filter p q [] = refl
filter-filter p q (x ∷ xs) = by (q x) (p x) refl (filter-filter p q xs)
  where
    by : (b c : Bool) → p x ≡ c → filter p (filter q xs) ≡ filter (λ z. q z && p z) xs
        → filter p (cond b (x ∷ filter q xs) (filter q xs)) ≡ cond (b && c) (x ∷ filter (λ z. q z && p z) xs) (filter (λ z. q z && p z) xs)
    by true true e h = rw e (ap (λ ys. x ∷ ys) h)
    by true false e h = rw e h
    by false c e h = h

-- not among these
abbrev is_new : List ℕ → ℕ → Bool
is_new a z = not (list_any (λ x. x == z) a)

once_is : (a ys : List ℕ) → add_once a ys ≡ a ++ filter (is_new a) (once_each (λ x y. x == y) ys)
once_is a [] = sym (append-nil a)
once_is a (y ∷ ys) = by (λ c. once_is c ys) (list_any (λ x. x == y) a) refl
  where
    same_there : (z : ℕ) (b : Bool) → list_any (λ x. x == y) a ≡ true → (y == z) ≡ b → (not b && is_new a z) ≡ is_new a z
    same_there z true h e = let same = eqb-true y z e in ap not (sym h) ∙ ap (is_new a) same
    same_there z false h e = refl

    same_new : (z : ℕ) (b c : Bool) → list_any (λ x. x == z) a ≡ c → (y == z) ≡ b → (not b && not c) ≡ not (c || (b || false))
    same_new z true true h e = refl
    same_new z true false h e = refl
    same_new z false true h e = refl
    same_new z false false h e = refl

    by : ((c : List ℕ) → add_once c ys ≡ c ++ filter (is_new c) (once_each (λ x y. x == y) ys)) → (b : Bool) → list_any (λ x. x == y) a ≡ b
        → add_once (cond b a (a ++ y ∷ [])) ys ≡ a ++ cond (not b) (y ∷ filter (is_new a) (filter (λ z. not (y == z)) (once_each (λ x y. x == y) ys))) (filter (is_new a) (filter (λ z. not (y == z)) (once_each (λ x y. x == y) ys)))
    by ih true h =
        ih a
        ∙ ap (λ zs. a ++ zs) (ap (λ (p : ℕ → Bool). filter p (once_each (λ x y. x == y) ys)) (λ i z. sym (same_there z (y == z) h refl) i) ∙ sym (filter-filter (is_new a) (λ z. not (y == z)) (once_each (λ x y. x == y) ys)))
    by ih false h =
        ih (a ++ y ∷ [])
        ∙ append_assoc a (y ∷ []) (filter (is_new (a ++ y ∷ [])) (once_each (λ x y. x == y) ys))
        ∙ ap (λ zs. a ++ (y ∷ zs))
        (ap (λ (p : ℕ → Bool). filter p (once_each (λ x y. x == y) ys)) (λ i z. (ap not (list_any-append (λ x. x == z) a (y ∷ [])) ∙ sym (same_new z (y == z) (list_any (λ x. x == z) a) refl refl)) i)
        ∙ sym (filter-filter (is_new a) (λ z. not (y == z)) (once_each (λ x y. x == y) ys)))

filter-true : (xs : List ℕ) → filter (λ z. true) xs ≡ xs
filter-true [] = refl
filter-true (x ∷ xs) = ap (λ ys. x ∷ ys) (filter-true xs)

pub once_each_is : (ys : List ℕ) → add_once [] ys ≡ once_each (λ x y. x == y) ys
once_each_is ys = once_is [] ys ∙ filter-true (once_each (λ x y. x == y) ys)

once-append : (a xs ys : List ℕ) → add_once a (xs ++ ys) ≡ add_once (add_once a xs) ys
once-append a [] ys = refl
once-append a (x ∷ xs) ys = once-append (with_column a x) xs ys

pub next_columns : {X : Type 0} (names : X → List ℕ) (all more whole cols : List ℕ) (parts : List X) (i : ℕ) (x : X) → i < length parts → x ≡ get_or parts i x → cols ≡ names x → more ≡ add_once all cols
    → add_once all (joined (map names (drop i parts))) ≡ whole → add_once more (joined (map names (drop (i + 1) parts))) ≡ whole
next_columns {X} names all more whole cols parts i x lt is e told so_far =
    let rest = joined (map names (drop (i + 1) parts)) in
    let here : drop i parts ≡ x ∷ drop (i + 1) parts = rw (add-one, drop-cons parts i x) (ap (λ (y : X). y ∷ drop (suc i) parts) (sym is)) in
    ap (λ (a : List ℕ). add_once a rest) (told ∙ ap (add_once all) e) ∙ sym (once-append all (names x) rest)
    ∙ ap (λ (ps : List X). add_once all (joined (map names ps))) (sym here) ∙ so_far

pub all_columns : {X : Type 0} (names : X → List ℕ) (all : List ℕ) (parts : List X) (i : ℕ) → length parts ≤ i
    → add_once all (joined (map names (drop i parts))) ≡ add_once [] (joined (map names parts)) → all ≡ once_each (λ x y. x == y) (joined (map names parts))
all_columns {X} names all parts i le so_far =
    ap (λ (ps : List X). add_once all (joined (map names ps))) (sym (drop_all i parts le)) ∙ so_far ∙ once_each_is (joined (map names parts))

-- the numbers of a list, gathered one behind the other
pub all_numbers : {X : Type 0} (f : X → ℕ) (all : List ℕ) (xs : List X) (i : ℕ) → length xs ≤ i → add_once all (map f (drop i xs)) ≡ add_once [] (map f xs) → all ≡ once_each (λ x y. x == y) (map f xs)
all_numbers {X} f all xs i le so_far = ap (λ (ys : List X). add_once all (map f ys)) (sym (drop_all i xs le)) ∙ so_far ∙ once_each_is (map f xs)

-- a count is capped
abbrev pub IsCapped : Count → Counted → Type 0
IsCapped a b = (a.columns ≡ b.columns) × (a.number ≡ capped b.count)

same_columns : (xs : List Count) (ys : List Counted) → AllAgree IsCapped xs ys → map (λ (p : Count). p.columns) xs ≡ map (λ (p : Counted). p.columns) ys
same_columns [] [] a = refl
same_columns [] (y ∷ ys) a = absurd a
same_columns (x ∷ xs) [] a = absurd a
same_columns (x ∷ xs) (y ∷ ys) a = λ i. a.0.0 i ∷ same_columns xs ys a.1 i

sums_capped : (xs : List Count) (ys : List Counted) (n m : ℕ) → AllAgree IsCapped xs ys → n ≡ capped m → sum_from n (map (λ (p : Count). p.number) xs) ≡ capped (m + sum_by (λ (p : Counted). p.count) ys)
sums_capped [] [] n m a e = e ∙ ap capped (omega arith)
sums_capped [] (y ∷ ys) n m a e = absurd a
sums_capped (x ∷ xs) [] n m a e = absurd a
sums_capped (x ∷ xs) (y ∷ ys) n m a e =
    sums_capped xs ys (capped (n + x.number)) (m + y.count) a.1 ((λ i. capped (e i + a.0.1 i)) ∙ sym ((caps_compose m y.count).0))
    ∙ ap capped (omega (arith, sum_by-cons (λ (p : Counted). p.count) y ys))

products_capped : (xs : List Count) (ys : List Counted) (n m : ℕ) → AllAgree IsCapped xs ys → n ≡ capped m → product_from n (map (λ (p : Count). p.number) xs) ≡ capped (m * product_of (map (λ (p : Counted). p.count) ys))
products_capped [] [] n m a e = e ∙ ap capped (omega arith)
products_capped [] (y ∷ ys) n m a e = absurd a
products_capped (x ∷ xs) [] n m a e = absurd a
products_capped (x ∷ xs) (y ∷ ys) n m a e =
    products_capped xs ys (capped (n * x.number)) (m * y.count) a.1 ((λ i. capped (e i * a.0.1 i)) ∙ sym ((caps_compose m y.count).1))
    ∙ ap capped (grind arith)

counts_capped : (ks js : List ℕ) (n m : ℕ) → ks ≡ js → n ≡ capped m → IsCapped (count_of ks n) (counted js m)
counts_capped [] [] n m e f = (refl, f)
counts_capped [] (j ∷ js) n m e f = absurd (cc)
counts_capped (k ∷ ks) [] n m e f = absurd (cc)
counts_capped (k ∷ []) (j ∷ []) n m e f = (e, refl)
counts_capped (k ∷ []) (j ∷ i ∷ js) n m e f = absurd (cc)
counts_capped (k ∷ i ∷ ks) (j ∷ []) n m e f = absurd (cc)
counts_capped (k ∷ i ∷ ks) (j ∷ h ∷ js) n m e f = (e, f)

every_capped : (xs : List Count) (ys : List Counted) → AllAgree IsCapped xs ys → IsCapped (count_every xs) (and_count ys)
every_capped xs ys a =
    counts_capped (count_columns xs) (counted_columns ys) (product_from 1 (map (λ (p : Count). p.number) xs)) (product_of (map (λ (p : Counted). p.count) ys))
    (ap (λ (cs : List (List ℕ)). once_each (λ x y. x == y) (joined cs)) (same_columns xs ys a)) (products_capped xs ys 1 1 a refl ∙ ap capped (omega arith))

some_capped : (xs : List Count) (ys : List Counted) → AllAgree IsCapped xs ys → IsCapped (count_some xs) (or_count ys)
some_capped xs ys a =
    counts_capped (count_columns xs) (counted_columns ys) (sum_from 0 (map (λ (p : Count). p.number) xs)) (sum_by (λ (p : Counted). p.count) ys)
    (ap (λ (cs : List (List ℕ)). once_each (λ x y. x == y) (joined cs)) (same_columns xs ys a)) (sums_capped xs ys 0 0 a refl ∙ ap capped (omega arith))

pub prim_capped : (scope : Scope) (p : Primary) → IsCapped (of_prim (count_test scope) (λ x. x) count_every count_some p) (factor_count scope p)
prim_capped scope p =
    prim_agrees IsCapped (count_test scope) (λ x. x) count_every count_some (test_count scope) (λ c. c) and_count or_count
    (λ w. test_capped (option_map (λ p. p.column) (place_of scope (column_of w))) (option_map_or (λ p. test_of (kind_at scope p) w) (place_of scope (column_of w)) None))
    (λ x y a. a) every_capped some_capped p
  where
    test_capped : (o : Option ℕ) (t : Option Test) → IsCapped (let c = leaf_count o t in record { columns = c.columns; number = c.count }) (leaf_count o t)
    test_capped (Some k) (Some t) = (refl, refl)
    test_capped (Some k) None = (refl, refl)
    test_capped None t = (refl, refl)

prims_capped : (scope : Scope) (ps : List Primary) → AllAgree IsCapped (map (of_prim (count_test scope) (λ x. x) count_every count_some) ps) (map (factor_count scope) ps)
prims_capped scope [] = tt
prims_capped scope (p ∷ ps) = (prim_capped scope p, prims_capped scope ps)

-- the count of an AND of factors is that of the factors, capped
pub factors_capped : (scope : Scope) (ps : List Primary) → (count_every (map (of_prim (count_test scope) (λ x. x) count_every count_some) ps)).number ≡ capped (and_count (map (factor_count scope) ps)).count
factors_capped scope ps = (every_capped (map (of_prim (count_test scope) (λ x. x) count_every count_some) ps) (map (factor_count scope) ps) (prims_capped scope ps)).1

-- what the code makes of a test at a column
abbrev pub leaf_made : Bool → ℕ → Count
leaf_made true k = record { columns = []; number = 0 }
leaf_made false k = record { columns = k ∷ []; number = 1 }

-- a test at a column that is there is one conjunction, or none where the column refuses it
pub test_counted : (scope : Scope) (w : TestWords) (c : ColumnName) (p : Place) (k : Kind) (b : Bool) → c ≡ column_of w → Some p ≡ option_map place_in (place_of scope c)
    → k ≡ kind_at scope (record { table = p.table; column = p.column }) → b ≡ is_none (test_of k w) → leaf_made b p.column ≡ count_test scope w
test_counted scope w c p k b e there kind refused = by (place_of scope (column_of w)) (there ∙ ap (λ (n : ColumnName). option_map place_in (place_of scope n)) e)
  where
    leaf : (t : Option Test) (d : Bool) (j : ℕ) → d ≡ is_none t → leaf_made d j ≡ (let l = leaf_count (Some j) t in record { columns = l.columns; number = l.count })
    leaf (Some t) d j h = ap (λ (x : Bool). leaf_made x j) h
    leaf None d j h = ap (λ (x : Bool). leaf_made x j) h

    by : (o : Option ColumnPlace) → Some p ≡ option_map place_in o
        → leaf_made b p.column ≡ (let l = leaf_count (option_map (λ p. p.column) o) (option_map_or (λ p. test_of (kind_at scope p) w) o None) in record { columns = l.columns; number = l.count })
    by None h = absurd (cc)
    by (Some q) h =
        let same : p ≡ place_in q = cc in
        ap (λ (x : Place). leaf_made b x.column) same
        ∙ leaf (test_of (kind_at scope q) w) b q.column (refused ∙ ap (λ (x : Kind). is_none (test_of x w)) (kind ∙ ap (λ (x : Place). kind_at scope (record { table = x.table; column = x.column })) same))

pub pushed : (old more : List ℕ) (k : ℕ) → old ≡ [] → more ≡ old ++ k ∷ [] → more ≡ k ∷ []
pushed old more k e h = h ∙ ap (λ xs. xs ++ k ∷ []) e
