-- The number of conjunctions.
use Rattle.std.proofs.Common.{◌≡◌, ℕ, ◌+◌, ◌*◌, ◌==◌, List, [], ◌∷◌, map, length, sum_by, Option, Some, None, option_map, refl, sym, ap, ◌∙◌, subst, arith, length-append}
use Rattle.std.specs.List.{flat_map}
use Rattle.std.specs.Option.{option_map_or}
use Rattle.std.proofs.lemmas.List.Sums.{sum_by-cons}
use Rattle.blink_base.specs.declared.test.Test.{Test}
use Rattle.blink_base.specs.declared.tree.Tree.{Tree, All, Any}
use Rattle.blink_lists.specs.Lists.{joined, choices, once_each}
use Rattle.star_sql.specs.declared.ast.Primary.{Primary}
use Rattle.star_sql.specs.Literals.{test_of, column_of}
use Rattle.star_meaning.specs.Names.{Scope, ColumnPlace, place_of, kind_at}
use Rattle.star_bind.specs.Conjunctions.{Tests, Subtree, columns_of, subtree, merged, and_of, or_of, leaf_of, test_subtree, factor_subtree, filters_of}
use Rattle.star_bind.specs.Counts.{Counted, counted, counted_columns, product_of, and_count, or_count, leaf_count, test_count, factor_count, ConjunctionsCounted}
use Rattle.star_bind.proofs.FoldLemmas.{AllAgree, prim_agrees}

map-length : {X Y : Type 0} (f : X → Y) (xs : List X) → length (map f xs) ≡ length xs
map-length f [] = refl
map-length f (x ∷ xs) = let l = map-length f xs in omega arith

length-choices : {X : Type 0} (lists : List (List X)) → length (choices lists) ≡ product_of (map length lists)
length-choices [] = refl
length-choices {X} (xs ∷ lists) = each xs ∙ ap (λ n. length xs * n) (length-choices lists)
  where
    each : (ys : List X) → length (flat_map (λ x. map (λ chosen. x ∷ chosen) (choices lists)) ys) ≡ length ys * length (choices lists)
    each [] = omega arith
    each (y ∷ ys) =
        length-append (map (λ chosen. y ∷ chosen) (choices lists)) (flat_map (λ x. map (λ chosen. x ∷ chosen) (choices lists)) ys)
        ∙ (λ i. map-length (λ chosen. y ∷ chosen) (choices lists) i + each ys i) ∙ grind arith

length-joined : {X : Type 0} (lists : List (List X)) → length (joined lists) ≡ sum_by length lists
length-joined [] = refl
length-joined (xs ∷ lists) = length-append xs (joined lists) ∙ ap (λ n. length xs + n) (length-joined lists) ∙ sym (sum_by-cons length xs lists)

-- a subtree has these columns and so many conjunctions
record HasCount (p : Subtree) (c : Counted) : Type 0 where
  names : p.columns ≡ c.columns
  number : length p.conjunctions ≡ c.count

subtree_counts : (columns : List ℕ) (tree : Tree) (conjunctions : List Tests) (n : ℕ) → length conjunctions ≡ n → HasCount (subtree columns tree conjunctions) (counted columns n)
subtree_counts [] tree conjunctions n e = record { names = refl; number = e }
subtree_counts (k ∷ []) tree conjunctions n e = record { names = refl; number = refl }
subtree_counts (k ∷ j ∷ columns) tree conjunctions n e = record { names = refl; number = e }

same_names : (ps : List Subtree) (cs : List Counted) → AllAgree HasCount ps cs → map (λ (p : Subtree). p.columns) ps ≡ map (λ (c : Counted). c.columns) cs
same_names [] [] m = refl
same_names [] (c ∷ cs) m = absurd m
same_names (p ∷ ps) [] m = absurd m
same_names (p ∷ ps) (c ∷ cs) m = λ i. m.0.names i ∷ same_names ps cs m.1 i

same_numbers : (ps : List Subtree) (cs : List Counted) → AllAgree HasCount ps cs → map (λ (p : Subtree). length p.conjunctions) ps ≡ map (λ (c : Counted). c.count) cs
same_numbers [] [] m = refl
same_numbers [] (c ∷ cs) m = absurd m
same_numbers (p ∷ ps) [] m = absurd m
same_numbers (p ∷ ps) (c ∷ cs) m = λ i. m.0.number i ∷ same_numbers ps cs m.1 i

map-twice : {X Y Z : Type 0} (f : Y → Z) (g : X → Y) (xs : List X) → map f (map g xs) ≡ map (λ x. f (g x)) xs
map-twice f g [] = refl
map-twice f g (x ∷ xs) = ap (λ l. f (g x) ∷ l) (map-twice f g xs)

sum-numbers : (ps : List Subtree) (cs : List Counted) → AllAgree HasCount ps cs → sum_by length (map (λ (p : Subtree). p.conjunctions) ps) ≡ sum_by (λ (c : Counted). c.count) cs
sum-numbers [] [] m = refl
sum-numbers [] (c ∷ cs) m = absurd m
sum-numbers (p ∷ ps) [] m = absurd m
sum-numbers (p ∷ ps) (c ∷ cs) m =
    sum_by-cons length p.conjunctions (map (λ (q : Subtree). q.conjunctions) ps) ∙ (λ i. m.0.number i + sum-numbers ps cs m.1 i) ∙ sym (sum_by-cons (λ (d : Counted). d.count) c cs)

columns_agree : (ps : List Subtree) (cs : List Counted) → AllAgree HasCount ps cs → columns_of ps ≡ counted_columns cs
columns_agree ps cs m = ap (λ names. once_each (λ x y. x == y) (joined names)) (same_names ps cs m)

counts_at : (p : Subtree) (columns other : List ℕ) (n : ℕ) → columns ≡ other → HasCount p (counted columns n) → HasCount p (counted other n)
counts_at p columns other n e h = subst (λ c. HasCount p (counted c n)) e h

and_counts : (ps : List Subtree) (cs : List Counted) → AllAgree HasCount ps cs → HasCount (and_of ps) (and_count cs)
and_counts ps cs m =
    let lists = map (λ (p : Subtree). p.conjunctions) ps in
    counts_at (and_of ps) (columns_of ps) (counted_columns cs) (product_of (map (λ (c : Counted). c.count) cs)) (columns_agree ps cs m)
    (subtree_counts (columns_of ps) (All (map (λ (p : Subtree). p.tree) ps)) (map (λ choice. merged (joined choice)) (choices lists)) (product_of (map (λ (c : Counted). c.count) cs))
    (map-length (λ choice. merged (joined choice)) (choices lists) ∙ length-choices lists ∙ ap product_of (map-twice length (λ (p : Subtree). p.conjunctions) ps ∙ same_numbers ps cs m)))

or_counts : (ps : List Subtree) (cs : List Counted) → AllAgree HasCount ps cs → HasCount (or_of ps) (or_count cs)
or_counts ps cs m =
    let lists = map (λ (p : Subtree). p.conjunctions) ps in
    counts_at (or_of ps) (columns_of ps) (counted_columns cs) (sum_by (λ (c : Counted). c.count) cs) (columns_agree ps cs m)
    (subtree_counts (columns_of ps) (Any (map (λ (p : Subtree). p.tree) ps)) (joined lists) (sum_by (λ (c : Counted). c.count) cs) (length-joined lists ∙ sum-numbers ps cs m))

leaf_counts : (place : Option ℕ) (test : Option Test) → HasCount (leaf_of place test) (leaf_count place test)
leaf_counts (Some k) (Some t) = record { names = refl; number = refl }
leaf_counts (Some k) None = record { names = refl; number = refl }
leaf_counts None t = record { names = refl; number = refl }

factor_counts : (scope : Scope) (f : Primary) → HasCount (factor_subtree scope f) (factor_count scope f)
factor_counts scope f =
    prim_agrees HasCount (test_subtree scope) (λ s. s) and_of or_of (test_count scope) (λ c. c) and_count or_count
    (λ w. leaf_counts (option_map (λ (p : ColumnPlace). p.column) (place_of scope (column_of w))) (option_map_or (λ (p : ColumnPlace). test_of (kind_at scope p) w) (place_of scope (column_of w)) None))
    (λ x y h. h) and_counts or_counts f

each_counts : (scope : Scope) (fs : List Primary) → AllAgree HasCount (map (factor_subtree scope) fs) (map (factor_count scope) fs)
each_counts scope [] = tt
each_counts scope (f ∷ fs) = (factor_counts scope f, each_counts scope fs)

pub conjunctions_counted : ConjunctionsCounted
conjunctions_counted scope s table =
    let fs = filters_of scope s table in
    map-length (λ tests. record { tests = tests }) (and_of (map (factor_subtree scope) fs)).conjunctions ∙ (and_counts (map (factor_subtree scope) fs) (map (factor_count scope) fs) (each_counts scope fs)).number
