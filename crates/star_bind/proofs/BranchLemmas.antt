-- The branches that the code holds are the subtrees of the definition.
use Rattle.std.proofs.Common.{◌≡◌, ◌^◌, ◌<◌, ◌≤◌, ◌-◌, ◌+◌, ◌==◌, ℕ, suc, Bool, true, ◌&&◌, List, [], ◌∷◌, ◌++◌, map, drop, get_or, length, nat_lt, Option, Some, None, option_map, Result, Ok, Err, IfOk, append_assoc, add-one, drop-cons, refl, sym, ap, ◌∙◌, arith}
use Rattle.std.specs.Prelude.{flat_map, if◌then◌else◌}
use Rattle.std.specs.List.{list_all}
use Rattle.std.specs.Option.{option_map_or}
use Rattle.std.proofs.lemmas.Bool.{and_parts, lt-ltb}
use Rattle.std.proofs.lemmas.Grind.{flat_map-append}
use Rattle.std.proofs.lemmas.List.{map-append, append-nil}
use Rattle.std.proofs.lemmas.List.Folds.{list_all-append}
use Rattle.blink_base.specs.declared.test.Test.{Test}
use Rattle.blink_base.specs.declared.tree.Tree.{Tree, All, Any}
use Rattle.blink_lists.specs.Lists.{joined, once_each, choices}
use Rattle.star_sql.specs.declared.ast.ColumnName.{ColumnName}
use Rattle.star_sql.specs.declared.ast.TestWords.{TestWords}
use Rattle.star_sql.specs.declared.ast.Primary.{Primary}
use Rattle.star_sql.specs.Conditions.{of_prim}
use Rattle.star_sql.specs.Literals.{test_of, column_of}
use Rattle.star_meaning.specs.Names.{Scope, ColumnPlace, place_of, kind_at}
use Rattle.star_bind.specs.declared.conditions.branch.Branch.{Branch}
use Rattle.star_bind.specs.declared.query.ColumnTest.{ColumnTest}
use Rattle.star_bind.specs.declared.query.Conjunction.{Conjunction}
use Rattle.star_bind.specs.Branches.{number_of, made_over, made_of, if_several, branch_columns, followed, spread, branch_every, branch_some, branch_leaf, branch_test}
use Rattle.star_bind.specs.Conjunctions.{Tests, Subtree, columns_of, subtree, merged, and_of, or_of, leaf_of, test_subtree, factor_subtree}
use Rattle.star_bind.specs.QueryParts.{is_addressable}
use Rattle.star_bind.proofs.ConjunctionLemmas.{once_all}
use Rattle.star_bind.proofs.FoldLemmas.{AllAgree, prim_agrees}
use Rattle.star_bind.proofs.PlaceLemmas.{place-addressed}

-- ---- rows of tests with a conjunction of each list behind them

one_row : (row : Tests) (made : List Tests) (lists : List (List Tests))
    → flat_map (λ (r : Tests). map (λ (choice : List Tests). r ++ joined choice) (choices lists)) (map (λ (t : Tests). row ++ t) made)
    ≡ map (λ (choice : List Tests). row ++ joined choice) (flat_map (λ (t : Tests). map (λ (chosen : List Tests). t ∷ chosen) (choices lists)) made)
one_row row [] lists = refl
one_row row (t ∷ made) lists =
    (λ i. behind (choices lists) i ++ one_row row made lists i)
    ∙ sym (map-append (λ (choice : List Tests). row ++ joined choice) (map (λ (chosen : List Tests). t ∷ chosen) (choices lists)) (flat_map (λ (u : Tests). map (λ (chosen : List Tests). u ∷ chosen) (choices lists)) made))
  where
    behind : (cs : List (List Tests)) → map (λ (choice : List Tests). (row ++ t) ++ joined choice) cs ≡ map (λ (choice : List Tests). row ++ joined choice) (map (λ (chosen : List Tests). t ∷ chosen) cs)
    behind [] = refl
    behind (c ∷ cs) = λ i. append_assoc row t (joined c) i ∷ behind cs i

each_row : (rows : List Tests) (made : List Tests) (lists : List (List Tests))
    → flat_map (λ (row : Tests). map (λ (choice : List Tests). row ++ joined choice) (choices lists)) (followed rows made)
    ≡ flat_map (λ (row : Tests). map (λ (choice : List Tests). row ++ joined choice) (choices (made ∷ lists))) rows
each_row [] made lists = refl
each_row (row ∷ rows) made lists =
    flat_map-append (λ (r : Tests). map (λ (choice : List Tests). r ++ joined choice) (choices lists)) (map (λ (t : Tests). row ++ t) made) (followed rows made)
    ∙ λ i. one_row row made lists i ++ each_row rows made lists i

no_lists : (rows : List Tests) → rows ≡ flat_map (λ (row : Tests). (row ++ []) ∷ []) rows
no_lists [] = refl
no_lists (row ∷ rows) = λ i. sym (append-nil row) i ∷ no_lists rows i

pub spread_is : (rows : List Tests) (lists : List (List Tests)) → spread rows lists ≡ flat_map (λ (row : Tests). map (λ (choice : List Tests). row ++ joined choice) (choices lists)) rows
spread_is rows [] = no_lists rows
spread_is rows (made ∷ lists) = spread_is (followed rows made) lists ∙ each_row rows made lists

choices_merged : (lists : List (List Tests)) → map merged (spread ([] ∷ []) lists) ≡ map (λ (choice : List Tests). merged (joined choice)) (choices lists)
choices_merged lists = ap (map merged) (spread_is ([] ∷ []) lists ∙ append-nil (map joined (choices lists))) ∙ twice (choices lists)
  where
    twice : (cs : List (List Tests)) → map merged (map joined cs) ≡ map (λ (choice : List Tests). merged (joined choice)) cs
    twice [] = refl
    twice (c ∷ cs) = ap (λ l. merged (joined c) ∷ l) (twice cs)

-- ---- the branch of a part is its subtree

abbrev small : ℕ → Bool
small k = nat_lt k (2 ^ 32)

-- the same columns, tree and conjunctions, and columns whose numbers have 32 bits
pub record IsBranch (b : Branch) (s : Subtree) : Type 0 where
  pub same : s ≡ record { columns = b.columns; tree = b.tree; conjunctions = made_of b }
  pub numbers : list_all small b.columns ≡ true

number_is : (k : ℕ) → small k ≡ true → number_of k ≡ k
number_is k e = ap (λ (b : Bool). if b then k else 2 ^ 32 - 1) e

over_is : (ks : List ℕ) (tree : Tree) (made : List Tests) → list_all small ks ≡ true
    → subtree ks tree made ≡ record { columns = ks; tree = tree; conjunctions = made_over ks tree (if_several ks made) }
over_is [] tree made e = refl
over_is (k ∷ []) tree made e = ap (λ (n : ℕ). record { columns = k ∷ []; tree = tree; conjunctions = (record { column = n; tree = tree } ∷ []) ∷ [] }) (sym (number_is k (and_parts (small k) true e).0))
over_is (k ∷ j ∷ ks) tree made e = refl

module _ where
  columns_same : (bs : List Branch) (ss : List Subtree) → AllAgree IsBranch bs ss → map (λ (s : Subtree). s.columns) ss ≡ map (λ (b : Branch). b.columns) bs
  columns_same [] [] a = refl
  columns_same [] (s ∷ ss) a = absurd a
  columns_same (b ∷ bs) [] a = absurd a
  columns_same (b ∷ bs) (s ∷ ss) a = λ i. (a.0.same i).columns ∷ columns_same bs ss a.1 i

  trees_same : (bs : List Branch) (ss : List Subtree) → AllAgree IsBranch bs ss → map (λ (s : Subtree). s.tree) ss ≡ map (λ (b : Branch). b.tree) bs
  trees_same [] [] a = refl
  trees_same [] (s ∷ ss) a = absurd a
  trees_same (b ∷ bs) [] a = absurd a
  trees_same (b ∷ bs) (s ∷ ss) a = λ i. (a.0.same i).tree ∷ trees_same bs ss a.1 i

  made_same : (bs : List Branch) (ss : List Subtree) → AllAgree IsBranch bs ss → map (λ (s : Subtree). s.conjunctions) ss ≡ map made_of bs
  made_same [] [] a = refl
  made_same [] (s ∷ ss) a = absurd a
  made_same (b ∷ bs) [] a = absurd a
  made_same (b ∷ bs) (s ∷ ss) a = λ i. (a.0.same i).conjunctions ∷ made_same bs ss a.1 i

  all_small : (bs : List Branch) (ss : List Subtree) → AllAgree IsBranch bs ss → list_all small (joined (map (λ (b : Branch). b.columns) bs)) ≡ true
  all_small [] ss a = refl
  all_small (b ∷ bs) [] a = absurd a
  all_small (b ∷ bs) (s ∷ ss) a = list_all-append small b.columns (joined (map (λ (b : Branch). b.columns) bs)) ∙ λ i. a.0.numbers i && all_small bs ss a.1 i

  branches_small : (bs : List Branch) (ss : List Subtree) → AllAgree IsBranch bs ss → list_all small (branch_columns bs) ≡ true
  branches_small bs ss a = once_all small (joined (map (λ (b : Branch). b.columns) bs)) (all_small bs ss a)

  every_is : (bs : List Branch) (ss : List Subtree) → AllAgree IsBranch bs ss → IsBranch (branch_every bs) (and_of ss)
  every_is bs ss a = record {
    same =
        (λ i. subtree (once_each (λ x y. x == y) (joined (columns_same bs ss a i))) (All (trees_same bs ss a i)) (map (λ (choice : List Tests). merged (joined choice)) (choices (made_same bs ss a i))))
        ∙ ap (subtree (branch_columns bs) (All (map (λ (b : Branch). b.tree) bs))) (sym (choices_merged (map made_of bs)))
        ∙ over_is (branch_columns bs) (All (map (λ (b : Branch). b.tree) bs)) (map merged (spread ([] ∷ []) (map made_of bs))) (branches_small bs ss a);
    numbers = branches_small bs ss a;
  }

  some_is : (bs : List Branch) (ss : List Subtree) → AllAgree IsBranch bs ss → IsBranch (branch_some bs) (or_of ss)
  some_is bs ss a = record {
    same =
        (λ i. subtree (once_each (λ x y. x == y) (joined (columns_same bs ss a i))) (Any (trees_same bs ss a i)) (joined (made_same bs ss a i)))
        ∙ over_is (branch_columns bs) (Any (map (λ (b : Branch). b.tree) bs)) (joined (map made_of bs)) (branches_small bs ss a);
    numbers = branches_small bs ss a;
  }

leaf_is : (place : Option ℕ) (test : Option Test) → option_map_or small place true ≡ true → IsBranch (branch_leaf place test) (leaf_of place test)
leaf_is (Some k) (Some t) h = let e : list_all small (k ∷ []) ≡ true = ap (λ (b : Bool). b && true) h in record { same = over_is (k ∷ []) _ [] e; numbers = e }
leaf_is (Some k) None h = record { same = refl; numbers = refl }
leaf_is None t h = record { same = refl; numbers = refl }

place_small : (scope : Scope) (c : ColumnName) (place : Option ColumnPlace) → is_addressable scope ≡ true → place_of scope c ≡ place → option_map_or small (option_map (λ (p : ColumnPlace). p.column) place) true ≡ true
place_small scope c None a e = refl
place_small scope c (Some p) a e = lt-ltb p.column (2 ^ 32) (place-addressed scope c p a e).1

pub factor_is : (scope : Scope) → is_addressable scope ≡ true → (f : Primary) → IsBranch (of_prim (branch_test scope) (λ x. x) branch_every branch_some f) (factor_subtree scope f)
factor_is scope a f =
    prim_agrees IsBranch (branch_test scope) (λ x. x) branch_every branch_some (test_subtree scope) (λ s. s) and_of or_of
    (λ w. leaf_is (option_map (λ (p : ColumnPlace). p.column) (place_of scope (column_of w))) (option_map_or (λ (p : ColumnPlace). test_of (kind_at scope p) w) (place_of scope (column_of w)) None)
    (place_small scope (column_of w) (place_of scope (column_of w)) a refl))
    (λ x y h. h) every_is some_is f

factors_are : (scope : Scope) → is_addressable scope ≡ true → (fs : List Primary) → AllAgree IsBranch (map (of_prim (branch_test scope) (λ x. x) branch_every branch_some) fs) (map (factor_subtree scope) fs)
factors_are scope a [] = tt
factors_are scope a (f ∷ fs) = (factor_is scope a f, factors_are scope a fs)

-- what the AND of some factors gives are the conjunctions of the definition
pub made_is : (scope : Scope) (fs : List Primary) → is_addressable scope ≡ true
    → made_of (branch_every (map (of_prim (branch_test scope) (λ x. x) branch_every branch_some) fs)) ≡ (and_of (map (factor_subtree scope) fs)).conjunctions
made_is scope fs a =
    ap (λ (s : Subtree). s.conjunctions) (sym (every_is (map (of_prim (branch_test scope) (λ x. x) branch_every branch_some) fs) (map (factor_subtree scope) fs) (factors_are scope a fs)).same)

-- ---- one column, or none or several

pub several : (ks : List ℕ) (made : List Tests) → (length ks ≡ 1 → ⊥) → if_several ks made ≡ made
several [] made h = refl
several (k ∷ []) made h = absurd (h refl)
several (k ∷ j ∷ ks) made h = refl

pub alone : (ks : List ℕ) (made : List Tests) → length ks ≡ 1 → if_several ks made ≡ []
alone [] made h = absurd (omega (arith, h))
alone (k ∷ []) made h = refl
alone (k ∷ j ∷ ks) made h = absurd (omega (arith, h))

-- ---- loops over rows

pub next_followed : (all more whole : List Tests) (rows made : List Tests) (i : ℕ) (row : Tests) → i < length rows → row ≡ get_or rows i row → more ≡ all ++ map (λ (t : Tests). row ++ t) made
    → all ++ followed (drop i rows) made ≡ whole → more ++ followed (drop (i + 1) rows) made ≡ whole
next_followed all more whole rows made i row lt is told so_far =
    let rest = followed (drop (i + 1) rows) made in
    let here : drop i rows ≡ row ∷ drop (i + 1) rows = rw (add-one, drop-cons rows i row) (ap (λ (y : Tests). y ∷ drop (suc i) rows) (sym is)) in
    ap (λ (xs : List Tests). xs ++ rest) told ∙ append_assoc all (map (λ (t : Tests). row ++ t) made) rest
    ∙ ap (λ (rs : List Tests). all ++ followed rs made) (sym here) ∙ so_far

one_followed : (rows made : List Tests) (tests behind : Tests) → made ≡ tests ∷ [] → behind ≡ tests → map (λ (row : Tests). row ++ behind) rows ≡ followed rows made
one_followed rows made tests behind e same =
    ap (λ (t : Tests). map (λ (row : Tests). row ++ t) rows) same ∙ by rows ∙ ap (followed rows) (sym e)
  where
    by : (rs : List Tests) → map (λ (row : Tests). row ++ tests) rs ≡ followed rs (tests ∷ [])
    by [] = refl
    by (r ∷ rs) = ap (λ l. (r ++ tests) ∷ l) (by rs)

pub only_followed : {E : Type 0} (r : Result (List Tests) E) (rows made : List Tests) (tests behind : Tests) → 1 ≤ length made → length made < 2 → tests ≡ get_or made 0 tests → behind ≡ tests
    → IfOk r (λ all. all ≡ map (λ (row : Tests). row ++ behind) rows) → IfOk r (λ all. all ≡ followed rows made)
only_followed (Ok all) rows made tests behind some few is same told = told ∙ one_followed rows made tests behind (alone_is made some few is) same
  where
    alone_is : (ms : List Tests) → 1 ≤ length ms → length ms < 2 → tests ≡ get_or ms 0 tests → ms ≡ tests ∷ []
    alone_is [] a b e = absurd (omega (arith, a))
    alone_is (m ∷ []) a b e = ap (λ (t : Tests). t ∷ []) (sym e)
    alone_is (m ∷ n ∷ ms) a b e = absurd (omega (arith, b))
only_followed (Err why) rows made tests behind some few is same told = tt
