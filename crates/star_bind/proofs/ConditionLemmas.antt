-- A row passes some conjunction of a condition exactly where the condition is true of it.
use Rattle.std.proofs.Common.{◌≡◌, ℕ, pos, ◌==◌, Bool, true, false, not, ◌&&◌, ◌||◌, List, [], ◌∷◌, map, filter, slice_index_or, Option, Some, None, option_map, refl, sym, ap, ◌∙◌, subst, true≢false}
use Rattle.std.specs.List.{list_any, list_all}
use Rattle.std.specs.Option.{option_map_or}
use Rattle.std.proofs.Math.Bool.{and-true, or-false}
use Rattle.std.proofs.lemmas.Bool.{eqb-true, eq-eqb}
use Rattle.std.proofs.lemmas.List.Folds.{list_all-append, list_all-map, list_any-append}
use Rattle.blink_base.specs.declared.value.Value.{Value}
use Rattle.blink_base.specs.declared.value.Value.TheVariants.{Int}
use Rattle.blink_base.specs.declared.test.Test.{Test}
use Rattle.blink_base.specs.declared.tree.Tree.{Tree, All, Any}
use Rattle.blink_base.specs.Values.{Row}
use Rattle.blink_base.specs.Tests.{test_holds, tree_holds}
use Rattle.blink_base.proofs.TreeLemmas.{tree_all, tree_any}
use Rattle.blink_lists.specs.Lists.{all_true, any_true, joined, once_each, choices}
use Rattle.blink_lists.proofs.GroupLemmas.{both}
use Rattle.blink_lists.proofs.ChoiceLemmas.{choices_share, any-map, any-alike}
use Rattle.blink_lists.proofs.AllLemmas.{all-alike, all-filtered, numbers_same, all-by_key}
use Rattle.star_sql.specs.declared.ast.TestWords.{TestWords}
use Rattle.star_sql.specs.declared.ast.TestWords.TheVariants.{Compare, Columns, Between, Among, Like}
use Rattle.star_sql.specs.declared.ast.Primary.{Primary, Test as TestIn, Group', Row_of-Cond, end_of-Cond, more_of-Cond}
use Rattle.star_sql.specs.declared.ast.Cond.{Cond, Cond', Row_of-Conj, end_of-Conj, more_of-Conj, Row_of-Primary, end_of-Primary, more_of-Primary}
use Rattle.star_sql.specs.Conditions.{of_boxed, of_cond, of_conjs, of_prims}
use Rattle.star_sql.specs.Literals.{test_of}
use Rattle.star_meaning.specs.Names.{Scope, Combination, ColumnPlace, place_of, kind_at, value_at}
use Rattle.star_meaning.specs.Truth.{of_both, test_at, words_hold}
use Rattle.star_bind.specs.declared.query.ColumnTest.{ColumnTest}
use Rattle.star_bind.specs.Factors.{tests_in}
use Rattle.star_bind.specs.Conjunctions.{Tests, Subtree, columns_of, subtree, anded, merged, and_of, or_of, nothing, leaf_of, test_subtree, factor_subtree, passes_test}
use Rattle.star_bind.specs.Laws.{is_of_table, factor_holds, FactorsMeet}

-- the value of a row in a column
abbrev value_in : Row → ℕ → Value
value_in row k = slice_index_or row k (Int (pos 0))

-- trees joined by AND
anded-holds : (v : Value) (trees : List Tree) → tree_holds v (anded trees) ≡ list_all (tree_holds v) trees
anded-holds v [] = tree_all v []
anded-holds v (t ∷ []) = sym (and-true (tree_holds v t))
anded-holds v (t ∷ u ∷ rest) = tree_all v (t ∷ u ∷ rest)

-- tests of one column, joined
merged-passes : (row : Row) (tests : List ColumnTest) → list_all (passes_test row) (merged tests) ≡ list_all (passes_test row) tests
merged-passes row tests =
    list_all-map (passes_test row) (λ k. record { column = k; tree = anded (map (λ (t : ColumnTest). t.tree) (of_column k)) }) (once_each (λ x y. x == y) (map (λ (t : ColumnTest). t.column) tests))
    ∙ all-alike (λ k. tree_holds (value_in row k) (anded (map (λ (t : ColumnTest). t.tree) (of_column k)))) (λ k. list_all (passes_test row) (of_column k))
    (λ k. anded-holds (value_in row k) (map (λ (t : ColumnTest). t.tree) (of_column k))
    ∙ list_all-map (tree_holds (value_in row k)) (λ (t : ColumnTest). t.tree) (of_column k)
    ∙ all-filtered (λ (t : ColumnTest). k == t.column) (λ (t : ColumnTest). tree_holds (value_in row k) t.tree) (passes_test row)
    (λ t e. ap (λ j. tree_holds (value_in row j) t.tree) (eqb-true k t.column e)) tests)
    (once_each (λ x y. x == y) (map (λ (t : ColumnTest). t.column) tests))
    ∙ all-by_key (λ x y. x == y) numbers_same (λ (t : ColumnTest). t.column) (passes_test row) tests
  where
    of_column : ℕ → List ColumnTest
    of_column k = filter (λ t. k == t.column) tests

-- what all of some columns pass, all pass of which they are each once
unfiltered : (p : ℕ → Bool) (x : ℕ) → p x ≡ true → (ys : List ℕ) → list_all p (filter (λ y. not (x == y)) ys) ≡ true → list_all p ys ≡ true
unfiltered p x e [] h = refl
unfiltered p x e (y ∷ ys) h = by (x == y) refl h (unfiltered p x e ys)
  where
    by : (b : Bool) → (x == y) ≡ b → list_all p (filter (λ z. not (x == z)) (y ∷ ys)) ≡ true → (list_all p (filter (λ z. not (x == z)) ys) ≡ true → list_all p ys ≡ true) → list_all p (y ∷ ys) ≡ true
    by true k m r = rw (sym (ap p (eqb-true x y k)) ∙ e) (r (rw k at m))
    by false k m r = let both_hold = both (p y) (list_all p (filter (λ z. not (x == z)) ys)) (rw k at m) in rw both_hold.0 (r both_hold.1)

pub all_once : (p : ℕ → Bool) (ks : List ℕ) → list_all p (once_each (λ x y. x == y) ks) ≡ true → list_all p ks ≡ true
all_once p [] h = refl
all_once p (k ∷ ks) h =
    let b = both (p k) (list_all p (filter (λ y. not (k == y)) (once_each (λ x y. x == y) ks))) h in
    rw b.0 (all_once p ks (unfiltered p k b.0 (once_each (λ x y. x == y) ks) b.1))

-- the trees, the columns and the conjunctions of subtrees
abbrev trees_of : List Subtree → List Tree
trees_of parts = map (λ (p : Subtree). p.tree) parts

abbrev names_of : List Subtree → List (List ℕ)
names_of parts = map (λ (p : Subtree). p.columns) parts

abbrev lists_of : List Subtree → List (List Tests)
lists_of parts = map (λ (p : Subtree). p.conjunctions) parts

-- whether these are no columns but k
abbrev only : ℕ → List ℕ → Bool
only k columns = list_all (λ c. c == k) columns

module _ (row : Row) where
  -- whether all tests are passed
  abbrev whole : Tests → Bool
  whole tests = list_all (passes_test row) tests

  -- a subtree says this of the row: its tree does, where it names one column alone, and its conjunctions do
  pub record Meets (p : Subtree) (b : Bool) : Type 0 where
    pub as_one : (k : ℕ) → only k p.columns ≡ true → tree_holds (value_in row k) p.tree ≡ b
    pub passed : list_any whole p.conjunctions ≡ b

  -- each of some subtrees says what stands at its place
  abbrev pub AllMeet : List Subtree → List Bool → Type 0
  AllMeet [] [] = Unit {0}
  AllMeet [] (b ∷ bs) = ⊥
  AllMeet (p ∷ ps) [] = ⊥
  AllMeet (p ∷ ps) (b ∷ bs) = Meets p b × AllMeet ps bs

  subtree_meets : (columns : List ℕ) (tree : Tree) (conjunctions : List Tests) (b : Bool)
      → ((k : ℕ) → only k columns ≡ true → tree_holds (value_in row k) tree ≡ b) → list_any whole conjunctions ≡ b → Meets (subtree columns tree conjunctions) b
  subtree_meets [] tree conjunctions b one e = record { as_one = one; passed = e }
  subtree_meets (k ∷ []) tree conjunctions b one e =
      record { as_one = one; passed = or-false (tree_holds (value_in row k) tree && true) ∙ and-true (tree_holds (value_in row k) tree) ∙ one k (rw (eq-eqb k k refl) refl) }
  subtree_meets (k ∷ j ∷ columns) tree conjunctions b one e = record { as_one = one; passed = e }

  all_of_one : (ps : List Subtree) (bs : List Bool) → AllMeet ps bs → (k : ℕ) → only k (joined (names_of ps)) ≡ true → list_all (tree_holds (value_in row k)) (trees_of ps) ≡ all_true bs
  all_of_one [] [] m k h = refl
  all_of_one [] (b ∷ bs) m k h = absurd m
  all_of_one (p ∷ ps) [] m k h = absurd m
  all_of_one (p ∷ ps) (b ∷ bs) m k h =
      let parts = both (only k p.columns) (only k (joined (names_of ps))) (sym (list_all-append (λ c. c == k) p.columns (joined (names_of ps))) ∙ h) in
      λ i. m.0.as_one k parts.0 i && all_of_one ps bs m.1 k parts.1 i

  any_of_one : (ps : List Subtree) (bs : List Bool) → AllMeet ps bs → (k : ℕ) → only k (joined (names_of ps)) ≡ true → list_any (tree_holds (value_in row k)) (trees_of ps) ≡ any_true bs
  any_of_one [] [] m k h = refl
  any_of_one [] (b ∷ bs) m k h = absurd m
  any_of_one (p ∷ ps) [] m k h = absurd m
  any_of_one (p ∷ ps) (b ∷ bs) m k h =
      let parts = both (only k p.columns) (only k (joined (names_of ps))) (sym (list_all-append (λ c. c == k) p.columns (joined (names_of ps))) ∙ h) in
      λ i. m.0.as_one k parts.0 i || any_of_one ps bs m.1 k parts.1 i

  all_passed : (ps : List Subtree) (bs : List Bool) → AllMeet ps bs → list_all (list_any whole) (lists_of ps) ≡ all_true bs
  all_passed [] [] m = refl
  all_passed [] (b ∷ bs) m = absurd m
  all_passed (p ∷ ps) [] m = absurd m
  all_passed (p ∷ ps) (b ∷ bs) m = λ i. m.0.passed i && all_passed ps bs m.1 i

  any_passed : (ps : List Subtree) (bs : List Bool) → AllMeet ps bs → list_any whole (joined (lists_of ps)) ≡ any_true bs
  any_passed [] [] m = refl
  any_passed [] (b ∷ bs) m = absurd m
  any_passed (p ∷ ps) [] m = absurd m
  any_passed (p ∷ ps) (b ∷ bs) m = list_any-append whole p.conjunctions (joined (lists_of ps)) ∙ (λ i. m.0.passed i || any_passed ps bs m.1 i)

  pub and_meets : (ps : List Subtree) (bs : List Bool) → AllMeet ps bs → Meets (and_of ps) (all_true bs)
  and_meets ps bs m =
      subtree_meets (columns_of ps) (All (trees_of ps)) (map (λ choice. merged (joined choice)) (choices (lists_of ps))) (all_true bs)
      (λ k h. tree_all (value_in row k) (trees_of ps) ∙ all_of_one ps bs m k (all_once (λ c. c == k) (joined (names_of ps)) h))
      (any-map whole (λ choice. merged (joined choice)) (choices (lists_of ps))
      ∙ any-alike (λ choice. whole (merged (joined choice))) (λ choice. whole (joined choice)) (λ choice. merged-passes row (joined choice)) (choices (lists_of ps))
      ∙ choices_share (passes_test row) (lists_of ps) ∙ all_passed ps bs m)

  or_meets : (ps : List Subtree) (bs : List Bool) → AllMeet ps bs → Meets (or_of ps) (any_true bs)
  or_meets ps bs m =
      subtree_meets (columns_of ps) (Any (trees_of ps)) (joined (lists_of ps)) (any_true bs)
      (λ k h. tree_any (value_in row k) (trees_of ps) ∙ any_of_one ps bs m k (all_once (λ c. c == k) (joined (names_of ps)) h))
      (any_passed ps bs m)

  nothing_meets : Meets nothing false
  nothing_meets = record { as_one = λ k h. tree_any (value_in row k) []; passed = refl }

  leaf_meets : (k : ℕ) (test : Option Test) → Meets (leaf_of (Some k) test) (of_both test_holds test (Some (value_in row k)))
  leaf_meets k None = nothing_meets
  leaf_meets k (Some t) =
      record {
        as_one = λ j h. ap (λ c. test_holds t (value_in row c)) (sym (eqb-true k j (both (k == j) true h).0));
        passed = or-false (test_holds t (value_in row k) && true) ∙ and-true (test_holds t (value_in row k));
      }

module _ (scope : Scope) (rows : Combination) (table : ℕ) where
  abbrev row_here : Row
  row_here = slice_index_or rows table []

  place_meets : (words : TestWords) (place : Option ColumnPlace) → option_map_or (λ p. p.table == table) place true ≡ true
      → Meets row_here (leaf_of (option_map (λ p. p.column) place) (option_map_or (λ p. test_of (kind_at scope p) words) place None))
      (of_both test_holds (test_at scope words place) (option_map (value_at rows) place))
  place_meets words None h = nothing_meets row_here
  place_meets words (Some p) h =
      subst (λ t. Meets row_here (leaf_of (Some p.column) (test_of (kind_at scope p) words)) (of_both test_holds (test_of (kind_at scope p) words) (Some (value_in (slice_index_or rows t []) p.column))))
      (sym (eqb-true p.table table h)) (leaf_meets row_here p.column (test_of (kind_at scope p) words))

  words_meet : (words : TestWords) → is_of_table scope table words ≡ true → Meets row_here (test_subtree scope words) (words_hold scope rows words)
  words_meet (Columns l o r) h = absurd (true≢false (sym h))
  words_meet (Compare c o l) h = place_meets (Compare c o l) (place_of scope c) h
  words_meet (Between c low high) h = place_meets (Between c low high) (place_of scope c) h
  words_meet (Among c list) h = place_meets (Among c list) (place_of scope c) h
  words_meet (Like c pattern) h = place_meets (Like c pattern) (place_of scope c) h

  abbrev given : List TestWords → Bool
  given tests = list_all (is_of_table scope table) tests

  mutual
    pub prim_meets : (p : Primary) → given (tests_in p) ≡ true → Meets row_here (factor_subtree scope p) (factor_holds scope rows p)
    prim_meets (TestIn words) h = words_meet words (both (is_of_table scope table words) true h).0
    prim_meets (Group' shape cond) h = boxed_meets cond h

    boxed_meets : {n : _} (box : Row_of-Cond n) → given (of_boxed (λ words. words ∷ []) (λ tests. tests) joined joined box) ≡ true
        → Meets row_here (of_boxed (test_subtree scope) (λ s. s) and_of or_of box) (of_boxed (words_hold scope rows) (λ b. b) all_true any_true box)
    boxed_meets end_of-Cond h = or_meets row_here [] [] tt
    boxed_meets (more_of-Cond cond rest) h = cond_meets cond h

    cond_meets : (cond : Cond) → given (of_cond (λ words. words ∷ []) (λ tests. tests) joined joined cond) ≡ true
        → Meets row_here (of_cond (test_subtree scope) (λ s. s) and_of or_of cond) (of_cond (words_hold scope rows) (λ b. b) all_true any_true cond)
    cond_meets (Cond' shape conjs) h =
        or_meets row_here (of_conjs (test_subtree scope) (λ s. s) and_of or_of conjs) (of_conjs (words_hold scope rows) (λ b. b) all_true any_true conjs) (conjs_meet conjs h)

    conjs_meet : {n : _} (conjs : Row_of-Conj n) → given (joined (of_conjs (λ words. words ∷ []) (λ tests. tests) joined joined conjs)) ≡ true
        → AllMeet row_here (of_conjs (test_subtree scope) (λ s. s) and_of or_of conjs) (of_conjs (words_hold scope rows) (λ b. b) all_true any_true conjs)
    conjs_meet end_of-Conj h = tt
    conjs_meet (more_of-Conj shape prims rest) h =
        let here = joined (of_prims (λ words. words ∷ []) (λ tests. tests) joined joined prims) in
        let behind = joined (of_conjs (λ words. words ∷ []) (λ tests. tests) joined joined rest) in
        let parts = both (given here) (given behind) (sym (list_all-append (is_of_table scope table) here behind) ∙ h) in
        (and_meets row_here (of_prims (test_subtree scope) (λ s. s) and_of or_of prims) (of_prims (words_hold scope rows) (λ b. b) all_true any_true prims) (prims_meet prims parts.0), conjs_meet rest parts.1)

    prims_meet : {n : _} (prims : Row_of-Primary n) → given (joined (of_prims (λ words. words ∷ []) (λ tests. tests) joined joined prims)) ≡ true
        → AllMeet row_here (of_prims (test_subtree scope) (λ s. s) and_of or_of prims) (of_prims (words_hold scope rows) (λ b. b) all_true any_true prims)
    prims_meet end_of-Primary h = tt
    prims_meet (more_of-Primary prim rest) h =
        let behind = joined (of_prims (λ words. words ∷ []) (λ tests. tests) joined joined rest) in
        let parts = both (given (tests_in prim)) (given behind) (sym (list_all-append (is_of_table scope table) (tests_in prim) behind) ∙ h) in
        (prim_meets prim parts.0, prims_meet rest parts.1)

pub factors_meet : FactorsMeet
factors_meet scope rows table factor h = (prim_meets scope rows table factor h).passed
