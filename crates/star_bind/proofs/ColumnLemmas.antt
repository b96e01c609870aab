-- The tests of a table's conjunctions name columns of the table.
use Rattle.std.proofs.Common.{◌≡◌, ℕ, ◌+◌, ◌==◌, Bool, true, false, ◌&&◌, List, [], ◌∷◌, ◌++◌, map, filter, filter_map, length, nat_lt, Option, Some, None, option_map, refl, ◌∙◌, arith}
use Rattle.std.specs.List.{list_all}
use Rattle.std.specs.Option.{option_map_or}
use Rattle.std.specs.Str.{bytes_eq}
use Rattle.std.proofs.lemmas.Bool.{lt-ltb}
use Rattle.std.proofs.lemmas.List.Folds.{list_all-append, list_all-map}
use Rattle.blink_base.specs.declared.schema.Column.{Column}
use Rattle.blink_base.specs.declared.test.Test.{Test}
use Rattle.blink_base.specs.declared.tree.Tree.{Tree, Leaf, All, Any}
use Rattle.blink_lists.specs.Lists.{joined, choices, once_each, numbered_from}
use Rattle.blink_lists.proofs.GroupLemmas.{both, and_both, all-imply}
use Rattle.blink_lists.proofs.AllLemmas.{all-flat_map, all-joined}
use Rattle.star_sql.specs.declared.ast.ColumnName.{ColumnName}
use Rattle.star_sql.specs.declared.ast.Primary.{Primary}
use Rattle.star_sql.specs.Literals.{test_of, column_of}
use Rattle.star_meaning.specs.Names.{FromEntry, ColumnPlace, is_meant, place_if, places_in, places, place_of, kind_at}
use Rattle.star_bind.specs.declared.query.ColumnTest.{ColumnTest}
use Rattle.star_bind.specs.declared.query.Conjunction.{Conjunction}
use Rattle.star_bind.specs.Conjunctions.{Tests, Subtree, columns_of, subtree, anded, merged, and_of, or_of, leaf_of, test_subtree, factor_subtree, filters_of}
use Rattle.star_bind.specs.Laws.{NamesColumns}
use Rattle.star_bind.proofs.ConjunctionLemmas.{only_passes, once_all}
use Rattle.star_bind.proofs.FoldLemmas.{AllAgree, prim_agrees}

module _ (n : ℕ) where
  abbrev below : ℕ → Bool
  below k = nat_lt k n

  abbrev tests_below : Tests → Bool
  tests_below tests = list_all (λ t. below t.column) tests

  -- the columns and the tests of a subtree are below n
  pub record Named (p : Subtree) (u : Unit {0}) : Type 0 where
    pub columns : list_all below p.columns ≡ true
    pub tests : list_all tests_below p.conjunctions ≡ true

  subtree_named : (columns : List ℕ) (tree : Tree) (conjunctions : List Tests) → list_all below columns ≡ true → list_all tests_below conjunctions ≡ true → Named (subtree columns tree conjunctions) tt
  subtree_named [] tree conjunctions c t = record { columns = c; tests = t }
  subtree_named (k ∷ []) tree conjunctions c t = record { columns = c; tests = and_both (tests_below (record { column = k; tree = tree } ∷ [])) true c refl }
  subtree_named (k ∷ j ∷ columns) tree conjunctions c t = record { columns = c; tests = t }

  names_below : (ps : List Subtree) (us : List (Unit {0})) → AllAgree Named ps us → list_all below (joined (map (λ (p : Subtree). p.columns) ps)) ≡ true
  names_below [] us m = refl
  names_below (p ∷ ps) [] m = absurd m
  names_below (p ∷ ps) (u ∷ us) m =
      list_all-append below p.columns (joined (map (λ (q : Subtree). q.columns) ps))
      ∙ and_both (list_all below p.columns) (list_all below (joined (map (λ (q : Subtree). q.columns) ps))) m.0.columns (names_below ps us m.1)

  lists_below : (ps : List Subtree) (us : List (Unit {0})) → AllAgree Named ps us → list_all (list_all tests_below) (map (λ (p : Subtree). p.conjunctions) ps) ≡ true
  lists_below [] us m = refl
  lists_below (p ∷ ps) [] m = absurd m
  lists_below (p ∷ ps) (u ∷ us) m = and_both (list_all tests_below p.conjunctions) (list_all (list_all tests_below) (map (λ (q : Subtree). q.conjunctions) ps)) m.0.tests (lists_below ps us m.1)

  choices_below : (lists : List (List Tests)) → list_all (list_all tests_below) lists ≡ true → list_all (λ choice. tests_below (joined choice)) (choices lists) ≡ true
  choices_below [] h = refl
  choices_below (tests ∷ lists) h =
      let b = both (list_all tests_below tests) (list_all (list_all tests_below) lists) h in
      let rest = choices_below lists b.1 in
      all-flat_map (λ choice. tests_below (joined choice)) (λ x. map (λ chosen. x ∷ chosen) (choices lists)) tests
      ∙ (all-imply tests_below (λ x. list_all (λ choice. tests_below (joined choice)) (map (λ chosen. x ∷ chosen) (choices lists)))
      (λ x k.
      list_all-map (λ choice. tests_below (joined choice)) (λ chosen. x ∷ chosen) (choices lists)
      ∙ all-imply (λ choice. tests_below (joined choice)) (λ choice. tests_below (x ++ joined choice))
      (λ choice j. list_all-append (λ (t : ColumnTest). below t.column) x (joined choice) ∙ and_both (tests_below x) (tests_below (joined choice)) k j) (choices lists) rest)
      tests b.0)

  merged_below : (tests : Tests) → tests_below tests ≡ true → tests_below (merged tests) ≡ true
  merged_below tests h =
      list_all-map (λ (t : ColumnTest). below t.column) (λ k. record { column = k; tree = anded (map (λ (t : ColumnTest). t.tree) (filter (λ (t : ColumnTest). k == t.column) tests)) })
      (once_each (λ x y. x == y) (map (λ (t : ColumnTest). t.column) tests))
      ∙ once_all below (map (λ (t : ColumnTest). t.column) tests) (list_all-map below (λ (t : ColumnTest). t.column) tests ∙ h)

  pub and_named : (ps : List Subtree) (us : List (Unit {0})) → AllAgree Named ps us → Named (and_of ps) tt
  and_named ps us m =
      let lists = map (λ (p : Subtree). p.conjunctions) ps in
      subtree_named (columns_of ps) (All (map (λ (p : Subtree). p.tree) ps)) (map (λ choice. merged (joined choice)) (choices lists)) (once_all below (joined (map (λ (p : Subtree). p.columns) ps)) (names_below ps us m))
      (list_all-map tests_below (λ choice. merged (joined choice)) (choices lists)
      ∙ all-imply (λ choice. tests_below (joined choice)) (λ choice. tests_below (merged (joined choice))) (λ choice k. merged_below (joined choice) k) (choices lists) (choices_below lists (lists_below ps us m)))

  pub or_named : (ps : List Subtree) (us : List (Unit {0})) → AllAgree Named ps us → Named (or_of ps) tt
  or_named ps us m =
      let lists = map (λ (p : Subtree). p.conjunctions) ps in
      subtree_named (columns_of ps) (Any (map (λ (p : Subtree). p.tree) ps)) (joined lists) (once_all below (joined (map (λ (p : Subtree). p.columns) ps)) (names_below ps us m))
      (all-joined tests_below lists ∙ lists_below ps us m)

  pub leaf_named : (place : Option ℕ) (test : Option Test) → option_map_or below place true ≡ true → Named (leaf_of place test) tt
  leaf_named (Some k) (Some t) h = let one = and_both (below k) true h refl in record { columns = one; tests = and_both (tests_below (record { column = k; tree = Leaf t } ∷ [])) true one refl }
  leaf_named (Some k) None h = record { columns = refl; tests = refl }
  leaf_named None t h = record { columns = refl; tests = refl }

-- ---- names mean columns of their table

numbers_within : {X : Type 0} (test : ℕ × X → Bool) (xs : List X) (from n : ℕ) → from + length xs ≡ n → list_all (λ (p : ColumnPlace). nat_lt p.column n) (filter_map (λ at. place_if (test at) 0 at.0) (numbered_from from xs)) ≡ true
numbers_within test [] from n e = refl
numbers_within test (x ∷ xs) from n e = by (test (from, x)) refl (numbers_within test xs (from + 1) n (omega (arith, e)))
  where
    by : (b : Bool) → test (from, x) ≡ b → list_all (λ (p : ColumnPlace). nat_lt p.column n) (filter_map (λ at. place_if (test at) 0 at.0) (numbered_from (from + 1) xs)) ≡ true
        → list_all (λ (p : ColumnPlace). nat_lt p.column n) (filter_map (λ at. place_if (test at) 0 at.0) (numbered_from from (x ∷ xs))) ≡ true
    by true k r = rw (k, lt-ltb from n (omega (arith, e))) r
    by false k r = rw k r

column_within : (entry : FromEntry) (c : ColumnName) (p : ColumnPlace) → place_of (entry ∷ []) c ≡ Some p → nat_lt p.column (length entry.schema.columns) ≡ true
column_within entry c p e =
    only_passes (λ q. nat_lt q.column (length entry.schema.columns)) (places (entry ∷ []) c) p
    (list_all-append (λ (q : ColumnPlace). nat_lt q.column (length entry.schema.columns)) (places_in c (0, entry)) []
    ∙ (λ i. numbers_within (λ (at : ℕ × Column). is_meant c.table entry && bytes_eq c.column at.1.name) entry.schema.columns 0 (length entry.schema.columns) (omega arith) i && true)) e

place_within : (entry : FromEntry) (c : ColumnName) (place : Option ColumnPlace) → place_of (entry ∷ []) c ≡ place → option_map_or (below (length entry.schema.columns)) (option_map (λ (p : ColumnPlace). p.column) place) true ≡ true
place_within entry c None e = refl
place_within entry c (Some p) e = column_within entry c p e

factor_named : (entry : FromEntry) (f : Primary) → Named (length entry.schema.columns) (factor_subtree (entry ∷ []) f) tt
factor_named entry f =
    prim_agrees (Named (length entry.schema.columns)) (test_subtree (entry ∷ [])) (λ s. s) and_of or_of (λ w. tt) (λ u. tt) (λ us. tt) (λ us. tt)
    (λ w. leaf_named (length entry.schema.columns) (option_map (λ (p : ColumnPlace). p.column) (place_of (entry ∷ []) (column_of w))) (option_map_or (λ (p : ColumnPlace). test_of (kind_at (entry ∷ []) p) w) (place_of (entry ∷ []) (column_of w)) None)
    (place_within entry (column_of w) (place_of (entry ∷ []) (column_of w)) refl))
    (λ x y h. h) (and_named (length entry.schema.columns)) (or_named (length entry.schema.columns)) f

each_named : (entry : FromEntry) (fs : List Primary) → AllAgree (Named (length entry.schema.columns)) (map (factor_subtree (entry ∷ [])) fs) (map (λ f. tt) fs)
each_named entry [] = tt
each_named entry (f ∷ fs) = (factor_named entry f, each_named entry fs)

pub names_columns : NamesColumns
names_columns entry s =
    let fs = filters_of (entry ∷ []) s 0 in
    list_all-map (λ (c : Conjunction). list_all (λ (t : ColumnTest). nat_lt t.column (length entry.schema.columns)) c.tests) (λ tests. record { tests = tests }) (and_of (map (factor_subtree (entry ∷ [])) fs)).conjunctions
    ∙ (and_named (length entry.schema.columns) (map (factor_subtree (entry ∷ [])) fs) (map (λ f. tt) fs) (each_named entry fs)).tests
