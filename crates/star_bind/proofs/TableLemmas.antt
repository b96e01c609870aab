-- The tests of the conjunctions of each table name columns of that table.
use Rattle.std.proofs.Common.{◌≡◌, ℕ, ◌==◌, Bool, true, not, ◌&&◌, ◌||◌, List, [], ◌∷◌, map, nat_lt, Option, Some, None, option_map, refl, sym, ◌∙◌}
use Rattle.std.specs.List.{list_all}
use Rattle.std.specs.Option.{option_map_or}
use Rattle.std.proofs.lemmas.List.Folds.{list_all-append, list_all-map}
use Rattle.blink_lists.specs.Lists.{joined}
use Rattle.blink_lists.proofs.GroupLemmas.{both}
use Rattle.star_sql.specs.declared.ast.ColumnName.{ColumnName}
use Rattle.star_sql.specs.declared.ast.TestWords.{TestWords}
use Rattle.star_sql.specs.declared.ast.Primary.{Primary, Test as TestIn, Group', Row_of-Cond, end_of-Cond, more_of-Cond}
use Rattle.star_sql.specs.declared.ast.Cond.{Cond, Cond', Row_of-Conj, end_of-Conj, more_of-Conj, Row_of-Primary, end_of-Primary, more_of-Primary}
use Rattle.star_sql.specs.declared.ast.Select.{Select}
use Rattle.star_sql.specs.Conditions.{of_boxed, of_cond, of_conjs, of_prims}
use Rattle.star_sql.specs.Literals.{test_of, column_of}
use Rattle.star_meaning.specs.Names.{Scope, ColumnPlace, place_of, kind_at}
use Rattle.star_bind.specs.declared.query.ColumnTest.{ColumnTest}
use Rattle.star_bind.specs.declared.query.Conjunction.{Conjunction}
use Rattle.star_bind.specs.Factors.{factors, tests_in}
use Rattle.star_bind.specs.StarForm.{compares_columns, is_pair_factor, is_filter, tables_in}
use Rattle.star_bind.specs.Conjunctions.{and_of, or_of, test_subtree, factor_subtree, filters_of, table_conjunctions}
use Rattle.star_bind.specs.Laws.{is_of_table}
use Rattle.star_bind.proofs.ConjunctionLemmas.{filter_is_of, all-kept}
use Rattle.star_bind.proofs.ColumnLemmas.{Named, and_named, or_named, leaf_named}
use Rattle.star_bind.proofs.FoldLemmas.{AllAgree}

module _ (scope : Scope) (table n : ℕ) (within : (c : ColumnName) (p : ColumnPlace) → place_of scope c ≡ Some p → (p.table == table) ≡ true → nat_lt p.column n ≡ true) where
  words_named : (w : TestWords) → is_of_table scope table w ≡ true → Named n (test_subtree scope w) tt
  words_named w h =
      let b = both (not (compares_columns w)) (option_map_or (λ (p : ColumnPlace). p.table == table) (place_of scope (column_of w)) true) h in
      leaf_named n (option_map (λ (p : ColumnPlace). p.column) (place_of scope (column_of w))) (option_map_or (λ (p : ColumnPlace). test_of (kind_at scope p) w) (place_of scope (column_of w)) None)
      (by (place_of scope (column_of w)) refl b.1)
    where
      by : (place : Option ColumnPlace) → place_of scope (column_of w) ≡ place → option_map_or (λ (p : ColumnPlace). p.table == table) place true ≡ true
          → option_map_or (λ k. nat_lt k n) (option_map (λ (p : ColumnPlace). p.column) place) true ≡ true
      by None e k = refl
      by (Some p) e k = within (column_of w) p e k

  abbrev given : List TestWords → Bool
  given tests = list_all (is_of_table scope table) tests

  mutual
    pub prim_named : (p : Primary) → given (tests_in p) ≡ true → Named n (factor_subtree scope p) tt
    prim_named (TestIn words) h = words_named words (both (is_of_table scope table words) true h).0
    prim_named (Group' shape cond) h = boxed_named cond h

    boxed_named : {m : _} (box : Row_of-Cond m) → given (of_boxed (λ words. words ∷ []) (λ tests. tests) joined joined box) ≡ true
        → Named n (of_boxed (test_subtree scope) (λ s. s) and_of or_of box) tt
    boxed_named end_of-Cond h = or_named n [] [] tt
    boxed_named (more_of-Cond cond rest) h = cond_named cond h

    cond_named : (cond : Cond) → given (of_cond (λ words. words ∷ []) (λ tests. tests) joined joined cond) ≡ true → Named n (of_cond (test_subtree scope) (λ s. s) and_of or_of cond) tt
    cond_named (Cond' shape conjs) h =
        or_named n (of_conjs (test_subtree scope) (λ s. s) and_of or_of conjs) (of_conjs (λ w. tt) (λ u. tt) (λ us. tt) (λ us. tt) conjs) (conjs_named conjs h)

    conjs_named : {m : _} (conjs : Row_of-Conj m) → given (joined (of_conjs (λ words. words ∷ []) (λ tests. tests) joined joined conjs)) ≡ true
        → AllAgree (Named n) (of_conjs (test_subtree scope) (λ s. s) and_of or_of conjs) (of_conjs (λ w. tt) (λ u. tt) (λ us. tt) (λ us. tt) conjs)
    conjs_named end_of-Conj h = tt
    conjs_named (more_of-Conj shape prims rest) h =
        let here = joined (of_prims (λ words. words ∷ []) (λ tests. tests) joined joined prims) in
        let behind = joined (of_conjs (λ words. words ∷ []) (λ tests. tests) joined joined rest) in
        let parts = both (given here) (given behind) (sym (list_all-append (is_of_table scope table) here behind) ∙ h) in
        (and_named n (of_prims (test_subtree scope) (λ s. s) and_of or_of prims) (of_prims (λ w. tt) (λ u. tt) (λ us. tt) (λ us. tt) prims) (prims_named prims parts.0), conjs_named rest parts.1)

    prims_named : {m : _} (prims : Row_of-Primary m) → given (joined (of_prims (λ words. words ∷ []) (λ tests. tests) joined joined prims)) ≡ true
        → AllAgree (Named n) (of_prims (test_subtree scope) (λ s. s) and_of or_of prims) (of_prims (λ w. tt) (λ u. tt) (λ us. tt) (λ us. tt) prims)
    prims_named end_of-Primary h = tt
    prims_named (more_of-Primary prim rest) h =
        let behind = joined (of_prims (λ words. words ∷ []) (λ tests. tests) joined joined rest) in
        let parts = both (given (tests_in prim)) (given behind) (sym (list_all-append (is_of_table scope table) (tests_in prim) behind) ∙ h) in
        (prim_named prim parts.0, prims_named rest parts.1)

  each_named : (fs : List Primary) → list_all (λ f. given (tests_in f)) fs ≡ true → AllAgree (Named n) (map (factor_subtree scope) fs) (map (λ f. tt) fs)
  each_named [] h = tt
  each_named (f ∷ fs) h = let b = both (given (tests_in f)) (list_all (λ f. given (tests_in f)) fs) h in (prim_named f b.0, each_named fs b.1)

  -- where each factor is a comparison of columns or a filter
  pub conjunctions_named : (s : Select) → list_all (λ f. is_pair_factor f || is_filter scope f) (factors s.condition) ≡ true
      → list_all (λ (c : Conjunction). list_all (λ (t : ColumnTest). nat_lt t.column n) c.tests) (table_conjunctions scope s table) ≡ true
  conjunctions_named s parted =
      let fs = filters_of scope s table in
      let mine = all-kept (λ f. is_pair_factor f || is_filter scope f) (λ f. not (is_pair_factor f) && list_all (λ t. t == table) (tables_in scope f)) (λ f. given (tests_in f)) (filter_is_of scope table) (factors s.condition) parted in
      list_all-map (λ (c : Conjunction). list_all (λ (t : ColumnTest). nat_lt t.column n) c.tests) (λ tests. record { tests = tests }) (and_of (map (factor_subtree scope) fs)).conjunctions
      ∙ (and_named n (map (factor_subtree scope) fs) (map (λ f. tt) fs) (each_named fs mine)).tests
