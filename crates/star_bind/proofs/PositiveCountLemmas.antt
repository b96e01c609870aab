-- A table's condition in a query that is accepted has a conjunction: each of its parts has one.
use Rattle.std.proofs.Common.{◌≡◌, ◌<◌, ◌+◌, ◌*◌, ℕ, suc, Bool, true, false, not, ◌&&◌, ◌||◌, List, [], ◌∷◌, ◌++◌, map, filter, flat_map, length, nat_lt, sum_by, Option, Some, None, option_map, refl, sym, ap, ◌∙◌, subst, true≢false, arith}
use Rattle.std.specs.Prelude.{is_none, nat_le}
use Rattle.std.specs.List.{list_all, list_any}
use Rattle.std.specs.Option.{option_map_or, is_some}
use Rattle.std.proofs.lemmas.Bool.{and_parts, ltb-true}
use Rattle.std.proofs.lemmas.Nat.{mul-lt}
use Rattle.std.proofs.lemmas.List.Folds.{list_all-append}
use Rattle.std.proofs.lemmas.List.Sums.{sum_by-cons}
use Rattle.blink_base.specs.declared.test.Test.{Test}
use Rattle.blink_base.specs.declared.op.Op.{Op}
use Rattle.blink_lists.specs.Lists.{joined}
use Rattle.blink_lists.proofs.AllLemmas.{all-flat_map}
use Rattle.blink_lists.proofs.GroupLemmas.{and_both, neither}
use Rattle.star_sql.specs.declared.ast.ColumnName.{ColumnName}
use Rattle.star_sql.specs.declared.ast.TestWords.{TestWords}
use Rattle.star_sql.specs.declared.ast.TestWords.TheVariants.{Compare, Columns, Between, Among, Like}
use Rattle.star_sql.specs.declared.ast.Primary.{Primary, Test as TestIn, Group', Row_of-Cond, end_of-Cond, more_of-Cond}
use Rattle.star_sql.specs.declared.ast.Cond.{Cond, Cond', Row_of-Conj, end_of-Conj, more_of-Conj, Row_of-Primary, end_of-Primary, more_of-Primary}
use Rattle.star_sql.specs.declared.ast.Select.{Select}
use Rattle.star_sql.specs.Conditions.{of_boxed, of_conjs, of_prims, of_prim, of_cond}
use Rattle.star_sql.specs.Literals.{test_of, column_of}
use Rattle.star_sql.specs.WellFormed.{is_test, is_condition, some_and_all}
use Rattle.star_meaning.specs.Names.{Scope, ColumnPlace, place_of, kind_at}
use Rattle.star_meaning.specs.NameRefusals.{test_names}
use Rattle.star_bind.specs.Counts.{Counted, counted, counted_columns, product_of, and_count, or_count, leaf_count, test_count, factor_count}
use Rattle.star_bind.specs.Factors.{grouped, factors_of, of_one, of_all, of_primary, of_box, tests_in}
use Rattle.star_bind.specs.StarForm.{compares_columns, is_pair_factor, is_filter, tables_in}
use Rattle.star_bind.specs.WrongKind.{kind_named, refuses_words, is_wrong_test}
use Rattle.star_bind.specs.Checks.{tests_of}
use Rattle.star_bind.proofs.BoundAnswerLemmas.{is_known}

-- ---- counts of parts that each have a conjunction

counted-some : (ks : List ℕ) (n : ℕ) → 0 < n → 0 < (counted ks n).count
counted-some [] n h = h
counted-some (k ∷ []) n h = omega arith
counted-some (k ∷ j ∷ ks) n h = h

-- each has one
abbrev HaveSome : List Counted → Type 0
HaveSome [] = Unit {0}
HaveSome (c ∷ cs) = (0 < c.count) × HaveSome cs

product-some : (cs : List Counted) → HaveSome cs → 0 < product_of (map (λ (c : Counted). c.count) cs)
product-some [] h = omega arith
product-some (c ∷ cs) h = let m = mul-lt 0 0 c.count (product_of (map (λ (c : Counted). c.count) cs)) h.0 (product-some cs h.1) in omega (arith, m)

and-some : (cs : List Counted) → HaveSome cs → 0 < (and_count cs).count
and-some cs h = counted-some (counted_columns cs) (product_of (map (λ (c : Counted). c.count) cs)) (product-some cs h)

or-some : (c : Counted) (cs : List Counted) → HaveSome (c ∷ cs) → 0 < (or_count (c ∷ cs)).count
or-some c cs h =
    let a = h.0 in
    let e = sum_by-cons (λ (c : Counted). c.count) c cs in
    counted-some (counted_columns (c ∷ cs)) (sum_by (λ (c : Counted). c.count) (c ∷ cs)) (omega (arith, a, e))

some-all : {X : Type 0} (p : X → Bool) (xs : List X) → some_and_all p xs ≡ true → list_all p xs ≡ true
some-all p [] h = refl
some-all p (x ∷ xs) h = h

-- ---- a part whose tests each have a conjunction

module _ (scope : Scope) where
  -- whether a test has a conjunction
  abbrev pub has_one : TestWords → Bool
  has_one w = nat_lt 0 (test_count scope w).count

  abbrev given : List TestWords → Bool
  given tests = list_all has_one tests

  abbrev tests_prims : {n : _} → Row_of-Primary n → List (List TestWords)
  tests_prims prims = of_prims (λ words. words ∷ []) (λ tests. tests) joined joined prims

  abbrev tests_conjs : {n : _} → Row_of-Conj n → List (List TestWords)
  tests_conjs conjs = of_conjs (λ words. words ∷ []) (λ tests. tests) joined joined conjs

  abbrev formed_prims : {n : _} → Row_of-Primary n → List Bool
  formed_prims prims = of_prims is_test (λ b. b) (some_and_all (λ b. b)) (some_and_all (λ b. b)) prims

  abbrev formed_conjs : {n : _} → Row_of-Conj n → List Bool
  formed_conjs conjs = of_conjs is_test (λ b. b) (some_and_all (λ b. b)) (some_and_all (λ b. b)) conjs

  abbrev pub is_formed : Primary → Bool
  is_formed p = of_prim is_test (λ b. b) (some_and_all (λ b. b)) (some_and_all (λ b. b)) p

  row-some : {n : _} (conjs : Row_of-Conj n) → some_and_all (λ b. b) (formed_conjs conjs) ≡ true → HaveSome (of_conjs (test_count scope) (λ c. c) and_count or_count conjs)
      → 0 < (or_count (of_conjs (test_count scope) (λ c. c) and_count or_count conjs)).count
  row-some end_of-Conj f h = absurd (true≢false (sym f))
  row-some (more_of-Conj shape prims rest) f h = or-some (and_count (of_prims (test_count scope) (λ c. c) and_count or_count prims)) (of_conjs (test_count scope) (λ c. c) and_count or_count rest) h

  mutual
    pub prim-some : (p : Primary) → is_formed p ≡ true → given (tests_in p) ≡ true → 0 < (factor_count scope p).count
    prim-some (TestIn words) f h = ltb-true 0 (test_count scope words).count (and_parts (has_one words) true h).0
    prim-some (Group' shape box) f h = boxed-some box f h

    boxed-some : {n : _} (box : Row_of-Cond n) → of_boxed is_test (λ b. b) (some_and_all (λ b. b)) (some_and_all (λ b. b)) box ≡ true → given (of_boxed (λ words. words ∷ []) (λ tests. tests) joined joined box) ≡ true
        → 0 < (of_boxed (test_count scope) (λ c. c) and_count or_count box).count
    boxed-some end_of-Cond f h = absurd (true≢false (sym f))
    boxed-some (more_of-Cond cond rest) f h = cond-some cond f h

    cond-some : (cond : Cond) → is_condition cond ≡ true → given (of_cond (λ words. words ∷ []) (λ tests. tests) joined joined cond) ≡ true → 0 < (of_cond (test_count scope) (λ c. c) and_count or_count cond).count
    cond-some (Cond' shape conjs) f h = row-some conjs f (conjs-some conjs (some-all (λ b. b) (formed_conjs conjs) f) h)

    conjs-some : {n : _} (conjs : Row_of-Conj n) → list_all (λ b. b) (formed_conjs conjs) ≡ true → given (joined (tests_conjs conjs)) ≡ true → HaveSome (of_conjs (test_count scope) (λ c. c) and_count or_count conjs)
    conjs-some end_of-Conj f h = tt
    conjs-some (more_of-Conj shape prims rest) f h =
        let a = and_parts (some_and_all (λ b. b) (formed_prims prims)) (list_all (λ b. b) (formed_conjs rest)) f in
        let b = and_parts (given (joined (tests_prims prims))) (given (joined (tests_conjs rest))) (sym (list_all-append has_one (joined (tests_prims prims)) (joined (tests_conjs rest))) ∙ h) in
        (and-some (of_prims (test_count scope) (λ c. c) and_count or_count prims) (prims-some prims (some-all (λ b. b) (formed_prims prims) a.0) b.0), conjs-some rest a.1 b.1)

    prims-some : {n : _} (prims : Row_of-Primary n) → list_all (λ b. b) (formed_prims prims) ≡ true → given (joined (tests_prims prims)) ≡ true → HaveSome (of_prims (test_count scope) (λ c. c) and_count or_count prims)
    prims-some end_of-Primary f h = tt
    prims-some (more_of-Primary prim rest) f h =
        let a = and_parts (is_formed prim) (list_all (λ b. b) (formed_prims rest)) f in
        let b = and_parts (given (tests_in prim)) (given (joined (tests_prims rest))) (sym (list_all-append has_one (tests_in prim) (joined (tests_prims rest))) ∙ h) in
        (prim-some prim a.0 b.0, prims-some rest a.1 b.1)

  factors-some : (fs : List Primary) → list_all (λ f. is_formed f && given (tests_in f)) fs ≡ true → HaveSome (map (factor_count scope) fs)
  factors-some [] h = tt
  factors-some (f ∷ fs) h =
      let a = and_parts (is_formed f && given (tests_in f)) (list_all (λ f. is_formed f && given (tests_in f)) fs) h in
      let b = and_parts (is_formed f) (given (tests_in f)) a.0 in
      (prim-some f b.0 b.1, factors-some fs a.1)

  pub count-some : (fs : List Primary) → list_all (λ f. is_formed f && given (tests_in f)) fs ≡ true → 0 < (and_count (map (factor_count scope) fs)).count
  count-some fs h = and-some (map (factor_count scope) fs) (factors-some fs h)

-- ---- the factors of a well formed condition are well formed, and their tests are among its own

module _ (q : Primary → Bool) where
  both-all : (ps qs : List Primary) → list_all q ps ≡ true → list_all q qs ≡ true → list_all q (ps ++ qs) ≡ true
  both-all ps qs a b = list_all-append q ps qs ∙ λ i. a i && b i

module _ (p : TestWords → Bool) where
  -- formed, with tests that pass
  abbrev pub passes_formed : Primary → Bool
  passes_formed f = of_prim is_test (λ b. b) (some_and_all (λ b. b)) (some_and_all (λ b. b)) f && list_all p (tests_in f)

  abbrev formed_of : {n : _} → Row_of-Primary n → List Bool
  formed_of prims = of_prims is_test (λ b. b) (some_and_all (λ b. b)) (some_and_all (λ b. b)) prims

  abbrev tests_of_prims : {n : _} → Row_of-Primary n → List (List TestWords)
  tests_of_prims prims = of_prims (λ words. words ∷ []) (λ tests. tests) joined joined prims

  mutual
    pub cond-factors : (c : Cond) → is_condition c ≡ true → list_all p (tests_of c) ≡ true → list_all passes_formed (factors_of c) ≡ true
    cond-factors (Cond' shape conjs) f h = one-factors (grouped (Cond' shape conjs)) conjs (λ i. f i && h i) f h

    one-factors : {n : _} (whole : Primary) (conjs : Row_of-Conj n) → passes_formed whole ≡ true
        → some_and_all (λ b. b) (of_conjs is_test (λ b. b) (some_and_all (λ b. b)) (some_and_all (λ b. b)) conjs) ≡ true
        → list_all p (joined (of_conjs (λ words. words ∷ []) (λ tests. tests) joined joined conjs)) ≡ true → list_all passes_formed (of_one whole conjs) ≡ true
    one-factors whole end_of-Conj w f h = λ i. w i && true
    one-factors whole (more_of-Conj shape prims end_of-Conj) w f h =
        let a = and_parts (some_and_all (λ b. b) (formed_of prims)) true f in
        let b = and_parts (list_all p (joined (tests_of_prims prims))) true (sym (list_all-append p (joined (tests_of_prims prims)) []) ∙ h) in
        prims-factors prims (some-all (λ b. b) (formed_of prims) a.0) b.0
    one-factors whole (more_of-Conj shape prims (more_of-Conj other more rest)) w f h = λ i. w i && true

    prims-factors : {n : _} (prims : Row_of-Primary n) → list_all (λ b. b) (formed_of prims) ≡ true → list_all p (joined (tests_of_prims prims)) ≡ true → list_all passes_formed (of_all prims) ≡ true
    prims-factors end_of-Primary f h = refl
    prims-factors (more_of-Primary prim prims) f h =
        let a = and_parts (of_prim is_test (λ b. b) (some_and_all (λ b. b)) (some_and_all (λ b. b)) prim) (list_all (λ b. b) (formed_of prims)) f in
        let b = and_parts (list_all p (tests_in prim)) (list_all p (joined (tests_of_prims prims))) (sym (list_all-append p (tests_in prim) (joined (tests_of_prims prims))) ∙ h) in
        both-all passes_formed (of_primary prim) (of_all prims) (prim-factors prim a.0 b.0) (prims-factors prims a.1 b.1)

    prim-factors : (f : Primary) → of_prim is_test (λ b. b) (some_and_all (λ b. b)) (some_and_all (λ b. b)) f ≡ true → list_all p (tests_in f) ≡ true → list_all passes_formed (of_primary f) ≡ true
    prim-factors (TestIn words) f h = λ i. (f i && h i) && true
    prim-factors (Group' shape box) f h = box-factors (Group' shape box) box (λ i. f i && h i) f h

    box-factors : {n : _} (whole : Primary) (box : Row_of-Cond n) → passes_formed whole ≡ true → of_boxed is_test (λ b. b) (some_and_all (λ b. b)) (some_and_all (λ b. b)) box ≡ true
        → list_all p (of_boxed (λ words. words ∷ []) (λ tests. tests) joined joined box) ≡ true → list_all passes_formed (of_box whole box) ≡ true
    box-factors whole end_of-Cond w f h = λ i. w i && true
    box-factors whole (more_of-Cond cond rest) w f h = cond-factors cond f h

-- ---- a test that compares no two columns, whose column is known and takes it, has a conjunction

module _ (scope : Scope) where
  -- whether its column is known, and it puts no wrong kinds together
  abbrev pub is_right : TestWords → Bool
  is_right w = is_known scope (column_of w) && not (is_wrong_test scope w)

  leaf-some : (o : Option ColumnPlace) (w : TestWords) → is_some o ≡ true → refuses_words (option_map_or (λ p. Some (kind_at scope p)) o None) w ≡ false
      → nat_lt 0 (leaf_count (option_map (λ p. p.column) o) (option_map_or (λ p. test_of (kind_at scope p) w) o None)).count ≡ true
  leaf-some None w k r = absurd (true≢false (sym k))
  leaf-some (Some p) w k r = by (test_of (kind_at scope p) w) r
    where
      by : (t : Option Test) → is_none t ≡ false → nat_lt 0 (leaf_count (Some p.column) t).count ≡ true
      by None e = absurd (true≢false e)
      by (Some t) e = refl

  not-yes : (b : Bool) → not b ≡ true → b ≡ false
  not-yes true e = absurd (true≢false (sym e))
  not-yes false e = refl

  right-some : (w : TestWords) → is_right w ≡ true → compares_columns w ≡ false → has_one scope w ≡ true
  right-some (Columns l o r) h c = absurd (true≢false c)
  right-some (Compare column op l) h c = let a = and_parts (is_known scope column) (not (is_wrong_test scope (Compare column op l))) h in leaf-some (place_of scope column) (Compare column op l) a.0 (not-yes (is_wrong_test scope (Compare column op l)) a.1)
  right-some (Between column low high) h c = let a = and_parts (is_known scope column) (not (is_wrong_test scope (Between column low high))) h in leaf-some (place_of scope column) (Between column low high) a.0 (not-yes (is_wrong_test scope (Between column low high)) a.1)
  right-some (Among column list) h c = let a = and_parts (is_known scope column) (not (is_wrong_test scope (Among column list))) h in leaf-some (place_of scope column) (Among column list) a.0 (not-yes (is_wrong_test scope (Among column list)) a.1)
  right-some (Like column pattern) h c = let a = and_parts (is_known scope column) (not (is_wrong_test scope (Like column pattern))) h in leaf-some (place_of scope column) (Like column pattern) a.0 (not-yes (is_wrong_test scope (Like column pattern)) a.1)

  tests-some : (ws : List TestWords) → list_all is_right ws ≡ true → list_any compares_columns ws ≡ false → list_all (has_one scope) ws ≡ true
  tests-some [] h c = refl
  tests-some (w ∷ ws) h c =
      let a = and_parts (is_right w) (list_all is_right ws) h in
      let b = neither (compares_columns w) (list_any compares_columns ws) c in
      and_both (has_one scope w) (list_all (has_one scope) ws) (right-some w a.0 b.0) (tests-some ws a.1 b.1)

  -- a filter with such tests
  pub filter-some : (f : Primary) → passes_formed is_right f ≡ true → (is_pair_factor f || is_filter scope f) ≡ true → is_pair_factor f ≡ false → (is_formed scope f && list_all (has_one scope) (tests_in f)) ≡ true
  filter-some f h parted pair =
      let a = and_parts (is_formed scope f) (list_all is_right (tests_in f)) h in
      let plain : is_filter scope f ≡ true = ap (λ (b : Bool). b || is_filter scope f) (sym pair) ∙ parted in
      let b = and_parts (nat_le (length (tables_in scope f)) 1) (not (list_any compares_columns (tests_in f))) plain in
      and_both (is_formed scope f) (list_all (has_one scope) (tests_in f)) a.0 (tests-some (tests_in f) a.1 (not-yes (list_any compares_columns (tests_in f)) b.1))
