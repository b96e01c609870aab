-- Whether literals may stand at a column, and whether tests may be put to it.
use Rattle.std.proofs.Common.{◌≡◌, ◌≢◌, ◌-◌, ◌==◌, ℤ, ℕ, suc, Bool, true, false, not, ◌&&◌, ◌||◌, List, [], ◌∷◌, ◌++◌, length, take, drop, nat_lt, Option, Some, None, Result, Ok, Err, IfOk, IfSome, IsTrue, refl, sym, ap, ◌∙◌, subst, true≢false, arith}
use Rattle.std.specs.Prelude.{is_none, is_ok, option_map, option_and_then, nat_le, if◌then◌else◌}
use Rattle.std.proofs.lemmas.Bool.{and_parts, eqb-true, lt-ltb}
use Rattle.blink_base.specs.declared.limits.TheConstants.{LONGEST_TEXT}
use Rattle.std.specs.Result.{result_ok}
use Rattle.std.specs.List.{list_all, list_any}
use Rattle.std.proofs.lemmas.List.Folds.{list_any-append}
use Rattle.blink_lists.specs.Lists.{any_true, joined}
use Rattle.blink_base.specs.declared.op.Op.{Op}
use Rattle.blink_base.specs.declared.test.Test.TheVariants as test
use Rattle.blink_base.specs.declared.value.Kind.{Kind}
use Rattle.blink_base.specs.declared.value.Kind.TheVariants as kind
use Rattle.blink_base.specs.declared.value.Value.{Value}
use Rattle.blink_base.specs.declared.value.Value.TheVariants as value
use Rattle.blink_base.specs.declared.value.ValueFault.{ValueFault}
use Rattle.blink_base.specs.declared.value.ValueFault.TheVariants as fault
use Rattle.blink_base.specs.Dates.{date_of}
use Rattle.blink_base.specs.ReadValue.{date_or_fault}
use Rattle.blink_base.specs.RowFits.{is_entry}
use Rattle.star_sql.specs.declared.ast.Literal.{Literal}
use Rattle.star_sql.specs.declared.ast.ColumnName.{ColumnName}
use Rattle.star_sql.specs.declared.ast.TestWords.{TestWords}
use Rattle.star_sql.specs.declared.ast.TestWords.TheVariants.{Compare, Between, Among}
use Rattle.star_sql.specs.declared.ast.Cond.{Cond}
use Rattle.star_sql.specs.declared.ast.Select.{Select}
use Rattle.star_sql.specs.Conditions.{of_cond}
use Rattle.star_sql.specs.Literals.{literal_value, literal_values, is_wildcard, is_prefix_pattern, front_of, test_of}
use Rattle.star_sql.specs.WellFormed.{is_literal, is_column_name, is_test, some_and_all}
use Rattle.star_meaning.specs.Names.{Scope}
use Rattle.star_bind.specs.WrongKind.{is_wrong_test, is_wrong_item, is_wrong_condition, has_wrong_kind}
use Rattle.star_bind.specs.Checks.{tests_of, where_tests}
use Rattle.star_bind.proofs.FoldLemmas.{AllAgree, cond_agrees}

-- what reading a date answers
pub date_told : (r : Result Value ValueFault) (t : List ℕ) → (r ≢ Err fault.Memory → r ≡ date_or_fault (date_of t)) → (r ≡ Err fault.Memory → kind.Date ≡ kind.Text) → result_ok r ≡ option_map value.Date (date_of t)
date_told r t told memory = ap result_ok (told (λ e. never (memory e))) ∙ by (date_of t)
  where
    never : kind.Date ≡ kind.Text → ⊥
    never e = cc

    by : (o : Option ℤ) → result_ok (date_or_fault o) ≡ option_map value.Date o
    by None = refl
    by (Some d) = refl

-- whether a text is a date, by what reading it answers
pub date_there : (r : Result Value ValueFault) (t : List ℕ) → (r ≢ Err fault.Memory → r ≡ date_or_fault (date_of t)) → (r ≡ Err fault.Memory → kind.Date ≡ kind.Text)
    → is_ok r ≡ not (is_none (option_map value.Date (date_of t)))
date_there r t told memory = there r ∙ ap (λ (o : Option Value). not (is_none o)) (date_told r t told memory)
  where
    there : (q : Result Value ValueFault) → is_ok q ≡ not (is_none (result_ok q))
    there (Ok v) = refl
    there (Err why) = refl

-- a value that is read is an entry
pub entry_told : (r : Result Value ValueFault) → IfOk r (λ v. IsTrue (is_entry kind.Date v)) → IfSome (result_ok r) (λ v. IsTrue (is_entry kind.Date v))
entry_told (Ok v) good = good
entry_told (Err why) good = tt

pub all_there_if : (k : Kind) (ls : List Literal) → list_all (λ l. not (is_none (literal_value k l))) ls ≡ not (is_none (literal_values k ls))
all_there_if k [] = refl
all_there_if k (l ∷ ls) = by (literal_value k l) (literal_values k ls) (all_there_if k ls)
  where
    by : (o : Option Value) (os : Option (List Value)) → list_all (λ x. not (is_none (literal_value k x))) ls ≡ not (is_none os)
        → (not (is_none o) && list_all (λ x. not (is_none (literal_value k x))) ls) ≡ not (is_none (option_and_then (λ v. option_map (λ vs. v ∷ vs) os) o))
    by None os e = refl
    by (Some v) None e = e
    by (Some v) (Some vs) e = e

pub compare_refused : (b : Bool) (k : Kind) (w : TestWords) (c : ColumnName) (op : Op) (l : Literal) → w ≡ Compare c op l → b ≡ not (is_none (literal_value k l)) → not b ≡ is_none (test_of k w)
compare_refused b k w c op l e told = ap not told ∙ by (literal_value k l) ∙ ap (λ (x : TestWords). is_none (test_of k x)) (sym e)
  where
    by : (o : Option Value) → not (not (is_none o)) ≡ is_none (option_map (test.Is op) o)
    by None = refl
    by (Some v) = refl

pub between_refused : (b : Bool) (k : Kind) (w : TestWords) (c : ColumnName) (low high : Literal) → w ≡ Between c low high
    → b ≡ (not (is_none (literal_value k low)) && not (is_none (literal_value k high))) → not b ≡ is_none (test_of k w)
between_refused b k w c low high e told = ap not told ∙ by (literal_value k low) (literal_value k high) ∙ ap (λ (x : TestWords). is_none (test_of k x)) (sym e)
  where
    by : (o p : Option Value) → not (not (is_none o) && not (is_none p)) ≡ is_none (option_and_then (λ l. option_map (test.Between l) p) o)
    by None p = refl
    by (Some v) None = refl
    by (Some v) (Some w) = refl

pub among_refused : (b : Bool) (k : Kind) (w : TestWords) (c : ColumnName) (ls : List Literal) → w ≡ Among c ls
    → b ≡ list_all (λ l. not (is_none (literal_value k l))) ls → not b ≡ is_none (test_of k w)
among_refused b k w c ls e told = ap not (told ∙ all_there_if k ls) ∙ by (literal_values k ls) ∙ ap (λ (x : TestWords). is_none (test_of k x)) (sym e)
  where
    by : (o : Option (List Value)) → not (not (is_none o)) ≡ is_none (option_map test.Among o)
    by None = refl
    by (Some v) = refl

module _ (f : TestWords → Bool) where
  abbrev IsSome : Bool → List TestWords → Type 0
  IsSome b tests = b ≡ list_any f tests

  some_joined : (xs : List Bool) (ys : List (List TestWords)) → AllAgree IsSome xs ys → IsSome (any_true xs) (joined ys)
  some_joined [] [] a = refl
  some_joined [] (y ∷ ys) a = absurd a
  some_joined (x ∷ xs) [] a = absurd a
  some_joined (x ∷ xs) (y ∷ ys) a = (λ i. a.0 i || some_joined xs ys a.1 i) ∙ sym (list_any-append f y (joined ys))

  pub some_test : (cond : Cond) → of_cond f (λ b. b) any_true any_true cond ≡ list_any f (tests_of cond)
  some_test cond =
      cond_agrees IsSome f (λ b. b) any_true any_true (λ words. words ∷ []) (λ tests. tests) joined joined
      (λ w. by (f w)) (λ x y a. a) some_joined some_joined cond
    where
      by : (b : Bool) → b ≡ (b || false)
      by true = refl
      by false = refl

-- a condition puts wrong kinds together where some test does
pub wrong_tests : (scope : Scope) (cond : Option Cond) → is_wrong_condition scope cond ≡ list_any (is_wrong_test scope) (where_tests cond)
wrong_tests scope None = refl
wrong_tests scope (Some cond) = some_test (is_wrong_test scope) cond

pub wrong_kinds : (scope : Scope) (s : Select) (b : Bool) (tests : List TestWords) → list_any (λ i. is_wrong_item scope i.what) s.items ≡ false → tests ≡ where_tests s.condition
    → b ≡ list_any (is_wrong_test scope) tests → b ≡ has_wrong_kind scope s
wrong_kinds scope s b tests none e told = told ∙ ap (list_any (is_wrong_test scope)) e ∙ sym (wrong_tests scope s.condition) ∙ ap (λ c. c || is_wrong_condition scope s.condition) (sym none)

-- a list of one that passes
one_byte : (p : List ℕ) → nat_lt 0 (length p) ≡ true → list_all (λ c. c == 37) (drop (length p - 1) p) ≡ true → p ≡ take (length p - 1) p ++ 37 ∷ []
one_byte [] some last = absurd (true≢false (sym some))
one_byte (x ∷ []) some last = ap (λ c. c ∷ []) (eqb-true x 37 ((and_parts (x == 37) true last).0))
one_byte (x ∷ y ∷ ys) some last =
    let e : length (x ∷ y ∷ ys) - 1 ≡ suc (length (y ∷ ys) - 1) = omega arith in
    let rest = one_byte (y ∷ ys) (lt-ltb 0 (length (y ∷ ys)) (omega arith)) (subst (λ n. list_all (λ c. c == 37) (drop n (x ∷ y ∷ ys)) ≡ true) e last) in
    subst (λ n. x ∷ y ∷ ys ≡ take n (x ∷ y ∷ ys) ++ 37 ∷ []) (sym e) (ap (λ t. x ∷ t) rest)

-- a pattern that isn't a prefix and one %
pub no_front : (p : List ℕ) → ((front : List ℕ) → p ≢ front ++ 37 ∷ []) → None ≡ (if is_prefix_pattern p then Some (front_of p) else None)
no_front p never = by (is_prefix_pattern p) refl
  where
    by : (b : Bool) → is_prefix_pattern p ≡ b → None ≡ (if b then Some (front_of p) else None)
    by false e = refl
    by true e =
        let a = and_parts (nat_lt 0 (length p) && list_all (λ c. c == 37) (drop (length p - 1) p) && list_all (λ c. not (is_wildcard c)) (front_of p)) (nat_le (length (front_of p)) LONGEST_TEXT) e in
        let b = and_parts (nat_lt 0 (length p) && list_all (λ c. c == 37) (drop (length p - 1) p)) (list_all (λ c. not (is_wildcard c)) (front_of p)) a.0 in
        let c = and_parts (nat_lt 0 (length p)) (list_all (λ c. c == 37) (drop (length p - 1) p)) b.0 in
        absurd (never (take (length p - 1) p) (one_byte p c.0 c.1))

-- a pattern that is some front and one %
pub front_told : (p front : List ℕ) (b : Bool) → p ≡ front ++ 37 ∷ [] → (list_all (λ c. not (is_wildcard c)) front && nat_le (length front) LONGEST_TEXT) ≡ b
    → (if b then Some front else None) ≡ (if is_prefix_pattern p then Some (front_of p) else None)
front_told p front b is told =
    let long : length (front ++ 37 ∷ []) - 1 ≡ length front = long_is front in
    let front_is : front_of (front ++ 37 ∷ []) ≡ front = ap (λ n. take n (front ++ 37 ∷ [])) long ∙ take_front front in
    let last_is : drop (length (front ++ 37 ∷ []) - 1) (front ++ 37 ∷ []) ≡ 37 ∷ [] = ap (λ n. drop n (front ++ 37 ∷ [])) long ∙ drop_front front in
    let some : nat_lt 0 (length (front ++ 37 ∷ [])) ≡ true = there front in
    let prefix : is_prefix_pattern (front ++ 37 ∷ []) ≡ b =
    (λ i. some i && list_all (λ c. c == 37) (last_is i) && list_all (λ c. not (is_wildcard c)) (front_is i) && nat_le (length (front_is i)) LONGEST_TEXT) ∙ told in
    (λ i. if sym prefix i then Some (sym front_is i) else None) ∙ ap (λ (q : List ℕ). if is_prefix_pattern q then Some (front_of q) else None) (sym is)
  where
    long_is : (xs : List ℕ) → length (xs ++ 37 ∷ []) - 1 ≡ length xs
    long_is [] = refl
    long_is (x ∷ xs) = omega (arith, length_push xs)
      where
        length_push : (ys : List ℕ) → length (ys ++ 37 ∷ []) ≡ suc (length ys)
        length_push [] = refl
        length_push (y ∷ ys) = ap suc (length_push ys)

    take_front : (xs : List ℕ) → take (length xs) (xs ++ 37 ∷ []) ≡ xs
    take_front [] = refl
    take_front (x ∷ xs) = ap (λ t. x ∷ t) (take_front xs)

    drop_front : (xs : List ℕ) → drop (length xs) (xs ++ 37 ∷ []) ≡ 37 ∷ []
    drop_front [] = refl
    drop_front (x ∷ xs) = drop_front xs

    there : (xs : List ℕ) → nat_lt 0 (length (xs ++ 37 ∷ [])) ≡ true
    there [] = refl
    there (x ∷ xs) = lt-ltb 0 (length (x ∷ xs ++ 37 ∷ [])) (omega arith)

-- the literals of a well formed test are well formed
pub compare_formed : (w : TestWords) (c : ColumnName) (op : Op) (l : Literal) → w ≡ Compare c op l → is_test w ≡ true → is_literal l ≡ true
compare_formed w c op l e h = (and_parts (is_column_name c) (is_literal l) (ap is_test (sym e) ∙ h)).1

pub between_formed : (w : TestWords) (c : ColumnName) (low high : Literal) → w ≡ Between c low high → is_test w ≡ true → (is_literal low ≡ true) × (is_literal high ≡ true)
between_formed w c low high e h =
    let a = and_parts (is_column_name c && is_literal low) (is_literal high) (ap is_test (sym e) ∙ h) in
    ((and_parts (is_column_name c) (is_literal low) a.0).1, a.1)

pub among_formed : (w : TestWords) (c : ColumnName) (ls : List Literal) → w ≡ Among c ls → is_test w ≡ true → list_all is_literal ls ≡ true
among_formed w c ls e h = by ls (and_parts (is_column_name c) (some_and_all is_literal ls) (ap is_test (sym e) ∙ h)).1
  where
    by : (xs : List Literal) → some_and_all is_literal xs ≡ true → list_all is_literal xs ≡ true
    by [] f = refl
    by (x ∷ xs) f = f
