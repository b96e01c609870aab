-- Sets of codes of a cell, with further sets among them.
use Rattle.std.proofs.Common.{◌≡◌, ◌==◌, ◌+◌, ◌<◌, ◌≤◌, ℕ, zero, suc, Bool, true, false, ◌||◌, List, [], ◌∷◌, ◌++◌, map, length, get_or, slice_set, refl, sym, ap, ◌∙◌, true≢false, arith, append_assoc}
use Rattle.std.specs.List.{list_all, list_any, position_or_len}
use Rattle.std.proofs.lemmas.Bool.{eq-eqb, eqb-true, ne_eqb}
use Rattle.std.proofs.lemmas.List.{map-append}
use Rattle.std.proofs.lemmas.List.Folds.{list_any-append}
use Rattle.blink_lists.proofs.BoolLemmas.{or-true}
use Rattle.blink_lists.proofs.GroupLemmas.{both, and_both}
use Rattle.star_bind.specs.declared.query.ColumnTest.{ColumnTest}
use Rattle.order_codes.specs.Dictionary.{Classes, codes_where}
use Rattle.page_synopsis.specs.Runs.{in_both}
use Rattle.page_synopsis.specs.Sets.{codes_in}
use Rattle.page_synopsis.specs.declared.ranges.Ranges.{Ranges}
use Rattle.cell_scan.specs.declared.code_test.CodeTest.{CodeTest}
use Rattle.cell_scan.specs.CodeTests.{code_set, code_sets}
use Rattle.cell_scan.specs.Match.{CodeSet}
use Rattle.cell_scan.specs.ValueTests.{ValueTest, cell_class, sets_in}
use Rattle.star_select.specs.CodeSelection.{put_if, put_test, put_tests}
use Rattle.star_select.specs.CodeSets.{column_test, set_in, meet_if, put_set, put_sets, some_empty}
use Rattle.star_select.proofs.CodeSetLemmas.{sets_meet}
use Rattle.star_select.proofs.ListLemmas.{all-pass, all-self}

-- the codes of a column
abbrev pub of_column : ℕ → List ℕ → CodeSet
of_column column codes = record { column = column; codes = codes }

-- ---- sets of tests of values

module _ (columns : List Classes) (classes : List ℕ) where
  put-in : (tests : List ValueTest) (b : ValueTest) → sets_in columns classes (put_test tests b) ≡ put_set (sets_in columns classes tests) (set_in columns classes b)
  put-in [] b = refl
  put-in (a ∷ tests) b = by (a.column == b.column) refl (put-in tests b)
    where
      by : (c : Bool) → (a.column == b.column) ≡ c → sets_in columns classes (put_test tests b) ≡ put_set (sets_in columns classes tests) (set_in columns classes b)
          → sets_in columns classes (put_if c a tests b (put_test tests b))
          ≡ meet_if c (set_in columns classes a) (sets_in columns classes tests) (set_in columns classes b) (put_set (sets_in columns classes tests) (set_in columns classes b))
      by true e more =
          ap (λ (codes : List ℕ). of_column a.column codes ∷ sets_in columns classes tests)
          (sym (sets_meet a.holds b.holds (cell_class columns classes a.column))
          ∙ ap (λ k. in_both (codes_where a.holds (cell_class columns classes a.column)) (codes_where b.holds (cell_class columns classes k))) (eqb-true a.column b.column e))
      by false e more = ap (λ (sets : List CodeSet). set_in columns classes a ∷ sets) more

  pub all-put-in : (tests more : List ValueTest) → sets_in columns classes (put_tests tests more) ≡ put_sets (sets_in columns classes tests) (sets_in columns classes more)
  all-put-in tests [] = refl
  all-put-in tests (b ∷ more) = all-put-in (put_test tests b) more ∙ ap (λ (sets : List CodeSet). put_sets sets (sets_in columns classes more)) (put-in tests b)

-- ---- sets without a code

none-in : (xs : List ℕ) → in_both xs [] ≡ []
none-in [] = refl
none-in (x ∷ xs) = none-in xs

-- a set without a code, put among others
pub put-empty : (sets : List CodeSet) (b : CodeSet) → b.codes ≡ [] → some_empty (put_set sets b) ≡ true
put-empty [] b e = ap (λ (codes : List ℕ). (length codes == 0) || false) e
put-empty (a ∷ sets) b e = by (a.column == b.column) (put-empty sets b e)
  where
    by : (c : Bool) → some_empty (put_set sets b) ≡ true → some_empty (meet_if c a sets b (put_set sets b)) ≡ true
    by true more = ap (λ (codes : List ℕ). (length codes == 0) || some_empty sets) (ap (in_both a.codes) e ∙ none-in a.codes)
    by false more = ap (λ c. (length a.codes == 0) || c) more ∙ or-true (length a.codes == 0)

met-empty : (xs ys : List ℕ) (c : Bool) → ((length xs == 0) || c) ≡ true → ((length (in_both xs ys) == 0) || c) ≡ true
met-empty [] ys c h = refl
met-empty (x ∷ xs) ys c h =
    let some : (suc (length xs) == 0) ≡ false = ne_eqb (suc (length xs)) 0 (λ e. omega (arith, e)) in
    ap (λ d. (length (in_both (x ∷ xs) ys) == 0) || d) (sym (ap (λ b. b || c) some) ∙ h) ∙ or-true (length (in_both (x ∷ xs) ys) == 0)

put-keeps : (sets : List CodeSet) (b : CodeSet) → some_empty sets ≡ true → some_empty (put_set sets b) ≡ true
put-keeps [] b h = absurd (true≢false (sym h))
put-keeps (a ∷ sets) b h = by (a.column == b.column) (put-keeps sets b)
  where
    later : (p c d : Bool) → (c ≡ true → d ≡ true) → (p || c) ≡ true → (p || d) ≡ true
    later true c d step k = refl
    later false c d step k = step k

    by : (c : Bool) → (some_empty sets ≡ true → some_empty (put_set sets b) ≡ true) → some_empty (meet_if c a sets b (put_set sets b)) ≡ true
    by true more = met-empty a.codes b.codes (some_empty sets) h
    by false more = later (length a.codes == 0) (some_empty sets) (some_empty (put_set sets b)) more h

pub all-put-keep : (sets more : List CodeSet) → some_empty sets ≡ true → some_empty (put_sets sets more) ≡ true
all-put-keep sets [] h = h
all-put-keep sets (b ∷ more) h = all-put-keep (put_set sets b) more (put-keeps sets b h)

-- sets put among others, of which one has no code
no-codes : (xs : List ℕ) → (length xs == 0) ≡ true → xs ≡ []
no-codes [] h = refl
no-codes (x ∷ xs) h = let none = eqb-true (suc (length xs)) 0 h in absurd (omega (arith, none))

pub more-empty : (sets more : List CodeSet) → some_empty more ≡ true → some_empty (put_sets sets more) ≡ true
more-empty sets [] h = absurd (true≢false (sym h))
more-empty sets (b ∷ more) h = by (length b.codes == 0) refl h (more-empty (put_set sets b) more)
  where
    by : (c : Bool) → (length b.codes == 0) ≡ c → (c || some_empty more) ≡ true → (some_empty more ≡ true → some_empty (put_sets (put_set sets b) more) ≡ true) → some_empty (put_sets (put_set sets b) more) ≡ true
    by true e k rest = all-put-keep (put_set sets b) more (put-empty sets b (no-codes b.codes e))
    by false e k rest = rest k

-- the codes that are in a set and in itself
pub same-codes : (xs : List ℕ) → in_both xs xs ≡ xs
same-codes xs = all-pass (λ x. list_any (λ y. y == x) xs) xs (all-self (λ x y. y == x) (λ x. x) (λ r. eq-eqb r r refl) xs)

-- a set without a code, behind others
pub empty-among : (xs : List CodeSet) (b : CodeSet) (ys : List CodeSet) → b.codes ≡ [] → some_empty (xs ++ b ∷ ys) ≡ true
empty-among xs b ys e =
    list_any-append (λ (set : CodeSet). length set.codes == 0) xs (b ∷ ys)
    ∙ ap (λ (codes : List ℕ). some_empty xs || ((length codes == 0) || some_empty ys)) e
    ∙ or-true (some_empty xs)

-- ---- tests of codes

-- the first test of a column gives way to one of the codes in both
pub put-at : (tests : List CodeTest) (t : CodeTest) (at : ℕ) (a : CodeTest) (ranges : Ranges) → at ≡ position_or_len (λ (x : CodeTest). x.column == t.column) tests → at < length tests → a ≡ get_or tests at a
    → codes_in ranges ≡ in_both (codes_in a.ranges) (codes_in t.ranges) → code_sets (slice_set tests at (record { column = t.column; ranges = ranges })) ≡ put_set (code_sets tests) (code_set t)
put-at [] t at a ranges e lt is g = absurd (omega (arith, lt))
put-at (x ∷ xs) t zero a ranges e lt is g = by (x.column == t.column) refl
  where
    by : (c : Bool) → (x.column == t.column) ≡ c → of_column t.column (codes_in ranges) ∷ code_sets xs ≡ meet_if c (code_set x) (code_sets xs) (code_set t) (put_set (code_sets xs) (code_set t))
    by true q = λ i. of_column (sym (eqb-true x.column t.column q) i) ((g ∙ ap (λ (y : CodeTest). in_both (codes_in y.ranges) (codes_in t.ranges)) is) i) ∷ code_sets xs
    by false q = let first : position_or_len (λ (y : CodeTest). y.column == t.column) (x ∷ xs) ≡ 1 + position_or_len (λ (y : CodeTest). y.column == t.column) xs = rw q refl in absurd (omega (arith, e, first))
put-at (x ∷ xs) t (suc k) a ranges e lt is g = by (λ n l. put-at xs t k a ranges n l is g) (x.column == t.column) refl
  where
    by : (k ≡ position_or_len (λ (y : CodeTest). y.column == t.column) xs → k < length xs → code_sets (slice_set xs k (record { column = t.column; ranges = ranges })) ≡ put_set (code_sets xs) (code_set t))
        → (c : Bool) → (x.column == t.column) ≡ c → code_set x ∷ code_sets (slice_set xs k (record { column = t.column; ranges = ranges })) ≡ meet_if c (code_set x) (code_sets xs) (code_set t) (put_set (code_sets xs) (code_set t))
    by more true q = let first : position_or_len (λ (y : CodeTest). y.column == t.column) (x ∷ xs) ≡ 0 = rw q refl in absurd (omega (arith, e, first))
    by more false q =
        let first : position_or_len (λ (y : CodeTest). y.column == t.column) (x ∷ xs) ≡ 1 + position_or_len (λ (y : CodeTest). y.column == t.column) xs = rw q refl in
        ap (λ (sets : List CodeSet). code_set x ∷ sets) (more (omega (arith, e, first)) (omega (arith, lt)))

-- a test of a column that none is of
pub put-last : (tests : List CodeTest) (t : CodeTest) → length tests ≤ position_or_len (λ (x : CodeTest). x.column == t.column) tests → code_sets (tests ++ t ∷ []) ≡ put_set (code_sets tests) (code_set t)
put-last [] t le = refl
put-last (x ∷ xs) t le = by (put-last xs t) (x.column == t.column) refl
  where
    by : (length xs ≤ position_or_len (λ (y : CodeTest). y.column == t.column) xs → code_sets (xs ++ t ∷ []) ≡ put_set (code_sets xs) (code_set t)) → (c : Bool) → (x.column == t.column) ≡ c → code_set x ∷ code_sets (xs ++ t ∷ []) ≡ meet_if c (code_set x) (code_sets xs) (code_set t) (put_set (code_sets xs) (code_set t))
    by more true q = let first : position_or_len (λ (y : CodeTest). y.column == t.column) (x ∷ xs) ≡ 0 = rw q refl in absurd (omega (arith, le, first))
    by more false q =
        let first : position_or_len (λ (y : CodeTest). y.column == t.column) (x ∷ xs) ≡ 1 + position_or_len (λ (y : CodeTest). y.column == t.column) xs = rw q refl in
        ap (λ (sets : List CodeSet). code_set x ∷ sets) (more (omega (arith, le, first)))

-- where both have no code in common, none is left
pub put-empty-at : (tests : List CodeTest) (t : CodeTest) (at : ℕ) (a : CodeTest) → at ≡ position_or_len (λ (x : CodeTest). x.column == t.column) tests → at < length tests → a ≡ get_or tests at a
    → in_both (codes_in a.ranges) (codes_in t.ranges) ≡ [] → some_empty (put_set (code_sets tests) (code_set t)) ≡ true
put-empty-at [] t at a e lt is g = absurd (omega (arith, lt))
put-empty-at (x ∷ xs) t zero a e lt is g = by (x.column == t.column) refl
  where
    by : (c : Bool) → (x.column == t.column) ≡ c → some_empty (meet_if c (code_set x) (code_sets xs) (code_set t) (put_set (code_sets xs) (code_set t))) ≡ true
    by true q = ap (λ (codes : List ℕ). (length codes == 0) || some_empty (code_sets xs)) (ap (λ (y : CodeTest). in_both (codes_in y.ranges) (codes_in t.ranges)) (sym is) ∙ g)
    by false q = let first : position_or_len (λ (y : CodeTest). y.column == t.column) (x ∷ xs) ≡ 1 + position_or_len (λ (y : CodeTest). y.column == t.column) xs = rw q refl in absurd (omega (arith, e, first))
put-empty-at (x ∷ xs) t (suc k) a e lt is g = by (λ n l. put-empty-at xs t k a n l is g) (x.column == t.column) refl
  where
    by : (k ≡ position_or_len (λ (y : CodeTest). y.column == t.column) xs → k < length xs → some_empty (put_set (code_sets xs) (code_set t)) ≡ true) → (c : Bool) → (x.column == t.column) ≡ c → some_empty (meet_if c (code_set x) (code_sets xs) (code_set t) (put_set (code_sets xs) (code_set t))) ≡ true
    by more true q = let first : position_or_len (λ (y : CodeTest). y.column == t.column) (x ∷ xs) ≡ 0 = rw q refl in absurd (omega (arith, e, first))
    by more false q =
        let first : position_or_len (λ (y : CodeTest). y.column == t.column) (x ∷ xs) ≡ 1 + position_or_len (λ (y : CodeTest). y.column == t.column) xs = rw q refl in
        ap (λ c. (length (codes_in x.ranges) == 0) || c) (more (omega (arith, e, first)) (omega (arith, lt))) ∙ or-true (length (codes_in x.ranges) == 0)

pub all-set : {X : Type 0} (p : X → Bool) (xs : List X) (k : ℕ) (y : X) → list_all p xs ≡ true → p y ≡ true → list_all p (slice_set xs k y) ≡ true
all-set p [] k y h g = refl
all-set p (x ∷ xs) zero y h g = and_both (p y) (list_all p xs) g (both (p x) (list_all p xs) h).1
all-set p (x ∷ xs) (suc k) y h g = let b = both (p x) (list_all p xs) h in and_both (p x) (list_all p (slice_set xs k y)) b.0 (all-set p xs k y b.1 g)

-- one test more of a conjunction
pub next-made : (columns : List Classes) (classes : List ℕ) (made : List CodeTest) (t : ColumnTest) (codes : CodeTest) (rest : List ColumnTest) → code_set codes ≡ set_in columns classes (column_test t)
    → code_sets (made ++ codes ∷ []) ++ sets_in columns classes (map column_test rest) ≡ code_sets made ++ sets_in columns classes (map column_test (t ∷ rest))
next-made columns classes made t codes rest e =
    ap (λ (sets : List CodeSet). sets ++ sets_in columns classes (map column_test rest)) (map-append code_set made (codes ∷ []))
    ∙ append_assoc (code_sets made) (code_set codes ∷ []) (sets_in columns classes (map column_test rest))
    ∙ ap (λ (set : CodeSet). code_sets made ++ set ∷ sets_in columns classes (map column_test rest)) e
