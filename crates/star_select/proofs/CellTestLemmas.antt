-- The tests of codes that a cell is asked for a condition.
use Rattle.std.proofs.Common.{◌≡◌, ◌==◌, ◌+◌, ◌<◌, ℕ, Bool, true, false, ◌&&◌, ◌||◌, List, [], ◌∷◌, map, take, drop, length, get_or, slice_index_or, Option, Some, None, refl, sym, ap, ◌∙◌, arith}
use Rattle.std.specs.List.{list_all, list_any, zip}
use Rattle.std.proofs.Math.Bool.{or-false}
use Rattle.std.proofs.lemmas.Bool.{eqb-true}
use Rattle.std.proofs.lemmas.List.{take_more, at_drop_more}
use Rattle.std.proofs.lemmas.List.Folds.{list_all-append, list_any-append}
use Rattle.blink_base.specs.RowFits.{is_good, is_entry}
use Rattle.blink_base.specs.declared.schema.Column.{Column}
use Rattle.blink_lists.specs.Lists.{are_distinct, joined}
use Rattle.blink_lists.proofs.AllLemmas.{all_at, all-joined}
use Rattle.blink_lists.proofs.GroupLemmas.{both, and_both, all-imply}
use Rattle.star_bind.specs.declared.query.Conjunction.{Conjunction}
use Rattle.order_codes.specs.Dictionary.{Classes, are_classes, class_at}
use Rattle.page_synopsis.specs.Sets.{is_fair}
use Rattle.row_bits.specs.Bits.{some_true}
use Rattle.column_classes.specs.ColumnClasses.{are_column_classes}
use Rattle.cell_layout.specs.Image.{TableImage, cell_at}
use Rattle.cell_layout.specs.Valid.{is_valid}
use Rattle.cell_layout.proofs.PlacedImageLemmas.{valid_parts}
use Rattle.cell_scan.specs.declared.code_test.CodeTest.{CodeTest}
use Rattle.cell_scan.specs.CodeTests.{is_within, are_within, code_sets, columns_apart}
use Rattle.cell_scan.specs.Match.{CodeSet, bits_where, match_bits, passes_all}
use Rattle.cell_scan.specs.PageLaws.{OrIsEither}
use Rattle.cell_scan.specs.ValueTests.{ValueTest, sets_in}
use Rattle.code_join.specs.Keys.{Keyed}
use Rattle.star_select.specs.CellTests.{tie_tests, tied_tests, is_passed, may_be_asked, passes_some}
use Rattle.star_select.specs.CodeSelection.{conjunction_tests}
use Rattle.star_select.specs.CodeSets.{is_good_test, are_tests_of, with_some, are_good_columns, some_empty}
use Rattle.star_select.proofs.CodeSetLemmas.{empty_sets_pass_none}
use Rattle.star_select.proofs.PutSetLemmas.{all-put-in, more-empty}

-- ---- elements by their places

any-next : {X : Type 0} (p : X → Bool) (xs : List X) (i : ℕ) (x : X) → i < length xs → x ≡ get_or xs i x → list_any p (take (i + 1) xs) ≡ (list_any p (take i xs) || p x)
any-next p xs i x lt is =
    ap (list_any p) (take_more xs i x lt)
    ∙ list_any-append p (take i xs) (get_or xs i x ∷ [])
    ∙ ap (λ b. list_any p (take i xs) || b) (or-false (p (get_or xs i x)) ∙ ap p (sym is))

-- the truth values of a page, after one list of tests more
pub page-next : OrIsEither → (tests : List (List CodeTest)) (k : ℕ) (list : List CodeTest) (page : List (List ℕ)) → k < length tests → list ≡ get_or tests k list
    → some_true (bits_where (passes_some (take k tests)) page) (match_bits (code_sets list) page) ≡ bits_where (passes_some (take (k + 1) tests)) page
page-next either tests k list page lt is =
    either (passes_some (take k tests)) (passes_all (code_sets list)) page
    ∙ (λ i. bits_where (λ row. sym (any-next (λ (l : List CodeTest). passes_all (code_sets l) row) tests k list lt is) i) page)

pub drop-next : {X : Type 0} (xs : List X) (i : ℕ) (x : X) → i < length xs → x ≡ get_or xs i x → drop i xs ≡ x ∷ drop (i + 1) xs
drop-next {X = X} xs i x lt is = at_drop_more (λ (l : List X). l) xs i x lt ∙ ap (λ y. y ∷ drop (i + 1) xs) (sym is)

pub all-item : {X : Type 0} (p : X → Bool) (xs : List X) (i : ℕ) (x : X) → list_all p xs ≡ true → i < length xs → x ≡ get_or xs i x → p x ≡ true
all-item p xs i x h lt is = ap p is ∙ all_at p xs i x h lt

-- ---- good values

column-good : (column : Column) (classes : Classes) → are_column_classes column classes ≡ true → list_all (list_all is_good) classes ≡ true
column-good column classes h =
    let entries = (both (are_classes classes) (list_all (is_entry column.kind) (joined classes)) h).1 in
    sym (all-joined is_good classes) ∙ all-imply (is_entry column.kind) is_good (λ v k. (both (is_good v) _ k).0) (joined classes) entries

columns-good : (schema : List Column) (columns : List Classes) → length columns ≡ length schema → list_all (λ p. are_column_classes p.0 p.1) (zip schema columns) ≡ true → are_good_columns columns ≡ true
columns-good schema [] same h = refl
columns-good [] (classes ∷ columns) same h = absurd (omega (arith, same))
columns-good (column ∷ schema) (classes ∷ columns) same h =
    let b = both (are_column_classes column classes) (list_all (λ p. are_column_classes p.0 p.1) (zip schema columns)) h in
    and_both (list_all (list_all is_good) classes) (are_good_columns columns) (column-good column classes b.0) (columns-good schema columns (omega (arith, same)) b.1)

-- the values of a valid image's classes are good
pub image-good : (image : TableImage) → is_valid image ≡ true → are_good_columns image.columns ≡ true
image-good image valid =
    let schema = image.schema in
    let columns = image.columns in
    let a = both (length columns == length schema.columns && list_all (λ p. are_column_classes p.0 p.1) (zip schema.columns columns)) _ (valid_parts image valid).divided in
    let b = both (length columns == length schema.columns) (list_all (λ p. are_column_classes p.0 p.1) (zip schema.columns columns)) a.0 in
    columns-good schema.columns columns (eqb-true (length columns) (length schema.columns) b.0) b.1

pub class-good : (columns : List Classes) (column class : ℕ) → are_good_columns columns ≡ true → column < length columns → class < length (slice_index_or columns column []) → list_all is_good (class_at (slice_index_or columns column []) class) ≡ true
class-good columns column class h k l = all_at (list_all is_good) (slice_index_or columns column []) class [] (all_at (list_all (list_all is_good)) columns column [] h k) l

-- ---- lists of tests

-- the columns of tests that are kept for sets
columns-of : (tests : List CodeTest) → map (λ (t : CodeTest). t.column) tests ≡ map (λ (set : CodeSet). set.column) (code_sets tests)
columns-of [] = refl
columns-of (t ∷ tests) = ap (λ l. t.column ∷ l) (columns-of tests)

columns-in : (columns : List Classes) (classes : List ℕ) (tests : List ValueTest) → map (λ (set : CodeSet). set.column) (sets_in columns classes tests) ≡ map (λ (t : ValueTest). t.column) tests
columns-in columns classes [] = refl
columns-in columns classes (t ∷ tests) = ap (λ l. t.column ∷ l) (columns-in columns classes tests)

-- tests that are kept for those of a conjunction and of ties may be asked
tests-asked : (image : TableImage) (cell : ℕ) (values : List ValueTest) (tests : List CodeTest) → are_tests_of image.columns (cell_at image cell).classes (Some tests) (sets_in image.columns (cell_at image cell).classes values)
    → are_distinct (λ x y. x == y) (map (λ (t : ValueTest). t.column) values) ≡ true → may_be_asked image cell tests ≡ true
tests-asked image cell values tests made apart =
    let columns = image.columns in
    let classes = (cell_at image cell).classes in
    let fair = all-imply (is_good_test columns classes) (λ (t : CodeTest). is_fair t.ranges) (λ t h. (both (is_fair t.ranges) (is_within columns classes t) h).0) tests made.1 in
    let within = all-imply (is_good_test columns classes) (is_within columns classes) (λ t h. (both (is_fair t.ranges) (is_within columns classes t) h).1) tests made.1 in
    let same = columns-of tests ∙ ap (map (λ (set : CodeSet). set.column)) made.0 ∙ columns-in columns classes values in
    and_both (list_all (λ (t : CodeTest). is_fair t.ranges) tests && columns_apart tests) (are_within columns classes tests)
    (and_both (list_all (λ (t : CodeTest). is_fair t.ranges) tests) (columns_apart tests) fair (ap (are_distinct (λ x y. x == y)) same ∙ apart)) within

pub some-asked : (image : TableImage) (cell : ℕ) (values : List ValueTest) (all : List (List CodeTest)) (made : Option (List CodeTest))
    → are_tests_of image.columns (cell_at image cell).classes made (sets_in image.columns (cell_at image cell).classes values)
    → are_distinct (λ x y. x == y) (map (λ (t : ValueTest). t.column) values) ≡ true → list_all (may_be_asked image cell) all ≡ true → list_all (may_be_asked image cell) (with_some all made) ≡ true
some-asked image cell values all None made apart h = h
some-asked image cell values all (Some tests) made apart h =
    list_all-append (may_be_asked image cell) all (tests ∷ [])
    ∙ and_both (list_all (may_be_asked image cell) all) (may_be_asked image cell tests && true) h (and_both (may_be_asked image cell tests) true (tests-asked image cell values tests made apart) refl)

-- one conjunction more
some-passed : (columns : List Classes) (classes ties : List ℕ) (keys : List Keyed) (all : List (List CodeTest)) (made : Option (List CodeTest)) (c : Conjunction) (rest : List Conjunction) (codes : List ℕ)
    → are_tests_of columns classes made (sets_in columns classes (tied_tests ties keys c))
    → (passes_some (with_some all made) codes || is_passed columns classes ties keys rest codes) ≡ (passes_some all codes || is_passed columns classes ties keys (c ∷ rest) codes)
some-passed columns classes ties keys all None c rest codes made =
    ap (λ b. passes_some all codes || (b || is_passed columns classes ties keys rest codes)) (sym (empty_sets_pass_none (sets_in columns classes (tied_tests ties keys c)) codes made))
some-passed columns classes ties keys all (Some tests) c rest codes made =
    ap (λ b. b || is_passed columns classes ties keys rest codes)
    (list_any-append (λ (l : List CodeTest). passes_all (code_sets l) codes) all (tests ∷ [])
    ∙ ap (λ b. passes_some all codes || b) (or-false (passes_all (code_sets tests) codes) ∙ ap (λ (sets : List CodeSet). passes_all sets codes) made.0))
    ∙ or-last (passes_some all codes) (passes_all (sets_in columns classes (tied_tests ties keys c)) codes) (is_passed columns classes ties keys rest codes)
  where
    or-last : (a b d : Bool) → ((a || b) || d) ≡ (a || (b || d))
    or-last true b d = refl
    or-last false b d = refl

-- the conjunctions that are left, after one more
pub next-passed : (columns : List Classes) (classes ties : List ℕ) (keys : List Keyed) (all next : List (List CodeTest)) (made : Option (List CodeTest)) (conjunctions : List Conjunction) (k : ℕ) (c : Conjunction)
    → next ≡ with_some all made → are_tests_of columns classes made (sets_in columns classes (tied_tests ties keys c)) → k < length conjunctions → c ≡ get_or conjunctions k c
    → (codes : List ℕ) → (passes_some all codes || is_passed columns classes ties keys (drop k conjunctions) codes) ≡ is_passed columns classes ties keys conjunctions codes
    → (passes_some next codes || is_passed columns classes ties keys (drop (k + 1) conjunctions) codes) ≡ is_passed columns classes ties keys conjunctions codes
next-passed columns classes ties keys all next made conjunctions k c e kept lt is codes before =
    ap (λ (l : List (List CodeTest)). passes_some l codes || is_passed columns classes ties keys (drop (k + 1) conjunctions) codes) e
    ∙ some-passed columns classes ties keys all made c (drop (k + 1) conjunctions) codes kept
    ∙ ap (λ (l : List Conjunction). passes_some all codes || is_passed columns classes ties keys l codes) (sym (drop-next conjunctions k c lt is))
    ∙ before

-- no row passes where some tie has no code
pub none-passed : (columns : List Classes) (classes ties : List ℕ) (keys : List Keyed) (conjunctions : List Conjunction) (codes : List ℕ) → some_empty (sets_in columns classes (tie_tests ties keys)) ≡ true
    → is_passed columns classes ties keys conjunctions codes ≡ false
none-passed columns classes ties keys [] codes empty = refl
none-passed columns classes ties keys (c ∷ conjunctions) codes empty =
    let some =
    ap some_empty (all-put-in columns classes (conjunction_tests c) (tie_tests ties keys))
    ∙ more-empty (sets_in columns classes (conjunction_tests c)) (sets_in columns classes (tie_tests ties keys)) empty in
    λ i. empty_sets_pass_none (sets_in columns classes (tied_tests ties keys c)) codes some i || none-passed columns classes ties keys conjunctions codes empty i
