-- The tests of a condition, by lists.
use Rattle.std.proofs.Common.{◌≡◌, ◌≤◌, ℕ, List, [], ◌∷◌, ◌++◌, map, drop, length, Result, Ok, Err, OnOk, sym, ap, ◌∙◌}
use Rattle.std.proofs.lemmas.List.{append-nil, drop_all}
use Rattle.blink_lists.specs.Lists.{joined}
use Rattle.star_sql.specs.declared.ast.TestWords.{TestWords}
use Rattle.star_sql.specs.declared.ast.Primary.{Primary, Group}
use Rattle.star_sql.specs.declared.ast.Cond.{Cond}
use Rattle.star_sql.specs.declared.ast.Conj.{Conj}
use Rattle.star_sql.proofs.FoldLemmas.{conjs_of, cond_of-conjs, fold_cond, fold_group}
use Rattle.star_bind.specs.Factors.{tests_in}
use Rattle.star_bind.specs.Checks.{tests_of}

pub tests_cond : (c : Cond) → tests_of c ≡ joined (map (λ (conj : Conj). joined (map tests_in conj.all)) (conjs_of c))
tests_cond c = ap tests_of (sym (cond_of-conjs c)) ∙ fold_cond (λ words. words ∷ []) (λ tests. tests) joined joined (conjs_of c)

pub tests_group : (c : Cond) → tests_in (Group c) ≡ tests_of c
tests_group c = fold_group (λ words. words ∷ []) (λ tests. tests) joined joined c

-- the tests that a conjunction adds
abbrev pub conj_tests : Conj → List TestWords
conj_tests conj = joined (map tests_in conj.all)

pub cond_added : (xs ys : List TestWords) (c : Cond) (conjs : List Conj) (i : ℕ) → conjs ≡ conjs_of c → length conjs ≤ i
    → xs ++ joined (map conj_tests (drop i conjs)) ≡ ys ++ joined (map conj_tests conjs) → xs ≡ ys ++ tests_of c
cond_added xs ys c conjs i e le so_far =
    sym (append-nil xs) ∙ ap (λ (cs : List Conj). xs ++ joined (map conj_tests cs)) (sym (drop_all i conjs le)) ∙ so_far
    ∙ ap (λ (cs : List Conj). ys ++ joined (map conj_tests cs)) e ∙ ap (λ (ts : List TestWords). ys ++ ts) (sym (tests_cond c))

pub group_added : {X E : Type 0} (r : Result X E) (xs ys : List TestWords) (p : Primary) (c d : Cond) → p ≡ Group d → c ≡ d
    → OnOk r (xs ≡ ys ++ tests_of c) → OnOk r (xs ≡ ys ++ tests_in p)
group_added (Ok u) xs ys p c d e f told = told ∙ ap (λ (ts : List TestWords). ys ++ ts) (ap tests_of f ∙ sym (tests_group d) ∙ ap tests_in (sym e))
group_added (Err why) xs ys p c d e f told = tt
