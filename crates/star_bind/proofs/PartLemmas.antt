-- What the parts of a condition give, by lists.
use Rattle.std.proofs.Common.{suc, ◌<◌, ◌+◌, get_or, append_assoc, add-one, drop-cons, ◌≡◌, ◌≤◌, ℕ, Bool, ◌&&◌, List, [], ◌∷◌, ◌++◌, map, drop, length, Result, Ok, Err, IfOk, true, refl, sym, ap, ◌∙◌}
use Rattle.std.specs.List.{list_all}
use Rattle.std.proofs.lemmas.Bool.{and_parts}
use Rattle.std.proofs.lemmas.List.{append-nil, drop_all}
use Rattle.star_bind.specs.declared.star.factors.Factor.{Factor}
use Rattle.star_bind.specs.FactorParts.{primary_of}
use Rattle.blink_lists.specs.Lists.{all_true}
use Rattle.star_sql.specs.declared.ast.TestWords.{TestWords}
use Rattle.star_sql.specs.declared.ast.Primary.{Primary, Group}
use Rattle.star_sql.specs.declared.ast.Cond.{Cond}
use Rattle.star_sql.specs.declared.ast.Conj.{Conj}
use Rattle.star_sql.specs.Conditions.{of_prim, of_cond}
use Rattle.star_sql.specs.WellFormed.{is_test}
use Rattle.star_sql.proofs.FoldLemmas.{conjs_of, cond_of-conjs, fold_cond, fold_group}
use Rattle.star_bind.specs.Checks.{primary_is_good, conj_is_good, cond_is_good}

module _ {A : Type 0} (test : TestWords → A) (every : List A → A) (some : List A → A) where
  abbrev pub of_conj : Conj → A
  of_conj conj = every (map (of_prim test (λ x. x) every some) conj.all)

  pub cond_given : (c : Cond) → of_cond test (λ x. x) every some c ≡ some (map of_conj (conjs_of c))
  cond_given c = ap (of_cond test (λ x. x) every some) (sym (cond_of-conjs c)) ∙ fold_cond test (λ x. x) every some (conjs_of c)

  pub cond_made : {E : Type 0} (r : Result A E) (c : Cond) (conjs : List Conj) (i : ℕ) (parts : List A) → conjs ≡ conjs_of c → length conjs ≤ i
      → parts ++ map of_conj (drop i conjs) ≡ map of_conj conjs → IfOk r (λ part. part ≡ some parts) → IfOk r (λ part. part ≡ of_cond test (λ x. x) every some c)
  cond_made (Ok part) c conjs i parts e le made told =
      told ∙ ap some (sym (append-nil parts) ∙ ap (λ (cs : List Conj). parts ++ map of_conj cs) (sym (drop_all i conjs le)) ∙ made ∙ ap (map of_conj) e) ∙ sym (cond_given c)
  cond_made (Err why) c conjs i parts e le made told = tt

  pub group_made : {E : Type 0} (r : Result A E) (p : Primary) (c d : Cond) → p ≡ Group d → c ≡ d → IfOk r (λ part. part ≡ of_cond test (λ x. x) every some c)
      → IfOk r (λ part. part ≡ of_prim test (λ x. x) every some p)
  group_made (Ok part) p c d e f told = told ∙ ap (of_cond test (λ x. x) every some) f ∙ sym (fold_group test (λ x. x) every some d) ∙ ap (of_prim test (λ x. x) every some) (sym e)
  group_made (Err why) p c d e f told = tt

all-map : {X : Type 0} (f : X → Bool) (xs : List X) → all_true (map f xs) ≡ list_all f xs
all-map f [] = refl
all-map f (x ∷ xs) = ap (λ b. f x && b) (all-map f xs)

conjs_good : (conjs : List Conj) → list_all (λ (c : Conj). all_true (map primary_is_good c.all)) conjs ≡ list_all conj_is_good conjs
conjs_good [] = refl
conjs_good (c ∷ conjs) = λ i. all-map primary_is_good c.all i && conjs_good conjs i

good_is : (c : Cond) → cond_is_good c ≡ list_all conj_is_good (conjs_of c)
good_is c = cond_given is_test all_true all_true c ∙ all-map (λ (c : Conj). all_true (map primary_is_good c.all)) (conjs_of c) ∙ conjs_good (conjs_of c)

pub good_conjs : (c : Cond) (conjs : List Conj) → conjs ≡ conjs_of c → cond_is_good c ≡ true → list_all conj_is_good conjs ≡ true
good_conjs c conjs e good = ap (list_all conj_is_good) e ∙ sym (good_is c) ∙ good

pub good_group : (c d : Cond) → d ≡ c → primary_is_good (Group c) ≡ cond_is_good d
good_group c d e = fold_group is_test (λ b. b) all_true all_true c ∙ ap cond_is_good (sym e)

pub next_made : {A : Type 0} (f : Primary → A) (parts more whole : List A) (factors : List Factor) (i : ℕ) (x : Factor) (y : A) → i < length factors → x ≡ get_or factors i x → y ≡ f (primary_of x)
    → more ≡ parts ++ y ∷ [] → parts ++ map f (map primary_of (drop i factors)) ≡ whole → more ++ map f (map primary_of (drop (i + 1) factors)) ≡ whole
next_made {A} f parts more whole factors i x y lt is told push so_far =
    let rest = map f (map primary_of (drop (i + 1) factors)) in
    let here : drop i factors ≡ x ∷ drop (i + 1) factors = rw (add-one, drop-cons factors i x) (ap (λ (z : Factor). z ∷ drop (suc i) factors) (sym is)) in
    ap (λ (xs : List A). xs ++ rest) (push ∙ ap (λ (z : A). parts ++ z ∷ []) told) ∙ append_assoc parts (f (primary_of x) ∷ []) rest
    ∙ ap (λ (fs : List Factor). parts ++ map f (map primary_of fs)) (sym here) ∙ so_far

pub next_good : {X : Type 0} (p : X → Bool) (xs : List X) (i : ℕ) (x : X) → i < length xs → x ≡ get_or xs i x → list_all p (drop i xs) ≡ true → list_all p (drop (i + 1) xs) ≡ true
next_good {X} p xs i x lt is good =
    let here : drop i xs ≡ x ∷ drop (i + 1) xs = rw (add-one, drop-cons xs i x) (ap (λ (z : X). z ∷ drop (suc i) xs) (sym is)) in
    (and_parts (p x) (list_all p (drop (i + 1) xs)) (ap (list_all p) (sym here) ∙ good)).1
