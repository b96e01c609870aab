-- The factors of a condition, by lists.
use Rattle.std.proofs.Common.{◌≡◌, length, get_or, arith, List, [], ◌∷◌, ◌++◌, map, Result, Ok, Err, OnOk, refl, sym, ap, ◌∙◌}
use denote.Hole.Carrier.{hidden}
use Rattle.blink_lists.specs.Lists.{joined}
use Rattle.star_sql.specs.declared.ast.Primary.{Primary, Group}
use Rattle.star_sql.specs.declared.ast.Primary.TheBlock.{hidden-the_row-Conj-2, hidden-the_row-Cond-0, shape-the_row-Cond-0}
use Rattle.star_sql.specs.declared.ast.Cond.{Cond, rolls-Cond', Row_of-Conj, end_of-Conj, more_of-Conj, Row_of-Primary, end_of-Primary, more_of-Primary, items-the_row-Primary, items_shown-the_row-Primary-1, items-the_row-Conj, items_hidden-the_row-Conj-2}
use Rattle.star_sql.specs.declared.ast.Conj.{Conj}
use Rattle.star_sql.specs.ConditionParsers.{cond_of}
use Rattle.star_sql.proofs.FoldLemmas.{conjs_of, cond_of-conjs}
use Rattle.star_bind.specs.Factors.{grouped, factors_of, of_one, of_all, of_primary}

-- the factors of one conjunction, and else the whole
abbrev pub factors_from : Primary → List Conj → List Primary
factors_from whole [] = whole ∷ []
factors_from whole (conj ∷ []) = joined (map of_primary conj.all)
factors_from whole (conj ∷ next ∷ rest) = whole ∷ []

all_of : {n : _} (row : Row_of-Primary n) → of_all row ≡ joined (map of_primary (items-the_row-Primary n row))
all_of end_of-Primary = refl
all_of (more_of-Primary p rest) = ap (λ (xs : List Primary). of_primary p ++ xs) (all_of rest)

one_of : {n : _} (whole : Primary) (row : Row_of-Conj n) → of_one whole row ≡ factors_from whole (items-the_row-Conj n row)
one_of whole end_of-Conj = refl
one_of whole (more_of-Conj shape ps end_of-Conj) = all_of ps ∙ ap (λ (xs : List Primary). joined (map of_primary xs)) (sym (items_shown-the_row-Primary-1 shape ps))
one_of whole (more_of-Conj shape ps (more_of-Conj shape2 ps2 rest)) = refl

factors_listed : (cs : List Conj) → factors_of (cond_of cs) ≡ factors_from (grouped (cond_of cs)) cs
factors_listed cs =
    ap factors_of (rolls-Cond' (record { any = cs }))
    ∙ one_of (grouped _) (hidden-the_row-Conj-2 cs)
    ∙ λ i. factors_from (grouped (sym (rolls-Cond' (record { any = cs })) i)) (items_hidden-the_row-Conj-2 cs i)

pub factors_cond : (c : Cond) → factors_of c ≡ factors_from (grouped c) (conjs_of c)
factors_cond c = ap factors_of (sym (cond_of-conjs c)) ∙ factors_listed (conjs_of c) ∙ ap (λ (d : Cond). factors_from (grouped d) (conjs_of c)) (cond_of-conjs c)

pub group_factors : (c : Cond) → of_primary (Group c) ≡ factors_of c
unfolding hidden-the_row-Cond-0 shape-the_row-Cond-0 hidden
group_factors c = refl

pub grouped_is : (c : Cond) → Group c ≡ grouped c
unfolding hidden-the_row-Cond-0 shape-the_row-Cond-0 hidden
grouped_is c = refl

pub many_factors : (c : Cond) (conjs : List Conj) → conjs ≡ conjs_of c → (length conjs ≡ 1 → ⊥) → factors_of c ≡ grouped c ∷ []
many_factors c conjs e many = factors_cond c ∙ ap (factors_from (grouped c)) (sym e) ∙ by conjs many
  where
    by : (cs : List Conj) → (length cs ≡ 1 → ⊥) → factors_from (grouped c) cs ≡ grouped c ∷ []
    by [] m = refl
    by (x ∷ []) m = absurd (m refl)
    by (x ∷ y ∷ rest) m = refl

pub one_factors : (c : Cond) (conjs : List Conj) (conj : Conj) → conjs ≡ conjs_of c → length conjs ≡ 1 → conj ≡ get_or conjs 0 conj → factors_of c ≡ joined (map of_primary conj.all)
one_factors c conjs conj e one is = factors_cond c ∙ ap (factors_from (grouped c)) (sym e) ∙ by conjs one is
  where
    by : (cs : List Conj) → length cs ≡ 1 → conj ≡ get_or cs 0 conj → factors_from (grouped c) cs ≡ joined (map of_primary conj.all)
    by [] o i = absurd (omega (arith, o))
    by (x ∷ []) o i = ap (λ (y : Conj). joined (map of_primary y.all)) (sym i)
    by (x ∷ y ∷ rest) o i = absurd (omega (arith, o))

pub ok_along : {X E : Type 0} (r : Result X E) (xs ys a b : List Primary) → a ≡ b → OnOk r (xs ≡ ys ++ a) → OnOk r (xs ≡ ys ++ b)
ok_along (Ok x) xs ys a b e told = told ∙ ap (λ (zs : List Primary). ys ++ zs) e
ok_along (Err why) xs ys a b e told = tt
