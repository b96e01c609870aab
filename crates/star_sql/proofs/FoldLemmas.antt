-- The fold over conditions by lists: what it gives for a condition of some conjunctions, and for a group.
use Rattle.std.proofs.Common.{◌≡◌, List, ◌∷◌, map, refl, sym, ap, ◌∙◌, ◌⊎◌, inl, inr}
use denote.Hole.Carrier.{hidden}
use Rattle.star_sql.specs.declared.ast.TestWords.{TestWords}
use Rattle.star_sql.specs.declared.ast.Primary.{Primary, Test, Group, out-Primary, roll-Primary, roll-out-Primary}
use Rattle.star_sql.specs.declared.ast.Primary.TheOpen as layer
use Rattle.star_sql.specs.declared.ast.Primary.TheVariants.{rolls-Test, rolls-Group}
use Rattle.star_sql.specs.declared.ast.Primary.TheBlock.{hidden-the_row-Conj-2, shown-the_row-Primary-1, hidden-the_row-Cond-0, shape-the_row-Cond-0}
use Rattle.star_sql.specs.declared.ast.Cond.{Cond, out-Cond, roll-out-Cond, rolls-Cond', Row_of-Conj, end_of-Conj, more_of-Conj, Row_of-Primary, end_of-Primary, more_of-Primary, items-the_row-Primary, items_shown-the_row-Primary-1, items-the_row-Conj, items_hidden-the_row-Conj-2}
use Rattle.star_sql.specs.declared.ast.Conj.{Conj}
use Rattle.star_sql.specs.Conditions.{of_prim, of_cond, of_conjs, of_prims}
use Rattle.star_sql.specs.ConditionParsers.{cond_of}

module _ {A : Type 0} (test : TestWords → A) (group : A → A) (every : List A → A) (some : List A → A) where
  abbrev pub on_prim : Primary → A
  on_prim = of_prim test group every some

  abbrev pub on_conj : Conj → A
  on_conj c = every (map on_prim c.all)

  prims_map : {n : _} (row : Row_of-Primary n) → of_prims test group every some row ≡ map on_prim (items-the_row-Primary n row)
  prims_map end_of-Primary = refl
  prims_map (more_of-Primary p rest) = ap (λ (xs : List A). on_prim p ∷ xs) (prims_map rest)

  conjs_map : {n : _} (row : Row_of-Conj n) → of_conjs test group every some row ≡ map on_conj (items-the_row-Conj n row)
  conjs_map end_of-Conj = refl
  conjs_map (more_of-Conj shape ps rest) =
      let here : every (of_prims test group every some ps) ≡ every (map on_prim (shown-the_row-Primary-1 shape ps)) = ap every (prims_map ps ∙ ap (map on_prim) (sym (items_shown-the_row-Primary-1 shape ps))) in
      ap (λ (x : A). x ∷ of_conjs test group every some rest) here ∙ ap (λ (xs : List A). every (map on_prim (shown-the_row-Primary-1 shape ps)) ∷ xs) (conjs_map rest)

  pub fold_cond : (cs : List Conj) → of_cond test group every some (cond_of cs) ≡ some (map on_conj cs)
  fold_cond cs = ap (of_cond test group every some) (rolls-Cond' (record { any = cs })) ∙ ap some (conjs_map (hidden-the_row-Conj-2 cs) ∙ ap (map on_conj) (items_hidden-the_row-Conj-2 cs))

  pub fold_group : (c : Cond) → on_prim (Group c) ≡ group (of_cond test group every some c)
  unfolding hidden-the_row-Cond-0 shape-the_row-Cond-0 hidden
  fold_group c = refl

-- the conjunctions of a condition
abbrev pub conjs_of : Cond → List Conj
conjs_of c = (out-Cond c).any

pub cond_of-conjs : (c : Cond) → cond_of (conjs_of c) ≡ c
cond_of-conjs c = roll-out-Cond c

-- each primary is a test or a group
pub parted : (p : Primary) → ((w : TestWords) × (p ≡ Test w)) ⊎ ((c : Cond) × (p ≡ Group c))
parted p = from (out-Primary p) (sym (roll-out-Primary p))
  where
    from : (x : layer.Primary-F Primary Cond Conj) → p ≡ roll-Primary x → ((w : TestWords) × (p ≡ Test w)) ⊎ ((c : Cond) × (p ≡ Group c))
    from (layer.Test w) e = inl (w, e ∙ rolls-Test w)
    from (layer.Group c) e = inr (c, e ∙ rolls-Group c)
