-- A column with one value in a group has that value there.
use Rattle.std.proofs.Common.{◌≡◌, Bool, true, false, List, [], ◌∷◌, map, Some, refl, sym, ap, ◌∙◌}
use Rattle.std.specs.List.{All}
use Rattle.std.specs.Option.{option_map_or}
use Rattle.std.specs.Ordering.{is_le}
use Rattle.std.specs.declared.cmp.Ordering.{Ordering}
use Rattle.std.proofs.lemmas.List.Elements.{All-head, All-tail}
use Rattle.blink_base.specs.Values.{value_cmp}
use Rattle.blink_base.specs.Lines.{field_if_some}
use Rattle.blink_lists.specs.Lists.{put_in_order, in_order, first_of}
use Rattle.star_meaning.specs.Groups.{value_of, ColumnsOfOneValue}

module _ {X : Type 0} (cmp : X → X → Ordering) (v : X) where
  put_in_order-first : (x : X) (ys : List X) → x ≡ v → ((y : X) → first_of ys ≡ Some y → y ≡ v) → first_of (put_in_order cmp x ys) ≡ Some v
  put_in_order-first x [] e h = ap (λ z. Some z) e
  put_in_order-first x (y ∷ ys) e h = by (is_le (cmp x y)) refl
    where
      by : (b : Bool) → is_le (cmp x y) ≡ b → first_of (put_in_order cmp x (y ∷ ys)) ≡ Some v
      by true k = rw (put_in_order, k) (ap (λ z. Some z) e)
      by false k = rw (put_in_order, k) (ap (λ z. Some z) (h y refl))

  in_order-first : {G : Type 0} (f : G → X) (r : G) (rest : List G) → All (λ g. f g ≡ v) (r ∷ rest) → first_of (in_order cmp (map f (r ∷ rest))) ≡ Some v
  in_order-first f r [] all = ap (λ z. Some z) (All-head (λ g. f g ≡ v) r [] all)
  in_order-first f r (s ∷ rest) all =
      put_in_order-first (f r) (in_order cmp (map f (s ∷ rest))) (All-head (λ g. f g ≡ v) r (s ∷ rest) all)
      (λ y e. ap (λ o. option_map_or (λ z. z) o v) (sym e ∙ in_order-first f s rest (All-tail (λ g. f g ≡ v) r (s ∷ rest) all)))

pub columns_of_one_value : ColumnsOfOneValue
columns_of_one_value scope c v r rest all = ap field_if_some (in_order-first value_cmp v (value_of scope c) r rest all)
