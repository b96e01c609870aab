-- How large sums may be.
use Rattle.std.proofs.Common.{◌≡◌, ◌≤◌, ◌<◌, ◌+◌, ◌-◌, ◌*◌, ◌^◌, ℕ, ℤ, pos, negsuc, neg_ℤ, zero, suc, ◌+ℤ◌, ◌*ℤ◌, Bool, true, false, cond, nat_lt, [], ◌∷◌, length, refl, sym, subst, arith}
use Rattle.std.specs.Prelude.{nat_abs}
use lib.IntN.{sub_ℕ}
use Rattle.std.proofs.lemmas.Bool.{ltb-true}
use Rattle.std.proofs.lemmas.Nat.{mul-le}
use Rattle.std.proofs.lemmas.List.Elements.{All-head, All-tail}
use Rattle.blink_base.specs.Lines.{sum_of}
use Rattle.blink_base.specs.Values.{number_in}
use Rattle.late_decode.specs.declared.plan.Formula.TheVariants.{One, Times, Plus, Minus}
use Rattle.late_decode.specs.Sums.{SumsBounded, FormulasBounded}

abs-sub : (a b : ℕ) → nat_abs (sub_ℕ a b) ≤ a + b
abs-sub a b = by (nat_lt a b) refl
  where
    by : (c : Bool) → nat_lt a b ≡ c → nat_abs (cond (nat_lt a b) (negsuc (b - suc a)) (pos (a - b))) ≤ a + b
    by true e = let lt : a < b = ltb-true a b e in rw e (omega (arith, lt))
    by false e = rw e (omega arith)

pub abs-add : (x y : ℤ) → nat_abs (x +ℤ y) ≤ nat_abs x + nat_abs y
abs-add (pos a) (pos b) = omega arith
abs-add (pos a) (negsuc b) = abs-sub a (suc b)
abs-add (negsuc a) (pos b) = let h = abs-sub b (suc a) in omega (arith, h)
abs-add (negsuc a) (negsuc b) = omega arith

abs-neg : (x : ℤ) → nat_abs (neg_ℤ x) ≡ nat_abs x
abs-neg (pos zero) = refl
abs-neg (pos (suc n)) = refl
abs-neg (negsuc n) = refl

abs-times : (x y : ℤ) → nat_abs (x *ℤ y) ≡ nat_abs x * nat_abs y
abs-times (pos a) (pos b) = refl
abs-times (pos a) (negsuc b) = abs-neg (pos (a * suc b))
abs-times (negsuc a) (pos b) = abs-neg (pos (suc a * b))
abs-times (negsuc a) (negsuc b) = refl

pub sums_bounded : SumsBounded
sums_bounded size [] h = omega arith
sums_bounded size (n ∷ ns) h =
    let first : nat_abs n ≤ size = All-head (λ m. nat_abs m ≤ size) n ns h in
    let rest : nat_abs (sum_of ns) ≤ size * length ns = sums_bounded size ns (All-tail (λ m. nat_abs m ≤ size) n ns h) in
    let both : nat_abs (n +ℤ sum_of ns) ≤ nat_abs n + nat_abs (sum_of ns) = abs-add n (sum_of ns) in
    let more : size * length (n ∷ ns) ≡ size + size * length ns = grind arith in
    omega (arith, first, rest, both, more)

pub formulas_bounded : FormulasBounded
formulas_bounded (One a) at h = let k = h a in omega (arith, k)
formulas_bounded (Times a b) at h =
    let product = mul-le (nat_abs (number_in (at a))) (nat_abs (number_in (at b))) (10 ^ 15) (10 ^ 15) (h a) (h b) in
    subst (λ n. n ≤ 10 ^ 30) (sym (abs-times (number_in (at a)) (number_in (at b)))) product
formulas_bounded (Plus a b) at h =
    let k = h a in
    let l = h b in
    let both = abs-add (number_in (at a)) (number_in (at b)) in
    omega (arith, k, l, both)
formulas_bounded (Minus a b) at h =
    let k = h a in
    let l = h b in
    let both = abs-add (number_in (at a)) (neg_ℤ (number_in (at b))) in
    let same = abs-neg (number_in (at b)) in
    omega (arith, k, l, both, same)
