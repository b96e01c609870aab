-- Sums and products may be capped at each step.
use Rattle.std.proofs.Common.{◌≡◌, ◌≤◌, ◌<◌, ◌+◌, ◌*◌, ℕ, zero, suc, sym, ap, ◌∙◌, arith, ◌⊎◌, inl, inr}
use Rattle.std.proofs.lemmas.Bool.{cases_lt}
use Rattle.std.proofs.lemmas.Nat.{mul-le}
use Rattle.star_bind.specs.Caps.{capped, CapsCompose}

sum-capped : (a b : ℕ) → capped (a + b) ≡ capped (capped a + capped b)
sum-capped a b = omega arith

small : (n : ℕ) → n ≤ 65 → capped n ≡ n
small n le = omega (arith, le)

large : (n : ℕ) → 65 ≤ n → capped n ≡ 65
large n le = omega (arith, le)

-- a factor of at least 65 beside another that is not 0
big : (a b : ℕ) → 65 ≤ a → 1 ≤ b → 65 ≤ a * b
big a b la lb = let h = mul-le 65 1 a b la lb in omega (arith, h)

left-large : (a b : ℕ) → 65 ≤ a → capped (a * b) ≡ capped (capped a * capped b)
left-large a zero la = grind arith
left-large a (suc b) la =
    let some : 1 ≤ capped (suc b) = omega arith in
    let here : 65 ≤ capped a = omega (arith, la) in
    large (a * suc b) (big a (suc b) la (omega arith)) ∙ sym (large (capped a * capped (suc b)) (big (capped a) (capped (suc b)) here some))

product-capped : (a b : ℕ) → capped (a * b) ≡ capped (capped a * capped b)
product-capped a b = from (cases_lt a 65) (cases_lt b 65)
  where
    from : ((a < 65) ⊎ (65 ≤ a)) → ((b < 65) ⊎ (65 ≤ b)) → capped (a * b) ≡ capped (capped a * capped b)
    from (inr la) other = left-large a b la
    from (inl la) (inl lb) = λ i. capped (sym (small a (omega (arith, la))) i * sym (small b (omega (arith, lb))) i)
    from (inl la) (inr lb) = ap capped (swap a b) ∙ left-large b a lb ∙ ap capped (swap (capped b) (capped a))
      where
        swap : (x y : ℕ) → x * y ≡ y * x
        swap x y = grind arith

pub caps_compose : CapsCompose
caps_compose a b = (sum-capped a b, product-capped a b)
