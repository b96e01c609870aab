-- Comparison by two guarded subtractions, block by block.
use Rattle.std.proofs.Common.{ℕ, ◌+◌, ◌-◌, ◌*◌, ◌^◌, ◌≡◌, ◌≤◌, ◌<◌, refl, sym, subst, arith}
use Rattle.std.specs.Prelude.{bit_and, bit_or}
use Rattle.std.proofs.lemmas.Nat.{and_block, or_block, xor_block, or_lt, pow_pos, pow-add}

-- high with its guards less x, and x with its guards less low, where both guards stay
abbrev pub tested : ℕ → ℕ → ℕ → ℕ → ℕ
tested x l h g = bit_and (bit_and (bit_or h g - x) (bit_or x g - l)) g

pub sub_block : (k a b r s : ℕ) → s ≤ r → b ≤ a → (a * 2 ^ k + r) - (b * 2 ^ k + s) ≡ (a - b) * 2 ^ k + (r - s)
sub_block k a b r s sr ba =
    let d : a ≡ b + (a - b) = omega arith in
    let e : r ≡ s + (r - s) = omega arith in
    let P : ℕ → Type 0 = λ z. (z * 2 ^ k + r) - (b * 2 ^ k + s) ≡ (a - b) * 2 ^ k + (r - s) in
    subst P (sym d) (omega arith)

pub le_block : (k a b r s : ℕ) → s ≤ r → b ≤ a → b * 2 ^ k + s ≤ a * 2 ^ k + r
le_block k a b r s sr ba = grind arith

-- what a block of a larger number needs
pub record IsTestable (x l h g : ℕ) : Type 0 where
  pub above : x ≤ bit_or h g
  pub below : l ≤ bit_or x g

pub testable_block : (k X L H G x l h g : ℕ) → x < 2 ^ k → h < 2 ^ k → g < 2 ^ k → IsTestable X L H G → IsTestable x l h g → IsTestable (X * 2 ^ k + x) (L * 2 ^ k + l) (H * 2 ^ k + h) (G * 2 ^ k + g)
testable_block k X L H G x l h g xk hk gk big small = record {
  above = rw (or_block k H G h g hk gk) (le_block k (bit_or H G) X (bit_or h g) x small.above big.above);
  below = rw (or_block k X G x g xk gk) (le_block k (bit_or X G) L (bit_or x g) l small.below big.below);
}

pub tested_block : (k X L H G x l h g : ℕ) → x < 2 ^ k → h < 2 ^ k → g < 2 ^ k → IsTestable X L H G → IsTestable x l h g → tested (X * 2 ^ k + x) (L * 2 ^ k + l) (H * 2 ^ k + h) (G * 2 ^ k + g) ≡ tested X L H G * 2 ^ k + tested x l h g
tested_block k X L H G x l h g xk hk gk big small =
    let up : bit_or h g < 2 ^ k = or_lt k h g hk gk in
    let dn : bit_or x g < 2 ^ k = or_lt k x g xk gk in
    let u : bit_or h g - x < 2 ^ k = omega arith in
    let d : bit_or x g - l < 2 ^ k = omega arith in
    let ud : bit_and (bit_or h g - x) (bit_or x g - l) < 2 ^ k = omega (arith, Rattle.std.proofs.lemmas.Nat.and_le_l (bit_or h g - x) (bit_or x g - l)) in
    rw (
      or_block k H G h g hk gk,
      or_block k X G x g xk gk,
      sub_block k (bit_or H G) X (bit_or h g) x small.above big.above,
      sub_block k (bit_or X G) L (bit_or x g) l small.below big.below,
      and_block k (bit_or H G - X) (bit_or X G - L) (bit_or h g - x) (bit_or x g - l) u d,
      and_block k (bit_and (bit_or H G - X) (bit_or X G - L)) G (bit_and (bit_or h g - x) (bit_or x g - l)) g ud gk,
    )
    refl
