-- The bits of fields and of lanes.
use Rattle.std.proofs.Common.{ℕ, ◌+◌, ◌*◌, ◌/◌, ◌^◌, ◌≡◌, ◌≤◌, ◌<◌, ◌⊎◌, inl, inr, refl, sym, ◌∙◌, ap, subst, arith, IsTrue, List, ◌∷◌}
use Rattle.std.proofs.lemmas.Bool.Decides.{leb_tells}
use Rattle.std.proofs.lemmas.Nat.{pow-add}
use Rattle.std.proofs.lemmas.List.Sums.{sum_by-cons}
use Rattle.masked_compare.specs.Fields.{is_shape, field_bits, fields_bits, lane_bits, lane_count}
use Rattle.masked_compare.proofs.ShapeLemmas.{fits_lane}

pub fields_more : (w : ℕ) (ws : List ℕ) → fields_bits (w ∷ ws) ≡ (w + 1) + fields_bits ws
fields_more w ws = sum_by-cons field_bits w ws

pub power_more : (w : ℕ) (ws : List ℕ) → 2 ^ fields_bits (w ∷ ws) ≡ 2 ^ (w + 1) * 2 ^ fields_bits ws
power_more w ws = ap (λ n. 2 ^ n) (fields_more w ws) ∙ pow-add 2 (w + 1) (fields_bits ws)

-- lanes of so many bits hold these fields and fill a word
pub record IsLane (ws : List ℕ) (bits : ℕ) : Type 0 where
  pub is : lane_bits ws ≡ bits
  pub fits : fields_bits ws ≤ bits

lane_widths : (ws : List ℕ) → fields_bits ws ≤ 32 → IsLane ws 8 ⊎ (IsLane ws 16 ⊎ IsLane ws 32)
lane_widths ws h = elim (leb_tells (fields_bits ws) 8) [
  | inl p ↦ inl (record { is = rw (p.0) refl; fits = p.1 })
  | inr p ↦ elim (leb_tells (fields_bits ws) 16) [
    | inl q ↦ inr (inl (record { is = rw (p.0, q.0) refl; fits = q.1 }))
    | inr q ↦ inr (inr (record { is = rw (p.0, q.0) refl; fits = h }))
  ]
]

-- what holds of a lane's bits where it holds of 8, 16 and 32
pub each_lane : (P : ℕ → Type 0) (ws : List ℕ) → IsTrue (is_shape ws) → (fields_bits ws ≤ 8 → P 8) → (fields_bits ws ≤ 16 → P 16) → (fields_bits ws ≤ 32 → P 32) → P (lane_bits ws)
each_lane P ws shape a b c = elim (lane_widths ws (fits_lane ws shape)) [
  | inl l ↦ subst P (sym l.is) (a l.fits)
  | inr (inl l) ↦ subst P (sym l.is) (b l.fits)
  | inr (inr l) ↦ subst P (sym l.is) (c l.fits)
]

pub lane_fits : (ws : List ℕ) → IsTrue (is_shape ws) → fields_bits ws ≤ lane_bits ws
lane_fits ws shape = each_lane (λ t. fields_bits ws ≤ t) ws shape (λ h. h) (λ h. h) (λ h. h)

pub lanes_fill : (ws : List ℕ) → IsTrue (is_shape ws) → lane_bits ws * lane_count ws ≡ 64
lanes_fill ws shape = each_lane (λ t. t * (64 / t) ≡ 64) ws shape (λ h. refl) (λ h. refl) (λ h. refl)

pub lane_some : (ws : List ℕ) → IsTrue (is_shape ws) → 0 < lane_bits ws
lane_some ws shape = each_lane (λ t. 0 < t) ws shape (λ h. omega arith) (λ h. omega arith) (λ h. omega arith)

pub count_some : (ws : List ℕ) → IsTrue (is_shape ws) → 0 < lane_count ws
count_some ws shape = each_lane (λ t. 0 < 64 / t) ws shape (λ h. omega arith) (λ h. omega arith) (λ h. omega arith)

pub lane_is : (ws : List ℕ) → IsTrue (is_shape ws) → (lane_bits ws ≡ 8) ⊎ ((lane_bits ws ≡ 16) ⊎ (lane_bits ws ≡ 32))
lane_is ws shape = each_lane (λ t. (t ≡ 8) ⊎ ((t ≡ 16) ⊎ (t ≡ 32))) ws shape (λ h. inl refl) (λ h. inr (inl refl)) (λ h. inr (inr refl))
