-- What is kept of the widths of a shape.
use Rattle.std.proofs.Common.{ℕ, ◌≡◌, ◌≤◌, ◌+◌, ◌*◌, ◌-◌, ◌&&◌, nat_le, nat_lt, List, ◌++◌, length, take, drop, replicate, IsTrue, true, [], ◌∷◌, ap, ◌∙◌, arith}
use Rattle.std.proofs.lemmas.List.{drop-replicate, length-replicate, length-append, length-take-le}
use Rattle.std.proofs.Math.Seq.{take-append_seam, drop-append_seam}
use Rattle.std.proofs.lemmas.Bool.{and_parts, leb-true}
use Rattle.std.proofs.lemmas.List.Sums.{sum_by-cons}
use Rattle.std.specs.List.{list_all}
use Rattle.masked_compare.specs.Fields.{is_shape, is_width, field_bits, fields_bits, lane_bits}
use Rattle.masked_compare.specs.Marks.{guards_of, tops_of}
use Rattle.masked_compare.specs.ShapeRepr.{IsGood, widths_of}
use Rattle.masked_compare.specs.declared.shape.Shape.TheInside.{Inside}

-- a shape's fields have at most 32 bits
pub fits_lane : (ws : List ℕ) → IsTrue (is_shape ws) → fields_bits ws ≤ 32
fits_lane ws shape = leb-true (fields_bits ws) 32 (and_parts (nat_lt 0 (length ws) && list_all is_width ws) (nat_le (fields_bits ws) 32) shape).1

-- each field has two bits at least
two_bits_each : (ws : List ℕ) → list_all is_width ws ≡ true → 2 * length ws ≤ fields_bits ws
two_bits_each [] each = omega arith
two_bits_each (w ∷ ws) each =
    let parts = and_parts (is_width w) (list_all is_width ws) each in
    let one : 1 ≤ w = leb-true 1 w (and_parts (nat_le 1 w) (nat_le w 23) parts.0).0 in
    let rest = two_bits_each ws parts.1 in
    rw (sum_by-cons field_bits w ws) (omega arith)

-- so a shape has at most sixteen
pub few_fields : (ws : List ℕ) → IsTrue (is_shape ws) → length ws ≤ 16
few_fields ws shape =
    let fits = fits_lane ws shape in
    let each = two_bits_each ws (and_parts (nat_lt 0 (length ws)) (list_all is_width ws) (and_parts (nat_lt 0 (length ws) && list_all is_width ws) (nat_le (fields_bits ws) 32) shape).0).1 in
    omega arith

pub kept_good : (ws : List ℕ) (n g t : ℕ) → IsTrue (is_shape ws) → n ≡ lane_bits ws → g ≡ guards_of ws → t ≡ tops_of ws
    → IsGood (record { widths = ws ++ drop (length ws) (replicate 16 0); count = length ws; bits = n; guards = g; tops = t })
kept_good ws n g t shape bits guards tops =
    let few = few_fields ws shape in
    let behind = drop (length ws) (replicate 16 0) in
    let front : take (length ws) (ws ++ behind) ≡ ws = take-append_seam ws behind in
    let zeros : behind ≡ replicate (16 - length ws) 0 = drop-replicate (length ws) 16 0 in
    let all : length ws + (16 - length ws) ≡ 16 = omega (arith, few) in
    record {
      few = few;
      room = length-append ws behind ∙ ap (λ l. length ws + length l) zeros ∙ ap (λ m. length ws + m) (length-replicate (16 - length ws) 0) ∙ all;
      shape = rw front shape;
      rest = drop-append_seam ws behind ∙ zeros;
      bits = rw front bits;
      guards = rw front guards;
      tops = rw front tops;
    }

-- a shape of sixteen fields takes no more
pub full_shape : (a : Inside) (ws : List ℕ) (w : ℕ) → IsGood a → widths_of a ≡ ws → 16 ≤ a.count → ¬ (IsTrue (is_shape (ws ++ w ∷ [])))
full_shape a ws w good view full shape =
    let few = few_fields (ws ++ w ∷ []) shape in
    let more : length (ws ++ w ∷ []) ≡ length ws + 1 = length-append ws (w ∷ []) in
    let kept : length (take a.count a.widths) ≡ a.count = length-take-le a.count a.widths (omega (arith, good.few, good.room)) in
    let same : length (take a.count a.widths) ≡ length ws = ap length view in
    omega (arith, few, more, kept, same, full)
