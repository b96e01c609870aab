-- Columns and widths side by side, and room for one more.
use Rattle.std.proofs.Common.{◌≡◌, ℕ, ◌+◌, Bool, true, false, ◌&&◌, nat_le, nat_lt, List, [], ◌∷◌, ◌++◌, length, refl, sym, ap, ◌∙◌, IsTrue, arith}
use Rattle.std.specs.List.{list_all}
use Rattle.std.proofs.lemmas.Bool.{and_parts, le-leb}
use Rattle.std.proofs.lemmas.List.{length-append}
use Rattle.std.proofs.lemmas.List.Sums.{sum_by-cons, sum_by-append}
use Rattle.masked_compare.specs.Fields.{is_shape, is_width, field_bits, fields_bits}
use Rattle.bank_pack.specs.Banks.{widths_of, columns_of, has_room}
use Rattle.bank_pack.specs.PlanRepr.{bank_made}

pub widths_made : (cs ws : List ℕ) → length cs ≡ length ws → widths_of (bank_made cs ws) ≡ ws
widths_made [] [] e = refl
widths_made [] (w ∷ ws) e = absurd (omega (arith, e))
widths_made (c ∷ cs) [] e = absurd (omega (arith, e))
widths_made (c ∷ cs) (w ∷ ws) e = ap (λ l. w ∷ l) (widths_made cs ws (omega (arith, e)))

pub columns_made : (cs ws : List ℕ) → length cs ≡ length ws → columns_of (bank_made cs ws) ≡ cs
columns_made [] [] e = refl
columns_made [] (w ∷ ws) e = absurd (omega (arith, e))
columns_made (c ∷ cs) [] e = absurd (omega (arith, e))
columns_made (c ∷ cs) (w ∷ ws) e = ap (λ l. c ∷ l) (columns_made cs ws (omega (arith, e)))

pub made_push : (cs ws : List ℕ) (c w : ℕ) → length cs ≡ length ws → bank_made (cs ++ c ∷ []) (ws ++ w ∷ []) ≡ bank_made cs ws ++ record { column = c; width = w } ∷ []
made_push [] [] c w e = refl
made_push [] (v ∷ ws) c w e = absurd (omega (arith, e))
made_push (b ∷ cs) [] c w e = absurd (omega (arith, e))
made_push (b ∷ cs) (v ∷ ws) c w e = ap (λ l. record { column = b; width = v } ∷ l) (made_push cs ws c w (omega (arith, e)))

all_widths-push : (ws : List ℕ) (w : ℕ) → list_all is_width ws ≡ true → is_width w ≡ true → list_all is_width (ws ++ w ∷ []) ≡ true
all_widths-push [] w all one = rw one refl
all_widths-push (v ∷ ws) w all one =
    let parts = and_parts (is_width v) (list_all is_width ws) all in
    rw (parts.0, all_widths-push ws w parts.1 one) refl

-- a shape has one more field exactly where there is room
pub shape_with : (ws : List ℕ) (w : ℕ) → IsTrue (is_shape ws) → is_width w ≡ true → is_shape (ws ++ w ∷ []) ≡ nat_le (fields_bits ws + field_bits w) 32
shape_with ws w shape one =
    let all = (and_parts (nat_lt 0 (length ws)) (list_all is_width ws) (and_parts (nat_lt 0 (length ws) && list_all is_width ws) (nat_le (fields_bits ws) 32) shape).0).1 in
    let split = sum_by-append field_bits ws (w ∷ []) in
    let last = sum_by-cons field_bits w [] in
    let bits : fields_bits (ws ++ w ∷ []) ≡ fields_bits ws + field_bits w = omega arith in
    let longer : length (ws ++ w ∷ []) ≡ length ws + 1 = length-append ws (w ∷ []) in
    let long : nat_lt 0 (length (ws ++ w ∷ [])) ≡ true = rw longer (le-leb 1 (length ws + 1) (omega arith)) in
    rw (all_widths-push ws w all one, bits, long) refl

-- the same of a bank's columns
pub room_made : (cs ws : List ℕ) (c w : ℕ) → length cs ≡ length ws → IsTrue (is_shape ws) → is_width w ≡ true → is_shape (ws ++ w ∷ []) ≡ has_room (bank_made cs ws) (record { column = c; width = w })
room_made cs ws c w e shape one = shape_with ws w shape one ∙ ap (λ vs. nat_le (fields_bits vs + field_bits w) 32) (sym (widths_made cs ws e))

-- two tests that imply each other give one answer
pub same_answer : (a b : Bool) → (a ≡ true → b ≡ true) × (b ≡ true → a ≡ true) → a ≡ b
same_answer true b e = sym (e.0 refl)
same_answer false true e = e.1 refl
same_answer false false e = refl
