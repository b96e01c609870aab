-- The widths of the classes of a cell.
use Rattle.std.proofs.Common.{◌≡◌, ◌≤◌, ◌<◌, ℕ, zero, suc, ◌+◌, ◌^◌, ◌&&◌, Bool, true, false, List, [], ◌∷◌, ◌++◌, take, length, get_or, nat_le, refl, sym, ap, ◌∙◌, arith}
use Rattle.std.specs.List.{list_all}
use Rattle.std.proofs.lemmas.Bool.{and_from, le-leb}
use Rattle.std.proofs.lemmas.List.{take_more, take_all}
use Rattle.std.proofs.lemmas.List.Folds.{list_all-append}
use Rattle.blink_lists.specs.Widths.{width_for, least_width_from}
use Rattle.masked_compare.specs.Fields.{is_width}
use Rattle.order_codes.specs.Dictionary.{Classes, class_width}
use Rattle.cell_layout.specs.Blocks.{cell_widths}

least-from : (w n more : ℕ) → w ≤ least_width_from w n more
least-from w n zero = omega arith
least-from w n (suc more) = by (nat_le n (2 ^ w)) refl (least-from (w + 1) n more)
  where
    by : (b : Bool) → nat_le n (2 ^ w) ≡ b → w + 1 ≤ least_width_from (w + 1) n more → w ≤ least_width_from w n (suc more)
    by true e rest = rw (least_width_from, e) (omega arith)
    by false e rest = rw (least_width_from, e) (omega arith)

some : (n : ℕ) → 1 ≤ width_for n
unfolding width_for
some n = least-from 1 n 23

widths-at : (columns : List Classes) (classes : List ℕ) (k : ℕ) (values : Classes) → length classes ≡ length columns → k < length columns → get_or (cell_widths columns classes) k 0 ≡ class_width (get_or columns k values) (get_or classes k 0)
widths-at [] classes k values e lt = absurd (omega arith)
widths-at (c ∷ columns) [] k values e lt = absurd (omega arith)
widths-at (c ∷ columns) (n ∷ classes) zero values e lt = refl
widths-at (c ∷ columns) (n ∷ classes) (suc k) values e lt = widths-at columns classes k values (omega arith) (omega arith)

pub length-widths : (columns : List Classes) (classes : List ℕ) → length classes ≡ length columns → length (cell_widths columns classes) ≡ length columns
length-widths [] classes e = refl
length-widths (c ∷ columns) [] e = absurd (omega arith)
length-widths (c ∷ columns) (n ∷ classes) e = let rest = length-widths columns classes (omega arith) in omega arith

-- one more width, as calls say it
pub widths_more : (columns : List Classes) (classes : List ℕ) (k : ℕ) (values : Classes) (width : ℕ) (so_far more : List ℕ) → length classes ≡ length columns → k < length columns → values ≡ get_or columns k values
    → width ≡ class_width values (get_or classes k 0) → so_far ≡ take k (cell_widths columns classes) → more ≡ so_far ++ width ∷ [] → more ≡ take (k + 1) (cell_widths columns classes)
widths_more columns classes k values width so_far more e lt is least front pushed =
    let here : width ≡ get_or (cell_widths columns classes) k 0 = least ∙ ap (λ c. class_width c (get_or classes k 0)) is ∙ sym (widths-at columns classes k values e lt) in
    pushed ∙ (λ i. front i ++ here i ∷ []) ∙ sym (take_more (cell_widths columns classes) k 0 (rw (length-widths columns classes e) lt))

pub narrow_more : (values : Classes) (class width : ℕ) (so_far more : List ℕ) → width ≡ class_width values class → width ≤ 23 → list_all is_width so_far ≡ true → more ≡ so_far ++ width ∷ [] → list_all is_width more ≡ true
narrow_more values class width so_far more least narrow front pushed =
    let low : 1 ≤ width = rw least (some _) in
    let here = and_from (nat_le 1 width) (nat_le width 23) (le-leb 1 width low) (le-leb width 23 narrow) in
    ap (list_all is_width) pushed ∙ list_all-append is_width so_far (width ∷ []) ∙ and_from (list_all is_width so_far) (is_width width && true) front (and_from (is_width width) true here refl)

pub widths_all : (columns : List Classes) (classes : List ℕ) (k : ℕ) (widths : List ℕ) → length classes ≡ length columns → length columns ≤ k → widths ≡ take k (cell_widths columns classes) → widths ≡ cell_widths columns classes
widths_all columns classes k widths e le so_far = so_far ∙ take_all k (cell_widths columns classes) (rw (length-widths columns classes e) le)
