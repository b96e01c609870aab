-- The rows of a page that truth values select, one after another.
use Rattle.std.proofs.Common.{◌≡◌, ◌<◌, ◌≤◌, ◌+◌, ◌*◌, ℕ, zero, suc, Bool, true, false, List, [], ◌∷◌, length, drop, count_by, cond, slice_index_or, refl, sym, ap, ◌∙◌, arith, true≢false}
use Rattle.std.specs.List.{list_any}
use Rattle.std.proofs.lemmas.List.{get_or-take, get_or-drop, length-drop, length-take}
use Rattle.std.proofs.lemmas.List.Sums.{sum_by-cons}
use Rattle.blink_lists.specs.declared.limits.TheConstants.{PAGE_ROWS}
use Rattle.blink_lists.proofs.GroupLemmas.{neither, not_true}
use Rattle.cell_scan.specs.Match.{rows_of_page, selected_rows}
use Rattle.code_group.specs.Plans.{none_behind}

abbrev Rows : Type 0
Rows = List (List ℕ)

abbrev pub ones : List Bool → ℕ
ones bits = count_by (λ b. b) bits

-- ---- a row of the page

selected-first : (b : Bool) (bits : List Bool) (row : List ℕ) (page : Rows) → b ≡ true → selected_rows (b ∷ bits) (row ∷ page) ≡ row ∷ selected_rows bits page
selected-first b bits row page e = rw e refl

selected-later : (b : Bool) (bits : List Bool) (row : List ℕ) (page : Rows) → b ≡ false → selected_rows (b ∷ bits) (row ∷ page) ≡ selected_rows bits page
selected-later b bits row page e = rw e refl

ones-first : (b : Bool) (bits : List Bool) → b ≡ true → ones (b ∷ bits) ≡ suc (ones bits)
ones-first b bits e = let split = sum_by-cons (λ (c : Bool). cond {A = ℕ} c 1 0) b bits in let one = ap (λ (c : Bool). cond {A = ℕ} c 1 0) e in omega (arith, split, one)

ones-later : (b : Bool) (bits : List Bool) → b ≡ false → ones (b ∷ bits) ≡ ones bits
ones-later b bits e = let split = sum_by-cons (λ (c : Bool). cond {A = ℕ} c 1 0) b bits in let none = ap (λ (c : Bool). cond {A = ℕ} c 1 0) e in omega (arith, split, none)

-- the first truth value that is true selects its row, and leaves those behind it
pub selected-next : (from at : ℕ) (bits : List Bool) (page : Rows) → from ≤ at → at < length page → ((k : ℕ) → from ≤ k → k < at → slice_index_or bits k false ≡ false) → slice_index_or bits at false ≡ true
    → (selected_rows (drop from bits) (drop from page) ≡ slice_index_or page at [] ∷ selected_rows (drop (suc at) bits) (drop (suc at) page)) × (ones (drop from bits) ≡ suc (ones (drop (suc at) bits)))
selected-next from at [] page le lt least here = absurd (true≢false (sym here))
selected-next from at (b ∷ bits) [] le lt least here = absurd (omega (arith, lt))
selected-next zero zero (b ∷ bits) (row ∷ page) le lt least here = (selected-first b bits row page here, ones-first b bits here)
selected-next zero (suc at) (b ∷ bits) (row ∷ page) le lt least here =
    let none : b ≡ false = least 0 (omega arith) (omega arith) in
    let rest = selected-next 0 at bits page (omega arith) (omega (arith, lt)) (λ k l m. least (suc k) (omega arith) (omega (arith, m))) here in
    (selected-later b bits row page none ∙ rest.0, ones-later b bits none ∙ rest.1)
selected-next (suc from) zero (b ∷ bits) (row ∷ page) le lt least here = absurd (omega (arith, le))
selected-next (suc from) (suc at) (b ∷ bits) (row ∷ page) le lt least here =
    selected-next from at bits page (omega (arith, le)) (omega (arith, lt)) (λ k l m. least (suc k) (omega (arith, l)) (omega (arith, m))) here

-- no truth value that is true selects no row
pub selected-none : (from : ℕ) (bits : List Bool) (page : Rows) → ((k : ℕ) → from ≤ k → slice_index_or bits k false ≡ false) → selected_rows (drop from bits) (drop from page) ≡ []
selected-none from [] page none = by from
  where
    by : (from : ℕ) → selected_rows (drop from []) (drop from page) ≡ []
    by zero = refl
    by (suc from) = refl
selected-none zero (b ∷ bits) [] none = refl
selected-none (suc from) (b ∷ bits) [] none = by (drop from bits)
  where
    by : (bs : List Bool) → selected_rows bs [] ≡ []
    by [] = refl
    by (c ∷ cs) = refl
selected-none zero (b ∷ bits) (row ∷ page) none =
    selected-later b bits row page (none 0 (omega arith)) ∙ selected-none 0 bits page (λ k l. none (suc k) (omega arith))
selected-none (suc from) (b ∷ bits) (row ∷ page) none = selected-none from bits page (λ k l. none (suc k) (omega (arith, l)))

-- ---- no truth value behind the page

none-true : (bits : List Bool) (k : ℕ) → list_any (λ b. b) bits ≡ false → slice_index_or bits k false ≡ false
none-true [] k h = refl
none-true (b ∷ bits) zero h = (neither b (list_any (λ c. c) bits) h).0
none-true (b ∷ bits) (suc k) h = none-true bits k (neither b (list_any (λ c. c) bits) h).1

pub selected-within : (rows : ℕ) (bits : List Bool) (at : ℕ) → none_behind bits rows ≡ true → slice_index_or bits at false ≡ true → at < rows
selected-within zero bits at h e = absurd (true≢false (sym e ∙ none-true bits at (not_true (list_any (λ b. b) bits) h)))
selected-within (suc rows) [] at h e = absurd (true≢false (sym e))
selected-within (suc rows) (b ∷ bits) zero h e = omega arith
selected-within (suc rows) (b ∷ bits) (suc at) h e = let rest = selected-within rows bits at h e in omega (arith, rest)

-- as many rows are selected as truth values are true
pub selected-many : (bits : List Bool) (page : Rows) → none_behind bits (length page) ≡ true → length (selected_rows bits page) ≡ ones bits
selected-many [] page h = refl
selected-many (b ∷ bits) [] h = sym (none-ones (b ∷ bits) (not_true (list_any (λ c. c) (b ∷ bits)) h))
  where
    none-ones : (bs : List Bool) → list_any (λ c. c) bs ≡ false → ones bs ≡ 0
    none-ones [] h = refl
    none-ones (c ∷ cs) h = let n = neither c (list_any (λ d. d) cs) h in ones-later c cs n.0 ∙ none-ones cs n.1
selected-many (b ∷ bits) (row ∷ page) h = by b refl (selected-many bits page h)
  where
    by : (c : Bool) → b ≡ c → length (selected_rows bits page) ≡ ones bits → length (selected_rows (b ∷ bits) (row ∷ page)) ≡ ones (b ∷ bits)
    by true e rest = ap (λ l. length l) (selected-first b bits row page e) ∙ ap suc rest ∙ sym (ones-first b bits e)
    by false e rest = ap (λ l. length l) (selected-later b bits row page e) ∙ rest ∙ sym (ones-later b bits e)

-- ---- a row of a page is a row of its cell

pub page-row : (rows : Rows) (page at : ℕ) → at < length (rows_of_page rows page) → (slice_index_or (rows_of_page rows page) at [] ≡ slice_index_or rows (page * PAGE_ROWS + at) []) × (page * PAGE_ROWS + at < length rows)
page-row rows page at lt =
    let behind = drop (page * PAGE_ROWS) rows in
    let size = length-take PAGE_ROWS behind in
    let left = length-drop (page * PAGE_ROWS) rows in
    (get_or-take PAGE_ROWS behind at [] (omega (arith, lt, size)) ∙ get_or-drop (page * PAGE_ROWS) rows at [], omega (arith, lt, size, left))
