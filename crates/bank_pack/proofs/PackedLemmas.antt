-- Rows packed into words: one row more, words behind the rows, and the rows read back.
use Rattle.std.proofs.Common.{ℕ, ◌+◌, ◌-◌, ◌*◌, ◌/◌, ◌%◌, ◌^◌, ◌≡◌, ◌≤◌, ◌<◌, refl, sym, ◌∙◌, ap, arith, zero, suc, min, IsTrue, List, [], ◌∷◌, ◌++◌, length, map, take, drop, get_or, replicate, length-append, length-drop, length-take, bit_or}
use Rattle.std.proofs.Math.ListN.{set}
use Rattle.std.proofs.Math.Nat.{mul-zero}
use Rattle.std.proofs.lemmas.List.{take_all, drop_all, take-append-le, drop-append-le, drop-drop, nil_from_length, get_or-take, get_or-drop, get_or_append_left}
use Rattle.masked_compare.specs.Fields.{is_shape, lane_bits, lane_count}
use Rattle.masked_compare.specs.Words.{lane_of, word_of, rows_in, IsRow, IsClean}
use Rattle.masked_compare.proofs.WordLemmas.{AreRows as WordRows, word_push, rows_back}
use Rattle.bank_pack.specs.BankRepr.{packed, AreRows, AreClean}

-- rows of some widths, as the lemmas on words say it
rows_same : (ws : List ℕ) (rows : List (List ℕ)) → AreRows ws rows → WordRows ws rows
rows_same ws [] coded = tt
rows_same ws (r ∷ rs) coded = (coded.0, rows_same ws rs coded.1)

pub rows-drop : (ws : List ℕ) (n : ℕ) (rows : List (List ℕ)) → AreRows ws rows → AreRows ws (drop n rows)
rows-drop ws zero rows coded = coded
rows-drop ws (suc n) [] coded = tt
rows-drop ws (suc n) (r ∷ rs) coded = rows-drop ws n rs coded.1

pub rows-push : (ws : List ℕ) (rows : List (List ℕ)) (r : List ℕ) → AreRows ws rows → IsRow ws r → AreRows ws (rows ++ r ∷ [])
rows-push ws [] r coded row = (row, tt)
rows-push ws (x ∷ xs) r coded row = (coded.0, rows-push ws xs r coded.1 row)

-- the words with the bits of one more lane
abbrev pub with_lane : List ℕ → List ℕ → List ℕ → ℕ → ℕ → List ℕ
with_lane words ws r q m = set words q (bit_or (get_or words q 0) (lane_of ws r * 2 ^ (lane_bits ws * m)))

-- one row more sets the bits of one word
pub packed-push : (ws : List ℕ) (n k : ℕ) (rows : List (List ℕ)) (r : List ℕ) → 0 < n → IsTrue (is_shape ws) → AreRows ws rows → (q m : ℕ) → length rows ≡ n * q + m → m < n → q < k → packed ws n k (rows ++ r ∷ []) ≡ with_lane (packed ws n k rows) ws r q m
unfolding packed
packed-push ws n zero rows r some shape coded q m at low within = absurd (omega arith)
packed-push ws n (suc k) rows r some shape coded zero m at low within =
    let l : length rows ≡ m = omega arith in
    let ls : length (rows ++ r ∷ []) ≡ m + 1 = length-append rows (r ∷ []) ∙ omega arith in
    let a : take n (rows ++ r ∷ []) ≡ rows ++ r ∷ [] = take_all n (rows ++ r ∷ []) (omega arith) in
    let b : drop n (rows ++ r ∷ []) ≡ [] = drop_all n (rows ++ r ∷ []) (omega arith) in
    let c : take n rows ≡ rows = take_all n rows (omega arith) in
    let d : drop n rows ≡ [] = drop_all n rows (omega arith) in
    rw (a, b, c, d, word_push ws rows r shape (rows_same ws rows coded), l) refl
packed-push ws n (suc k) rows r some shape coded (suc q) m at low within =
    let big : n * suc q ≡ n * q + n = omega arith in
    let le : n ≤ length rows = omega arith in
    let l : length (drop n rows) ≡ n * q + m = length-drop n rows ∙ omega arith in
    rw (take-append-le n rows (r ∷ []) le, drop-append-le n rows (r ∷ []) le, packed-push ws n k (drop n rows) r some shape (rows-drop ws n rows coded) q m l low (omega arith)) refl

empty_word : (ws : List ℕ) → word_of ws [] ≡ 0
unfolding word_of
empty_word ws = refl

packed-none : (ws : List ℕ) (n k : ℕ) → packed ws n k [] ≡ replicate k 0
unfolding packed
packed-none ws n zero = refl
packed-none ws n (suc k) =
    let t : take n [] ≡ [] = take_all {A = List ℕ} n [] (omega arith) in
    let d : drop n [] ≡ [] = drop_all {X = List ℕ} n [] (omega arith) in
    rw (t, d, empty_word ws, packed-none ws n k) refl

-- words behind all rows are zero
pub packed-more : (ws : List ℕ) (n k j : ℕ) (rows : List (List ℕ)) → length rows ≤ n * k → packed ws n (k + j) rows ≡ packed ws n k rows ++ replicate j 0
unfolding packed
packed-more ws n zero j rows few =
    let none : rows ≡ [] = nil_from_length rows (omega arith) in
    let z : 0 + j ≡ j = omega arith in
    rw (none, z) (packed-none ws n j)
packed-more ws n (suc k) j rows few =
    let s : suc k + j ≡ suc (k + j) = omega arith in
    let big : n * suc k ≡ n * k + n = omega arith in
    let le : length (drop n rows) ≤ n * k = omega (arith, length-drop n rows) in
    rw (s, packed-more ws n k j (drop n rows) le) refl

-- a run of the words holds the rows from its place on
pub packed-part : (ws : List ℕ) (n i k m : ℕ) (rows : List (List ℕ)) → i + k ≤ m → take k (drop i (packed ws n m rows)) ≡ packed ws n k (drop (n * i) rows)
unfolding packed
packed-part ws n zero zero m rows within = refl
packed-part ws n zero (suc k) zero rows within = absurd (omega arith)
packed-part ws n zero (suc k) (suc m) rows within =
    let z : n * 0 ≡ 0 = mul-zero n in
    let rest = packed-part ws n zero k m (drop n rows) (omega arith) in
    rw z (ap (λ l. word_of ws (take n rows) ∷ l) (rw z at rest))
packed-part ws n (suc i) k zero rows within = absurd (omega arith)
packed-part ws n (suc i) k (suc m) rows within =
    let big : n + n * i ≡ n * suc i = omega arith in
    packed-part ws n i k m (drop n rows) (omega arith) ∙ ap (packed ws n k) (drop-drop (n * i) n rows ∙ ap (λ d. drop d rows) big)

pub length-packed : (ws : List ℕ) (n k : ℕ) (rows : List (List ℕ)) → length (packed ws n k rows) ≡ k
unfolding packed
length-packed ws n zero rows = refl
length-packed ws n (suc k) rows = ap suc (length-packed ws n k (drop n rows))

-- one of the words
pub packed-at : (ws : List ℕ) (n k q : ℕ) (rows : List (List ℕ)) → q < k → get_or (packed ws n k rows) q 0 ≡ word_of ws (take n (drop (n * q) rows))
unfolding packed
packed-at ws n zero q rows within = absurd (omega arith)
packed-at ws n (suc k) zero rows within = let z : n * 0 ≡ 0 = mul-zero n in rw z refl
packed-at ws n (suc k) (suc q) rows within =
    let big : n + n * q ≡ n * suc q = omega arith in
    packed-at ws n k q (drop n rows) (omega arith) ∙ ap (λ l. word_of ws (take n l)) (drop-drop (n * q) n rows ∙ ap (λ d. drop d rows) big)

rows-take : (ws : List ℕ) (n : ℕ) (rows : List (List ℕ)) → AreRows ws rows → AreRows ws (take n rows)
rows-take ws zero rows coded = tt
rows-take ws (suc n) [] coded = tt
rows-take ws (suc n) (r ∷ rs) coded = (coded.0, rows-take ws n rs coded.1)

-- how many lanes of a word are left over
lanes_left : (n : ℕ) (rows : List (List ℕ)) → length (take n rows) + (n - length (take n rows)) ≡ n
lanes_left n rows = omega (arith, length-take n rows)

-- words of rows have zeros in their guard bits and their padding
pub packed_clean : (ws : List ℕ) (k : ℕ) (rows : List (List ℕ)) → IsTrue (is_shape ws) → AreRows ws rows → AreClean ws (packed ws (lane_count ws) k rows)
unfolding packed
packed_clean ws zero rows shape coded = tt
packed_clean ws (suc k) rows shape coded =
    let n : ℕ = lane_count ws in
    let front = rows-take ws n rows coded in
    ((rows_back ws (take n rows) (n - length (take n rows)) shape (rows_same ws (take n rows) front) (lanes_left n rows)).0, packed_clean ws k (drop n rows) shape (rows-drop ws n rows coded))

-- the row of a lane of a word
pub row_in : (ws : List ℕ) (rows : List (List ℕ)) (q m i : ℕ) → IsTrue (is_shape ws) → AreRows ws rows → i ≡ lane_count ws * q + m → m < lane_count ws → i < length rows
    → get_or (rows_in ws (word_of ws (take (lane_count ws) (drop (lane_count ws * q) rows)))) m [] ≡ get_or rows i []
row_in ws rows q m i shape coded place low within =
    let n : ℕ = lane_count ws in
    let behind : List (List ℕ) = drop (n * q) rows in
    let front = rows-take ws n behind (rows-drop ws (n * q) rows coded) in
    let back = (rows_back ws (take n behind) (n - length (take n behind)) shape (rows_same ws (take n behind) front) (lanes_left n behind)).1 in
    let long : m < length (take n behind) = omega (arith, length-take n behind, length-drop (n * q) rows) in
    ap (λ (l : List (List ℕ)). get_or l m []) back
    ∙ (get_or_append_left (take n behind) _ [] m long
    ∙ (get_or-take n behind m [] low ∙ (get_or-drop (n * q) rows m [] ∙ ap (λ k. get_or rows k []) (sym place))))
