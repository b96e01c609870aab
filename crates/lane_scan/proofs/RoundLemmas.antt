-- Rows that lie outside every round, and the lanes that hold them.
use Rattle.std.proofs.Common.{ℕ, zero, suc, ◌+◌, ◌-◌, ◌*◌, ◌/◌, ◌%◌, ◌^◌, ◌==◌, ◌≡◌, ◌≤◌, ◌<◌, refl, sym, ◌∙◌, ap, arith, min, Bool, true, false, not, ◌&&◌, ◌||◌, cond, List, [], ◌∷◌, ◌++◌, length, map, replicate, get_or, All, flat_map, length-append, bit_and}
use Rattle.std.specs.List.{list_any, list_all, zip}
use Rattle.std.specs.Simd.Lanes.{zip2, Each1, mask_l}
use Rattle.std.proofs.Math.Bool.{not-not}
use Rattle.std.proofs.lemmas.Nat.{and_mask}
use Rattle.std.proofs.lemmas.List.{length-map, length-replicate, get_or-replicate, get_or-map, map-append}
use Rattle.std.proofs.lemmas.Simd.{length-zip2, zip2_of_maps, map-map}
use Rattle.std.proofs.lemmas.Slice.Zip.{length-zip}
use Rattle.blink_lists.specs.Lists.{all_true}
use Rattle.masked_compare.specs.Fields.{lane_bits, lane_count}
use Rattle.masked_compare.specs.Words.{lanes_in, rows_in}
use Rattle.masked_compare.specs.Marks.{inside_row, inside_rows, inside_of, lacks, tops_where}
use Rattle.masked_compare.specs.Rounds.{IsRound, outside_of, outside_rounds}
use Rattle.masked_compare.specs.declared.round.Round.{Round}
use Rattle.lane_scan.specs.Scan.{HasOneRow, IsSpreadRound, first_row, lies_in, lies_in_one, row_lies}
use Rattle.lane_scan.specs.Tops.{tops_in}
use Rattle.lane_scan.proofs.DigitLemmas.{tops_back_all, tops_stacked_lt, top_at}
use Rattle.lane_scan.proofs.LaneLemmas.{is_lane, lane_fact, IsLaneFact, words_room}

length_lanes : (t n x : ℕ) → length (lanes_in t n x) ≡ n
length_lanes t zero x = refl
length_lanes t (suc n) x = ap suc (length_lanes t n (x / 2 ^ t))

pub length_rows : (ws : List ℕ) (w : ℕ) → length (rows_in ws w) ≡ lane_count ws
unfolding rows_in
length_rows ws w = length-map (lanes_in (lane_bits ws) (lane_count ws) w) _ ∙ length_lanes (lane_bits ws) (lane_count ws) w

length_one : (ws : List ℕ) (w low high : ℕ) → length (outside_of ws w low high) ≡ lane_count ws
unfolding inside_of
length_one ws w low high =
    let bounds = zip (rows_in ws low) (rows_in ws high) in
    length-map (inside_of ws w low high) lacks
    ∙ length-map (zip (rows_in ws w) bounds) _
    ∙ length-zip (rows_in ws w) bounds
    ∙ omega (arith, length-zip (rows_in ws low) (rows_in ws high), length_rows ws w, length_rows ws low, length_rows ws high)

pub length_outside : (ws : List ℕ) (rs : List Round) (w : ℕ) → length (outside_rounds ws rs w) ≡ lane_count ws
length_outside ws [] w = length-replicate (lane_count ws) true
length_outside ws (r ∷ rs) w =
    let more = length_outside ws rs w in
    length-zip2 (λ x y. x && y) (outside_rounds ws rs w) (outside_of ws w r.low r.high) (more ∙ sym (length_one ws w r.low r.high)) ∙ more

-- ---- the top bits of the lanes

fits_one : (ws : List ℕ) (rs : List Round) (w : ℕ) → tops_where ws (outside_rounds ws rs w) < 2 ^ 64
unfolding tops_where
fits_one ws rs w =
    let lane = lane_fact (lane_bits ws) (lane_count ws) (is_lane ws) in
    let long : lane_bits ws * length (outside_rounds ws rs w) ≡ 64 = ap (λ n. lane_bits ws * n) (length_outside ws rs w) ∙ lane.whole in
    let lt = tops_stacked_lt (lane_bits ws) (outside_rounds ws rs w) lane.some in
    rw long at lt

fits_each : (ws : List ℕ) (rs : List Round) (xs : List ℕ) → Each1 (λ w. w < 2 ^ 64) (map (λ w. tops_where ws (outside_rounds ws rs w)) xs)
fits_each ws rs [] = tt
fits_each ws rs (x ∷ xs) = (fits_one ws rs x, fits_each ws rs xs)

pub outside_fit : (ws : List ℕ) (rs : List Round) (xs ys : List ℕ) → ys ≡ map (λ w. tops_where ws (outside_rounds ws rs w)) xs → Each1 (λ w. w < 2 ^ 64) ys
outside_fit ws rs xs ys is = rw is (fits_each ws rs xs)

tops_outside : (ws : List ℕ) (rs : List Round) (xs : List ℕ) → tops_in (lane_bits ws) (lane_count ws) (map (λ w. tops_where ws (outside_rounds ws rs w)) xs) ≡ flat_map (outside_rounds ws rs) xs
unfolding tops_where
tops_outside ws rs xs = tops_back_all (lane_bits ws) (lane_count ws) (outside_rounds ws rs) xs (lane_fact (lane_bits ws) (lane_count ws) (is_lane ws)).some (length_outside ws rs)

pub gathered : (ws : List ℕ) (rs : List Round) (xs ys : List ℕ) (bits mask : ℕ) → ys ≡ map (λ w. tops_where ws (outside_rounds ws rs w)) xs → bits ≡ lane_bits ws → mask ≡ mask_l (tops_in bits (64 / bits) ys)
    → mask ≡ mask_l (flat_map (outside_rounds ws rs) xs)
gathered ws rs xs ys bits mask is same m =
    m
    ∙ ap (λ t. mask_l (tops_in t (64 / t) ys)) same
    ∙ ap (λ n. mask_l (tops_in (lane_bits ws) n ys)) (lane_fact (lane_bits ws) (lane_count ws) (is_lane ws)).count
    ∙ ap (λ l. mask_l (tops_in (lane_bits ws) (lane_count ws) l)) is
    ∙ ap mask_l (tops_outside ws rs xs)

-- ---- the rows in the lanes

lacks_not : (ms : List Bool) → lacks ms ≡ not (all_true ms)
lacks_not [] = refl
lacks_not (true ∷ ms) = lacks_not ms
lacks_not (false ∷ ms) = refl

inside_one : (lows highs : List ℕ) (rows : List (List ℕ)) (n : ℕ) → length rows ≡ n → inside_rows (replicate n lows) (replicate n highs) rows ≡ map (inside_row lows highs) rows
inside_one lows highs [] n long = refl
inside_one lows highs (row ∷ rows) zero long = absurd (omega (arith, long))
inside_one lows highs (row ∷ rows) (suc n) long = ap (λ l. inside_row lows highs row ∷ l) (inside_one lows highs rows n (omega (arith, long)))

map_same : {A B : Type 0} (f g : A → B) (xs : List A) → ((x : A) → f x ≡ g x) → map f xs ≡ map g xs
map_same f g [] same = refl
map_same f g (x ∷ xs) same = λ i. same x i ∷ map_same f g xs same i

-- the row of every lane is the first lane's
first_is : (ws : List ℕ) (w : ℕ) (row : List ℕ) → rows_in ws w ≡ replicate (lane_count ws) row → row ≡ first_row ws w
first_is ws w row is =
    let lane = lane_fact (lane_bits ws) (lane_count ws) (is_lane ws) in
    sym (ap (λ l. get_or l 0 []) is ∙ get_or-replicate (lane_count ws) 0 row [] (omega (arith, lane.lanes)))

outside_one : (ws : List ℕ) (w : ℕ) (r : Round) → HasOneRow ws r.low → HasOneRow ws r.high → outside_of ws w r.low r.high ≡ map (λ row. not (lies_in ws row r)) (rows_in ws w)
unfolding inside_of
outside_one ws w r low high =
    let lows = low.0 in
    let highs = high.0 in
    let rows = rows_in ws w in
    ap (map lacks) (
    (λ i. inside_rows (low.1 i) (high.1 i) rows)
    ∙ inside_one lows highs rows (lane_count ws) (length_rows ws w)
    ∙ (λ i. map (inside_row (first_is ws r.low lows low.1 i) (first_is ws r.high highs high.1 i)) rows)
    )
    ∙ map-map lacks (inside_row (first_row ws r.low) (first_row ws r.high)) rows
    ∙ map_same (λ row. lacks (inside_row (first_row ws r.low) (first_row ws r.high) row)) (λ row. not (lies_in ws row r)) rows (λ row. lacks_not (inside_row (first_row ws r.low) (first_row ws r.high) row))

all_outside : (n : ℕ) (rows : List (List ℕ)) → length rows ≡ n → replicate n true ≡ map (λ _. true) rows
all_outside zero [] long = refl
all_outside zero (row ∷ rows) long = absurd (omega (arith, long))
all_outside (suc n) [] long = absurd (omega (arith, long))
all_outside (suc n) (row ∷ rows) long = ap (λ l. true ∷ l) (all_outside n rows (omega (arith, long)))

neither : (a b : Bool) → (not b && not a) ≡ not (a || b)
neither true true = refl
neither true false = refl
neither false true = refl
neither false false = refl

pub outside_all : (ws : List ℕ) (rs : List Round) (w : ℕ) → All (IsSpreadRound ws) rs → outside_rounds ws rs w ≡ map (λ row. not (lies_in_one ws rs row)) (rows_in ws w)
outside_all ws [] w each = all_outside (lane_count ws) (rows_in ws w) (length_rows ws w)
outside_all ws (r ∷ rs) w each =
    let one = each 0 r (omega arith) in
    let rest : All (IsSpreadRound ws) rs = λ k d lt. each (suc k) d (omega (arith, lt)) in
    zip2_of_maps (λ x y. x && y) (λ row. not (lies_in_one ws rs row)) (λ row. not (lies_in ws row r)) (rows_in ws w) (outside_all ws rs w rest) (outside_one ws w r one.low one.high)
    ∙ map_same (λ row. not (lies_in_one ws rs row) && not (lies_in ws row r)) (λ row. not (lies_in_one ws (r ∷ rs) row)) (rows_in ws w) (λ row. neither (lies_in ws row r) (lies_in_one ws rs row))

pub clean_rounds : (ws : List ℕ) (rs : List Round) → All (IsSpreadRound ws) rs → All (IsRound ws) rs
clean_rounds ws rs each k d lt = (each k d lt).clean

-- ---- word by word

flat_outside : (ws : List ℕ) (rs : List Round) (xs : List ℕ) → All (IsSpreadRound ws) rs → flat_map (outside_rounds ws rs) xs ≡ map (λ row. not (lies_in_one ws rs row)) (flat_map (rows_in ws) xs)
flat_outside ws rs [] each = refl
flat_outside ws rs (x ∷ xs) each =
    (λ i. outside_all ws rs x each i ++ flat_outside ws rs xs each i)
    ∙ sym (map-append (λ row. not (lies_in_one ws rs row)) (rows_in ws x) (flat_map (rows_in ws) xs))

pub length_flat : {Y : Type 0} (f : ℕ → List Y) (n : ℕ) → ((x : ℕ) → length (f x) ≡ n) → (xs : List ℕ) → length (flat_map f xs) ≡ length xs * n
length_flat f n each [] = omega arith
length_flat f n each (x ∷ xs) = omega (arith, length-append (f x) (flat_map f xs), each x, length_flat f n each xs)

pub few_outside : (ws : List ℕ) (rs : List Round) (xs : List ℕ) → length xs ≤ lane_bits ws → length (flat_map (outside_rounds ws rs) xs) ≤ 64
few_outside ws rs xs few =
    omega (arith, length_flat (outside_rounds ws rs) (lane_count ws) (length_outside ws rs) xs, words_room (lane_bits ws) (lane_count ws) (is_lane ws) (length xs) few)

-- what isn't outside every round lies in one
pub outside_lies : (ws : List ℕ) (rs : List Round) (xs : List ℕ) (j : ℕ) → All (IsSpreadRound ws) rs → j < length xs * lane_count ws → not (get_or (flat_map (outside_rounds ws rs) xs) j false) ≡ row_lies ws rs xs j
unfolding row_lies
outside_lies ws rs xs j each lt =
    let rows = flat_map (rows_in ws) xs in
    let here : j < length rows = omega (arith, lt, length_flat (rows_in ws) (lane_count ws) (length_rows ws) xs) in
    ap not (ap (λ l. get_or l j false) (flat_outside ws rs xs each) ∙ get_or-map (λ row. not (lies_in_one ws rs row)) rows j [] false here)
    ∙ not-not (lies_in_one ws rs (get_or rows j []))

unset : (b : Bool) → (cond (not b) 1 0 == 0) ≡ b
unset true = refl
unset false = refl

-- the top bit of one lane tells of its row
pub lane_lies : (ws : List ℕ) (rs : List Round) (w lane word bits : ℕ) → All (IsSpreadRound ws) rs → lane < lane_count ws → word ≡ tops_where ws (outside_rounds ws rs w) → bits ≡ lane_bits ws
    → (bit_and (word / 2 ^ (bits * lane + (bits - 1))) 1 == 0) ≡ lies_in_one ws rs (get_or (rows_in ws w) lane [])
unfolding tops_where
lane_lies ws rs w lane word bits each lt is same =
    let t = lane_bits ws in
    let rows = rows_in ws w in
    let here : lane < length rows = omega (arith, lt, length_rows ws w) in
    ap (λ b. bit_and (word / 2 ^ (b * lane + (b - 1))) 1 == 0) same
    ∙ ap (λ v. bit_and (v / 2 ^ (t * lane + (t - 1))) 1 == 0) is
    ∙ ap (λ v. v == 0) (and_mask (tops_where ws (outside_rounds ws rs w) / 2 ^ (t * lane + (t - 1))) 1)
    ∙ ap (λ v. v == 0) (top_at t (outside_rounds ws rs w) lane (lane_fact t (lane_count ws) (is_lane ws)).some)
    ∙ ap (λ b. cond b 1 0 == 0) (ap (λ l. get_or l lane false) (outside_all ws rs w each) ∙ get_or-map (λ row. not (lies_in_one ws rs row)) rows lane [] false here)
    ∙ unset (lies_in_one ws rs (get_or rows lane []))
