-- Rows of several words, and their places among the truth values of a page.
use Rattle.std.proofs.Common.{ℕ, zero, suc, ◌+◌, ◌-◌, ◌*◌, ◌/◌, ◌%◌, ◌==◌, ◌≡◌, ◌≤◌, ◌<◌, ◌⊎◌, inl, inr, refl, sym, ◌∙◌, ap, arith, min, Bool, true, false, ◌||◌, List, [], ◌∷◌, ◌++◌, length, get_or, take, drop, flat_map}
use Rattle.std.specs.Int.{bit_at}
use Rattle.std.proofs.lemmas.Bool.{cases_eq, cases_lt}
use Rattle.std.proofs.lemmas.List.{get_or_append_left, get_or-append_right, length-drop, take_all}
use Rattle.masked_compare.specs.Fields.{lane_bits, lane_count}
use Rattle.masked_compare.specs.Words.{rows_in}
use Rattle.masked_compare.specs.declared.round.Round.{Round}
use Rattle.lane_scan.specs.Scan.{lies_in_one, row_lies}
use Rattle.lane_scan.proofs.LaneLemmas.{IsLane, is_lane, IsPart, part_fact, part_rows, IsPlace, lane_place}
use Rattle.lane_scan.proofs.RoundLemmas.{length_rows}

-- ---- lists of one length, one behind the other

module _ {X Y : Type 0} (f : X → List Y) (n : ℕ) (each : (x : X) → length (f x) ≡ n) (d : Y) where
  pub flat_at : (xs : List X) (e : X) (q r i : ℕ) → i ≡ q * n + r → r < n → q < length xs → get_or (flat_map f xs) i d ≡ get_or (f (get_or xs q e)) r d
  flat_at [] e q r i is lt there = absurd (omega (arith, there))
  flat_at (x ∷ xs) e zero r i is lt there =
      let same : i ≡ r = omega (arith, is) in
      ap (λ k. get_or (f x ++ flat_map f xs) k d) same ∙ get_or_append_left (f x) (flat_map f xs) d r (omega (arith, each x, lt))
  flat_at (x ∷ xs) e (suc q) r i is lt there =
      get_or-append_right (f x) (flat_map f xs) n i d (each x) (omega (arith, is))
      ∙ flat_at xs e q r (i - n) (omega (arith, is)) lt (omega (arith, there))

  flat_drop : (m : ℕ) (xs : List X) (j i : ℕ) → i ≡ m * n + j → m ≤ length xs → get_or (flat_map f (drop m xs)) j d ≡ get_or (flat_map f xs) i d
  flat_drop zero xs j i is le = let same : j ≡ i = omega (arith, is) in ap (λ k. get_or (flat_map f xs) k d) same
  flat_drop (suc m) [] j i is le = absurd (omega (arith, le))
  flat_drop (suc m) (x ∷ xs) j i is le =
      flat_drop m xs j (i - n) (omega (arith, is)) (omega (arith, le))
      ∙ sym (get_or-append_right (f x) (flat_map f xs) n i d (each x) (omega (arith, is)))

  flat_take : (c : ℕ) (xs : List X) (j : ℕ) → j < c * n → get_or (flat_map f (take c xs)) j d ≡ get_or (flat_map f xs) j d
  flat_take zero xs j lt = absurd (omega (arith, lt))
  flat_take (suc c) [] j lt = refl
  flat_take (suc c) (x ∷ xs) j lt =
      elim (cases_lt j n) [
        | inl front ↦
            let here : j < length (f x) = omega (arith, front, each x) in
            get_or_append_left (f x) (flat_map f (take c xs)) d j here ∙ sym (get_or_append_left (f x) (flat_map f xs) d j here)
        | inr behind ↦
            get_or-append_right (f x) (flat_map f (take c xs)) n j d (each x) behind
            ∙ flat_take c xs (j - n) (omega (arith, lt, behind))
            ∙ sym (get_or-append_right (f x) (flat_map f xs) n j d (each x) behind)
      ]

  flat_part : (m c : ℕ) (xs : List X) (j i : ℕ) → i ≡ m * n + j → m ≤ length xs → j < c * n → get_or (flat_map f (take c (drop m xs))) j d ≡ get_or (flat_map f xs) i d
  flat_part m c xs j i is le lt = flat_take c (drop m xs) j lt ∙ flat_drop m xs j i is le

-- the rows of some of the words
pub lies_in_part : (ws : List ℕ) (rs : List Round) (m c : ℕ) (xs : List ℕ) (j i : ℕ) → i ≡ m * lane_count ws + j → m ≤ length xs → j < c * lane_count ws → row_lies ws rs (take c (drop m xs)) j ≡ row_lies ws rs xs i
unfolding row_lies
lies_in_part ws rs m c xs j i is le lt = ap (lies_in_one ws rs) (flat_part (rows_in ws) (lane_count ws) (length_rows ws) [] m c xs j i is le lt)

pub lies_behind : (ws : List ℕ) (rs : List Round) (m : ℕ) (xs : List ℕ) (j i : ℕ) → i ≡ m * lane_count ws + j → m ≤ length xs → row_lies ws rs (drop m xs) j ≡ row_lies ws rs xs i
unfolding row_lies
lies_behind ws rs m xs j i is le = ap (lies_in_one ws rs) (flat_drop (rows_in ws) (lane_count ws) (length_rows ws) [] m xs j i is le)

pub lies_in_front : (ws : List ℕ) (rs : List Round) (c : ℕ) (xs : List ℕ) (j : ℕ) → j < c * lane_count ws → row_lies ws rs (take c xs) j ≡ row_lies ws rs xs j
unfolding row_lies
lies_in_front ws rs c xs j lt = ap (lies_in_one ws rs) (flat_take (rows_in ws) (lane_count ws) (length_rows ws) [] c xs j lt)

-- the row in a lane of a word
pub lies_at : (ws : List ℕ) (rs : List Round) (xs : List ℕ) (e q r i : ℕ) → i ≡ q * lane_count ws + r → r < lane_count ws → q < length xs → lies_in_one ws rs (get_or (rows_in ws (get_or xs q e)) r []) ≡ row_lies ws rs xs i
unfolding row_lies
lies_at ws rs xs e q r i is lt there = ap (lies_in_one ws rs) (sym (flat_at (rows_in ws) (lane_count ws) (length_rows ws) [] xs e q r i is lt there))

pub row_here : (ws : List ℕ) (rs : List Round) (xs : List ℕ) (e lanes row : ℕ) → lanes ≡ lane_count ws → row < length xs * lane_count ws
    → lies_in_one ws rs (get_or (rows_in ws (get_or xs (row / lanes) e)) (row % lanes) []) ≡ row_lies ws rs xs row
row_here ws rs xs e lanes row same lt =
    let n = lane_count ws in
    let place = lane_place (lane_bits ws) n (is_lane ws) (length xs) row lt in
    ap (λ m. lies_in_one ws rs (get_or (rows_in ws (get_or xs (row / m) e)) (row % m) [])) same
    ∙ lies_at ws rs xs e (row / n) (row % n) row place.is place.lane place.word

-- a row of the 64 from `at * 64` on
pub part_lies : (ws : List ℕ) (rs : List Round) (xs : List ℕ) (bits to at rows i : ℕ) → bits ≡ lane_bits ws → to ≡ min (at * bits + bits) (length xs) → length xs % 4 ≡ 0 → rows ≤ length xs * lane_count ws
    → at * 64 < rows → i < min (rows - at * 64) 64 → row_lies ws rs (take (to - at * bits) (drop (at * bits) xs)) i ≡ row_lies ws rs xs (at * 64 + i)
part_lies ws rs xs bits to at rows i same end fours enough some lt =
    let n = lane_count ws in
    let lane : IsLane bits n = rw same (is_lane ws) in
    let part = part_fact bits n lane at (length xs) rows fours enough some in
    let many : i < (to - at * bits) * n = omega (arith, lt, ap (λ t. (t - at * bits) * n) end, part.enough) in
    lies_in_part ws rs (at * bits) (to - at * bits) xs i (at * 64 + i) (part_rows bits n lane at i) (omega (arith, part.within)) many

-- the rows of the words in fours, then those behind
pub lies_first : (ws : List ℕ) (rs : List Round) (xs : List ℕ) (lanes front rows i : ℕ) → lanes ≡ lane_count ws → front ≡ min (length xs / 4 * 4 * lanes) rows → i < front
    → row_lies ws rs (take (length xs / 4 * 4) xs) i ≡ row_lies ws rs xs i
lies_first ws rs xs lanes front rows i same is lt =
    lies_in_front ws rs (length xs / 4 * 4) xs i (omega (arith, lt, is, ap (λ m. length xs / 4 * 4 * m) same))

pub lies_later : (ws : List ℕ) (rs : List Round) (xs : List ℕ) (lanes front rows i : ℕ) → lanes ≡ lane_count ws → front ≡ min (length xs / 4 * 4 * lanes) rows → i < rows - front
    → row_lies ws rs (take (length xs - length xs / 4 * 4) (drop (length xs / 4 * 4) xs)) i ≡ row_lies ws rs xs (front + i)
lies_later ws rs xs lanes front rows i same is lt =
    let whole : front ≡ length xs / 4 * 4 * lane_count ws = omega (arith, lt, is, ap (λ m. length xs / 4 * 4 * m) same) in
    let fours = length xs / 4 * 4 in
    ap (λ l. row_lies ws rs l i) (take_all (length xs - fours) (drop fours xs) (omega (arith, length-drop fours xs)))
    ∙ lies_behind ws rs fours xs i (front + i) (ap (λ m. m + i) whole) (omega arith)

-- ---- the rows that have been added

-- those below `upto` are, those behind and all other places are as they were
pub record IsAdded (lies : ℕ → Bool) (old new : List Bool) (first rows upto : ℕ) : Type 0 where
  pub inside : (i : ℕ) → i < rows → i < upto → get_or new (first + i) false ≡ (get_or old (first + i) false || lies i)
  pub after : (i : ℕ) → i < rows → upto ≤ i → get_or new (first + i) false ≡ get_or old (first + i) false
  pub others : (k : ℕ) → (k < first) ⊎ (first + rows ≤ k) → get_or new k false ≡ get_or old k false

pub none_added : (lies : ℕ → Bool) (old : List Bool) (first rows upto : ℕ) → upto ≡ 0 → IsAdded lies old old first rows upto
none_added lies old first rows upto none = record {
  inside = λ i lt done. absurd (omega (arith, done, none));
  after = λ i lt le. refl;
  others = λ k out. refl;
}

apart : (first rows i k : ℕ) → i < rows → (k < first) ⊎ (first + rows ≤ k) → (k ≡ first + i → ⊥)
apart first rows i k lt (inl below) same = omega (arith, lt, below, same)
apart first rows i k lt (inr behind) same = omega (arith, lt, behind, same)

-- one row more
pub row_added : (lies : ℕ → Bool) (old mid new : List Bool) (first rows at : ℕ) (here : Bool) → IsAdded lies old mid first rows at → at < rows → here ≡ lies at
    → get_or new (first + at) false ≡ (get_or mid (first + at) false || here)
    → ((k : ℕ) → (k ≡ first + at → ⊥) → get_or new k false ≡ get_or mid k false)
    → IsAdded lies old new first rows (at + 1)
row_added lies old mid new first rows at here before there is added others = record {
  inside = λ i lt done. elim (cases_eq i at) [
    | inl same ↦
        let e : first + i ≡ first + at = omega (arith, same) in
        ap (λ k. get_or new k false) e ∙ added ∙ (λ j. before.after at there (omega arith) j || is j)
        ∙ (λ j. get_or old (sym e j) false || lies (sym same j))
    | inr ne ↦ others (first + i) (λ same. ne (omega (arith, same))) ∙ before.inside i lt (omega (arith, done, ne))
  ];
  after = λ i lt le. others (first + i) (λ same. omega (arith, same, le)) ∙ before.after i lt (omega (arith, le));
  others = λ k out. others k (apart first rows at k there out) ∙ before.others k out;
}

outside_word : (first rows at i : ℕ) → first % 64 ≡ 0 → (i < at * 64) ⊎ ((at + 1) * 64 ≤ i) → ((first + i) / 64 ≡ first / 64 + at → ⊥)
outside_word first rows at i whole (inl below) same = omega (arith, whole, below, same)
outside_word first rows at i whole (inr behind) same = omega (arith, whole, behind, same)

-- 64 rows more
module _ (lies : ℕ → Bool) (old mid new : List Bool) (first rows at truths : ℕ)
    (whole : first % 64 ≡ 0) (some : at * 64 < rows)
    (before : IsAdded lies old mid first rows (at * 64))
    (inside : (i : ℕ) → i < min (rows - at * 64) 64 → (bit_at truths i == 1) ≡ lies (at * 64 + i))
    (none : (i : ℕ) → min (rows - at * 64) 64 ≤ i → (bit_at truths i == 1) ≡ false)
    (added : (bit : ℕ) → bit < 64 → get_or new ((first / 64 + at) * 64 + bit) false ≡ (get_or mid ((first / 64 + at) * 64 + bit) false || bit_at truths bit == 1))
    (others : (k : ℕ) → (k / 64 ≡ first / 64 + at → ⊥) → get_or new k false ≡ get_or mid k false)
  where
    or_none : (b : Bool) → (b || false) ≡ b
    or_none true = refl
    or_none false = refl

    in_word : (k bit : ℕ) → k ≡ (first / 64 + at) * 64 + bit → bit < 64 → get_or new k false ≡ (get_or mid k false || bit_at truths bit == 1)
    in_word k bit is lt = ap (λ p. get_or new p false) is ∙ added bit lt ∙ ap (λ p. get_or mid p false || bit_at truths bit == 1) (sym is)

    here : (i : ℕ) → i < rows → at * 64 ≤ i → i < at * 64 + 64 → get_or new (first + i) false ≡ (get_or old (first + i) false || lies i)
    here i lt le in64 =
        let bit : ℕ = i - at * 64 in
        let back : at * 64 + bit ≡ i = omega (arith, le) in
        in_word (first + i) bit (omega (arith, whole, le)) (omega (arith, le, in64))
        ∙ (λ j. before.after i lt le j || inside bit (omega (arith, lt, le, in64)) j)
        ∙ ap (λ p. get_or old (first + i) false || lies p) back

    still : (k : ℕ) → (k < first) ⊎ (first + rows ≤ k) → get_or new k false ≡ get_or mid k false
    still k out = elim (cases_eq (k / 64) (first / 64 + at)) [
      | inl same ↦
          let bit : ℕ = k - (first / 64 + at) * 64 in
          let far : first + rows ≤ k = elim out [ inl below ↦ absurd (omega (arith, whole, same, below)) | inr le ↦ le ] in
          in_word k bit (omega (arith, same)) (omega (arith, same))
          ∙ ap (λ b. get_or mid k false || b) (none bit (omega (arith, whole, same, far, some)))
          ∙ or_none (get_or mid k false)
      | inr ne ↦ others k ne
    ]

    pub part_added : IsAdded lies old new first rows ((at + 1) * 64)
    part_added = record {
      inside = λ i lt done. elim (cases_lt i (at * 64)) [
        | inl front ↦ others (first + i) (outside_word first rows at i whole (inl front)) ∙ before.inside i lt front
        | inr behind ↦ here i lt behind (omega (arith, done))
      ];
      after = λ i lt le. others (first + i) (outside_word first rows at i whole (inr le)) ∙ before.after i lt (omega (arith, le));
      others = λ k out. still k out ∙ before.others k out;
    }

-- ---- the rows of the first words, then those of the others

pub both_added : (lies later : ℕ → Bool) (old mid new : List Bool) (first front rows : ℕ) → front ≤ rows
    → ((i : ℕ) → i < front → get_or mid (first + i) false ≡ (get_or old (first + i) false || lies i))
    → ((k : ℕ) → (k < first) ⊎ (first + front ≤ k) → get_or mid k false ≡ get_or old k false)
    → ((i : ℕ) → i < rows - front → get_or new ((first + front) + i) false ≡ (get_or mid ((first + front) + i) false || later i))
    → ((k : ℕ) → (k < first + front) ⊎ ((first + front) + (rows - front) ≤ k) → get_or new k false ≡ get_or mid k false)
    → ((i : ℕ) → i < rows - front → later i ≡ lies (front + i))
    → IsAdded lies old new first rows rows
both_added lies later old mid new first front rows le in_front out_front in_rest out_rest same = record {
  inside = λ i lt done. elim (cases_lt i front) [
    | inl before ↦ out_rest (first + i) (inl (omega (arith, before))) ∙ in_front i before
    | inr behind ↦
        let j : ℕ = i - front in
        let place : (first + front) + j ≡ first + i = omega (arith, behind) in
        let back : front + j ≡ i = omega (arith, behind) in
        let small : j < rows - front = omega (arith, lt, behind) in
        ap (λ k. get_or new k false) (sym place) ∙ in_rest j small
        ∙ (λ m. out_front ((first + front) + j) (inr (omega arith)) m || same j small m)
        ∙ (λ m. get_or old (place m) false || lies (back m))
  ];
  after = λ i lt le. absurd (omega (arith, lt, le));
  others = λ k out. elim out [
    | inl below ↦ out_rest k (inl (omega (arith, below))) ∙ out_front k (inl below)
    | inr behind ↦ out_rest k (inr (omega (arith, behind, le))) ∙ out_front k (inr (omega (arith, behind, le)))
  ];
}
