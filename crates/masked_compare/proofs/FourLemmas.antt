-- Four words at a time.
use Rattle.std.proofs.Common.{ℕ, ◌+◌, ◌-◌, ◌%◌, ◌^◌, ◌≡◌, ◌≤◌, ◌<◌, refl, ◌∙◌, ap, arith, List, [], ◌∷◌, length, map, IsTrue}
use Rattle.std.specs.Prelude.{bit_and, bit_or, bit_xor}
use Rattle.std.specs.Simd.Lanes.{zip2, Each1}
use Rattle.std.proofs.lemmas.Nat.{or_lt, and_le_r}
use Rattle.masked_compare.specs.Fields.{is_shape}
use Rattle.masked_compare.specs.Words.{IsClean}
use Rattle.masked_compare.specs.Marks.{guards_of, tops_of, tops_where, lacks, inside_of, marks_of}
use Rattle.masked_compare.specs.Rounds.{outside_of}
use Rattle.masked_compare.proofs.BlockLemmas.{tested}
use Rattle.masked_compare.proofs.CompareLemmas.{within_fact}
use Rattle.masked_compare.proofs.TopLemmas.{failed, failing_fact}
use Rattle.masked_compare.proofs.MarkLemmas.{marks_back}

pub four_lanes : (P : List ℕ → Type 0) → ((a b c d : ℕ) → P (a ∷ b ∷ c ∷ d ∷ [])) → (xs : List ℕ) → length xs ≡ 4 → P xs
four_lanes P p (a ∷ b ∷ c ∷ d ∷ []) h = p a b c d
four_lanes P p [] h = absurd (omega arith)
four_lanes P p (a ∷ []) h = absurd (omega arith)
four_lanes P p (a ∷ b ∷ []) h = absurd (omega arith)
four_lanes P p (a ∷ b ∷ c ∷ []) h = absurd (omega arith)
four_lanes P p (a ∷ b ∷ c ∷ d ∷ e ∷ xs) h = absurd (omega arith)

abbrev pub four : ℕ → List ℕ
four n = n ∷ n ∷ n ∷ n ∷ []

abbrev pub wrap_sub : ℕ → ℕ → ℕ
wrap_sub a b = (a + (2 ^ 64 - b)) % 2 ^ 64

abbrev pub wrap_add : ℕ → ℕ → ℕ
wrap_add a b = (a + b) % 2 ^ 64

-- the steps of the code over lists of lanes
abbrev pub missing4 : ℕ → ℕ → ℕ → List ℕ → List ℕ
missing4 g l h ws = zip2 bit_xor (zip2 bit_and (zip2 bit_and (zip2 wrap_sub (four (bit_or h g)) ws) (zip2 wrap_sub (zip2 bit_or ws (four g)) (four l))) (four g)) (four g)

abbrev pub outside4 : ℕ → ℕ → ℕ → ℕ → List ℕ → List ℕ
outside4 g t l h ws = zip2 bit_and (zip2 bit_or (zip2 wrap_add (zip2 bit_and (missing4 g l h ws) (four (2 ^ 64 - 1 - t))) (four (2 ^ 64 - 1 - t))) (missing4 g l h ws)) (four t)

-- one lane
abbrev outside1 : ℕ → ℕ → ℕ → ℕ → ℕ → ℕ
outside1 g t l h w = bit_and (bit_or (wrap_add (bit_and (bit_xor (bit_and (bit_and (wrap_sub (bit_or h g) w) (wrap_sub (bit_or w g) l)) g) g) (2 ^ 64 - 1 - t)) (2 ^ 64 - 1 - t)) (bit_xor (bit_and (bit_and (wrap_sub (bit_or h g) w) (wrap_sub (bit_or w g) l)) g) g)) t

sub_fits : (a b : ℕ) → b ≤ a → a < 2 ^ 64 → wrap_sub a b ≡ a - b
sub_fits a b h f = omega arith

add_fits : (a b : ℕ) → a + b < 2 ^ 64 → wrap_add a b ≡ a + b
add_fits a b h = omega arith

outside_one : (ws : List ℕ) (g t l h w : ℕ) → IsTrue (is_shape ws) → g ≡ guards_of ws → t ≡ tops_of ws → g < 2 ^ 64 → w < 2 ^ 64 → l < 2 ^ 64 → h < 2 ^ 64 → IsClean ws w → IsClean ws l → IsClean ws h → outside1 g t l h w ≡ tops_where ws (outside_of ws w l h)
outside_one ws g t l h w s ge te gb wb lb hb wc lc hc =
    let f = within_fact ws w l h s wb lb hb wc lc hc in
    let up : w ≤ bit_or h g = rw ge (f.0.above) in
    let dn : l ≤ bit_or w g = rw ge (f.0.below) in
    let a = sub_fits (bit_or h g) w up (or_lt 64 h g hb gb) in
    let b = sub_fits (bit_or w g) l dn (or_lt 64 w g wb gb) in
    let y : tested w l h g ≡ marks_of ws (inside_of ws w l h) = rw ge (f.1) in
    let yb : tested w l h g < 2 ^ 64 = omega (arith, and_le_r (bit_and (bit_or h g - w) (bit_or w g - l)) g) in
    let m = marks_back ws w l h s in
    let yb' : marks_of ws (inside_of ws w l h) < 2 ^ 64 = rw (← y) yb in
    let k = failing_fact ws (marks_of ws (inside_of ws w l h)) s yb' m.0 in
    let e = add_fits (bit_and (bit_xor (tested w l h g) g) (2 ^ 64 - 1 - t)) (2 ^ 64 - 1 - t) (rw (y, ge, te) (k.fits)) in
    let z : failed (bit_xor (tested w l h g) g) (2 ^ 64 - 1 - t) t ≡ tops_where ws (outside_of ws w l h) = rw (y, ge, te) (k.gives ∙ ap (λ r. tops_where ws (map lacks r)) m.1) in
    rw (a, b, e) z

pub outside_four : (ws : List ℕ) (g t l h : ℕ) → IsTrue (is_shape ws) → g ≡ guards_of ws → t ≡ tops_of ws → g < 2 ^ 64 → l < 2 ^ 64 → h < 2 ^ 64 → IsClean ws l → IsClean ws h → (xs : List ℕ) → length xs ≡ 4 → Each1 (λ w. w < 2 ^ 64) xs → Each1 (IsClean ws) xs → outside4 g t l h xs ≡ map (λ w. tops_where ws (outside_of ws w l h)) xs
outside_four ws g t l h s ge te gb lb hb lc hc =
    four_lanes (λ xs. Each1 (λ w. w < 2 ^ 64) xs → Each1 (IsClean ws) xs → outside4 g t l h xs ≡ map (λ w. tops_where ws (outside_of ws w l h)) xs)
    (λ a b c d f k.
    let one = λ (w : ℕ) (wb : w < 2 ^ 64) (wc : IsClean ws w). outside_one ws g t l h w s ge te gb wb lb hb wc lc hc in
    rw (one a f.0 k.0, one b f.1.0 k.1.0, one c f.1.1.0 k.1.1.0, one d f.1.1.1.0 k.1.1.1.0) refl)

pub four_same : (f : ℕ → ℕ) (t : ℕ) → ((w : ℕ) → t ≡ f w) → (xs : List ℕ) → length xs ≡ 4 → four t ≡ map f xs
four_same f t e = four_lanes (λ xs. four t ≡ map f xs) (λ a b c d. rw (← e a, ← e b, ← e c, ← e d) refl)
