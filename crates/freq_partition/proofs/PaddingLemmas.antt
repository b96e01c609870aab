-- Arrays that are used in front and hold zeros behind.
use Rattle.std.proofs.Common.{ℕ, zero, suc, ◌-◌, ◌≤◌, ◌≡◌, List, [], ◌∷◌, length, take, get_or, replicate, refl, ap₂, arith}
use Rattle.freq_partition.specs.Division.{padded}

all_zero : (xs : List ℕ) → ((j : ℕ) → get_or xs j 0 ≡ 0) → xs ≡ replicate (length xs) 0
all_zero [] zeros = refl
all_zero (x ∷ xs) zeros = ap₂ ◌∷◌ (zeros 0) (all_zero xs (λ j. zeros (suc j)))

-- an array of n places is its front with zeros behind
pub padded_take : (k n : ℕ) (xs : List ℕ) → length xs ≡ n → ((j : ℕ) → k ≤ j → get_or xs j 0 ≡ 0) → xs ≡ padded n (take k xs)
padded_take zero n xs long zeros = let e : n - 0 ≡ length xs = omega arith in rw e (all_zero xs (λ j. zeros j (omega arith)))
padded_take (suc k) n [] long zeros = let e : n - 0 ≡ 0 = omega arith in rw e refl
padded_take (suc k) n (x ∷ xs) long zeros =
    let rest = padded_take k (n - 1) xs (omega arith) (λ j h. zeros (suc j) (omega arith)) in
    let e : n - suc (length (take k xs)) ≡ n - 1 - length (take k xs) = omega arith in
    rw e (ap₂ ◌∷◌ refl rest)
