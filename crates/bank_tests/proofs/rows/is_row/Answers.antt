use Rattle.std.proofs.Common.{◌≡◌, ◌≤◌, ◌<◌, ◌^◌, ℕ, zero, suc, List, [], ◌∷◌, length, get_or, refl, arith}
use Rattle.masked_compare.specs.Words.{IsRow}
use Rattle.bank_tests.proofs.rows.is_row.Goals as goal

row_from : (ws cs : List ℕ) → length ws ≡ length cs → ((k : ℕ) → k < length ws → get_or cs k 0 < 2 ^ get_or ws k 0) → IsRow ws cs
row_from [] [] same below = refl
row_from [] (c ∷ cs) same below = absurd (omega arith)
row_from (w ∷ ws) [] same below = absurd (omega arith)
row_from (w ∷ ws) (c ∷ cs) same below = (below 0 (omega arith), row_from ws cs (omega arith) (λ k within. below (suc k) (omega arith)))

pub returns : goal.returns
returns c = λ passed. row_from c.args.widths.now c.args.codes.now (omega (arith, c.if-widths-codes.false)) (λ k within. c.loop-at.invariant k (omega (arith, c.loop-at-test.false)))
