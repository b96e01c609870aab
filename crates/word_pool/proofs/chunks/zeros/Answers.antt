use Rattle.std.proofs.Common.{ℕ, ◌≡◌, ◌+◌, ◌++◌, ◌∙◌, List, ◌∷◌, [], replicate, ap, arith}
use Rattle.std.proofs.lemmas.List.{replicate-append-replicate}
use Rattle.word_pool.proofs.chunks.zeros.Goals as goal

one_more : (xs ys : List (List ℕ)) (n : ℕ) → xs ≡ replicate n (replicate 128 0) → ys ≡ xs ++ replicate 128 0 ∷ [] → ys ≡ replicate (n + 1) (replicate 128 0)
one_more xs ys n e f = f ∙ (ap (λ (z : List (List ℕ)). z ++ replicate 128 0 ∷ []) e ∙ replicate-append-replicate n 1 (replicate 128 0))

pub loop-i-preserved : goal.loop-i-preserved
loop-i-preserved c = one_more _ _ _ c.loop-i.invariant c.in_ok-push.ensures.items

pub returns : goal.returns
returns c = let i : c.loop-i.i ≡ 1024 = omega arith in c.loop-i.invariant ∙ ap (λ n. replicate n (replicate 128 0)) i
