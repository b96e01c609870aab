use Rattle.std.proofs.Common.{refl, ap, ◌∙◌, ◌≡◌, ℕ, length, replicate, List, ◌++◌, Vec, Global}
use Rattle.word_pool.specs.ChunkList.{joined}
use Rattle.word_pool.proofs.ChunkListLemmas.{lists}
use Rattle.word_pool.proofs.ChunkListLemmas.{grown}
use Rattle.word_pool.proofs.chunks.Chunks.grow.Goals as goal

size : (xs : List (List ℕ)) → xs ≡ replicate 1024 (replicate 128 0) → length xs ≡ 1024
size xs e = ap length e ∙ refl

pub invariant_of-self-2 : goal.invariant_of-self-2
invariant_of-self-2 c =
    rw c.in_ok-push.ensures.items (grown c.self.inside.chunks.items c.in_ok-chunk.chunk c.self.invariant (size _ c.in_ok-chunk.ensures)).whole

pub returns-clause-ok : goal.returns-clause-ok
returns-clause-ok c =
    ap (λ (v : List (Vec (List ℕ) Global)). joined (lists v)) c.in_ok-push.ensures.items
    ∙ ((grown c.self.inside.chunks.items c.in_ok-chunk.chunk c.self.invariant (size _ c.in_ok-chunk.ensures)).view
    ∙ (ap (λ (z : List (List ℕ)). z ++ c.in_ok-chunk.chunk.items) c.self.view_is ∙ ap (λ (z : List (List ℕ)). c.args.self.now ++ z) c.in_ok-chunk.ensures))
