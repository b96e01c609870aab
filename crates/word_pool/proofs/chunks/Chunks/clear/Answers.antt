use Rattle.std.proofs.Common.{rules, refl, ap, ◌∙◌, ℕ, replicate, List}
use Rattle.std.proofs.Math.ListN.{set}
use Rattle.word_pool.proofs.ChunkListLemmas.{located, chunk_there}
use Rattle.word_pool.proofs.chunks.Chunks.clear.Goals as goal

pub index_mut-chunk-requires : goal.index_mut-chunk-requires
index_mut-chunk-requires c =
    let h = chunk_there c.self.inside.chunks.items c.args.number c.self.invariant (rw c.self.view_is c.requires) in
    search rules

pub index_mut-requires : goal.index_mut-requires
index_mut-requires c =
    let h = (located c.self.inside.chunks.items c.args.number c.index_mut-chunk.result.now c.index_mut-chunk.result.now c.self.invariant (rw c.self.view_is c.requires) c.index_mut-chunk.ensures.value).block_within in
    search rules

pub invariant_of-self : goal.invariant_of-self
invariant_of-self c =
    ((located c.self.inside.chunks.items c.args.number c.index_mut-chunk.result.now c.index_mut-chunk.result.now c.self.invariant (rw c.self.view_is c.requires) c.index_mut-chunk.ensures.value).after _ _ refl).1

pub returns : goal.returns
returns c =
    let w = located c.self.inside.chunks.items c.args.number c.index_mut-chunk.result.now c.index_mut-chunk.result.now c.self.invariant (rw c.self.view_is c.requires) c.index_mut-chunk.ensures.value in
    (w.after (replicate 128 0) _ refl).0 ∙ ap (λ (z : List (List ℕ)). set z c.args.number (replicate 128 0)) c.self.view_is
