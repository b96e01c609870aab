use Rattle.std.proofs.Common.{rules, refl, ap, ◌∙◌, ◌≡◌, ℕ, [], List, get_or}
use Rattle.std.proofs.Math.ListN.{set}
use Rattle.word_pool.specs.Region.{or_at}
use Rattle.word_pool.specs.ChunkList.{joined}
use Rattle.word_pool.proofs.ChunkListLemmas.{located, chunk_there, lists}
use Rattle.word_pool.proofs.chunks.Chunks.add_bits.Goals as goal

pub index_mut-chunk-requires : goal.index_mut-chunk-requires
index_mut-chunk-requires c =
    let h = chunk_there c.self.inside.chunks.items c.args.number c.self.invariant (rw c.self.view_is c.requires.number) in
    search rules

pub index_mut-block-requires : goal.index_mut-block-requires
index_mut-block-requires c =
    let h = (located c.self.inside.chunks.items c.args.number c.index_mut-chunk.result.now c.index_mut-chunk.result.now c.self.invariant (rw c.self.view_is c.requires.number) c.index_mut-chunk.ensures.value).block_within in
    search rules

pub invariant_of-self : goal.invariant_of-self
invariant_of-self c =
    ((located c.self.inside.chunks.items c.args.number c.index_mut-chunk.result.now c.index_mut-chunk.result.now c.self.invariant (rw c.self.view_is c.requires.number) c.index_mut-chunk.ensures.value).after _ _ refl).1

pub returns : goal.returns
returns c =
    let w = located c.self.inside.chunks.items c.args.number c.index_mut-chunk.result.now c.index_mut-chunk.result.now c.self.invariant (rw c.self.view_is c.requires.number) c.index_mut-chunk.ensures.value in
    let b : c.index_mut-block.result.now ≡ get_or (joined (lists c.self.inside.chunks.items)) c.args.number [] = c.index_mut-block.ensures.value ∙ w.block c.index_mut-block.result.now in
    (w.after _ _ refl).0
    ∙ (ap (λ (z : List ℕ). set (joined (lists c.self.inside.chunks.items)) c.args.number (or_at z c.args.at c.args.bits)) b
    ∙ ap (λ (z : List (List ℕ)). set z c.args.number (or_at (get_or z c.args.number []) c.args.at c.args.bits)) c.self.view_is)
