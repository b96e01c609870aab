use Rattle.std.proofs.Common.{rules, sym, ap, ◌∙◌, ℕ, [], length, take, List, get_or}
use Rattle.word_pool.proofs.ChunkListLemmas.{located, chunk_there}
use Rattle.word_pool.proofs.chunks.Chunks.read.Goals as goal

pub index-requires : goal.index-requires
index-requires c =
    let h = chunk_there c.self.inside.chunks.items c.args.number c.self.invariant (rw c.self.view_is c.requires.number) in
    search rules

pub index-requires-2 : goal.index-requires-2
index-requires-2 c =
    let h = (located c.self.inside.chunks.items c.args.number c.index.result.now c.index.result.now c.self.invariant (rw c.self.view_is c.requires.number) c.index.ensures).block_within in
    search rules

pub returns-clause-words : goal.returns-clause-words
returns-clause-words c =
    let w = located c.self.inside.chunks.items c.args.number c.index.result.now c.index.result.now c.self.invariant (rw c.self.view_is c.requires.number) c.index.ensures in
    c.first_words.ensures.words ∙ ap (take c.args.used) (c.index-2.ensures ∙ (w.block c.index-2.result.now ∙ ap (λ (z : List (List ℕ)). get_or z c.args.number []) c.self.view_is))

pub returns-clause-whole : goal.returns-clause-whole
returns-clause-whole c =
    let w = located c.self.inside.chunks.items c.args.number c.index.result.now c.index.result.now c.self.invariant (rw c.self.view_is c.requires.number) c.index.ensures in
    sym (ap length (c.index-2.ensures ∙ (w.block c.index-2.result.now ∙ ap (λ (z : List (List ℕ)). get_or z c.args.number []) c.self.view_is))) ∙ c.first_words.ensures.whole
