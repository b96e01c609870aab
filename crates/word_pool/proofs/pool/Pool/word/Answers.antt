use Rattle.std.proofs.Common.{arith, sym, ap, ◌∙◌, ◌≡◌, ◌≤◌, ◌<◌, ◌+◌, ℕ, [], List, take, get_or}
use Rattle.std.proofs.lemmas.List.{get_or-take}
use Rattle.word_pool.specs.Region.{Region, block_at, words_of}
use Rattle.word_pool.proofs.RegionLemmas.{held, Held}
use Rattle.word_pool.proofs.pool.Pool.word.Goals as goal

pub read-block-requires-clause-number : goal.read-block-requires-clause-number
read-block-requires-clause-number g c =
    let h = held c.self.inside.numbers.tags c.self.inside.blocks c.args.self.now.slots c.args.id.0 (ap (λ (v : Region). v.slots) c.self.view_is) c.requires.live in
    omega (arith, h.used, c.self.invariant.within)

pub returns-clause-value : goal.returns-clause-value
returns-clause-value g c =
    let h = held c.self.inside.numbers.tags c.self.inside.blocks c.args.self.now.slots c.args.id.0 (ap (λ (v : Region). v.slots) c.self.view_is) c.requires.live in
    let words : List ℕ = words_of (block_at c.args.self.now.slots c.args.id.0) in
    ap (λ (l : List ℕ). get_or l c.args.at 0) (c.read-block.ensures.words ∙ ap (take (c.args.at + 1)) (sym h.words))
    ∙ get_or-take (c.args.at + 1) words c.args.at 0 (omega arith)
