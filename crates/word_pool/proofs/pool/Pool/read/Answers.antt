use Rattle.std.proofs.Common.{arith, sym, ap, ◌∙◌, ℕ, length, take, List}
use Rattle.word_pool.specs.Region.{Region}
use Rattle.word_pool.proofs.RegionLemmas.{held}
use Rattle.word_pool.proofs.pool.Pool.read.Goals as goal

pub read-requires-clause-number : goal.read-requires-clause-number
read-requires-clause-number g c =
    let h = held c.self.inside.numbers.tags c.self.inside.blocks c.args.self.now.slots c.args.id.0 (ap (λ (v : Region). v.slots) c.self.view_is) c.requires.live in
    omega (arith, h.used, c.self.invariant.within)

pub returns-clause-words : goal.returns-clause-words
returns-clause-words g c =
    let h = held c.self.inside.numbers.tags c.self.inside.blocks c.args.self.now.slots c.args.id.0 (ap (λ (v : Region). v.slots) c.self.view_is) c.requires.live in
    c.read.ensures.words ∙ ap (take c.args.used) (sym h.words)

pub returns-clause-whole : goal.returns-clause-whole
returns-clause-whole g c =
    let h = held c.self.inside.numbers.tags c.self.inside.blocks c.args.self.now.slots c.args.id.0 (ap (λ (v : Region). v.slots) c.self.view_is) c.requires.live in
    ap (λ (z : List ℕ). length z) h.words ∙ c.read.ensures.whole
