use Rattle.std.proofs.Common.{arith, refl, sym, ap, ◌∙◌, ◌+◌}
use Rattle.word_pool.specs.Region.{Region}
use Rattle.word_pool.proofs.PoolPartsLemmas.{counted}
use Rattle.word_pool.proofs.RegionLemmas.{held, slot_none, slot_same, live_slots}
use Rattle.word_pool.proofs.pool.Pool.give_back.Goals as goal

pub give-requires : goal.give-requires
give-requires g c =
    let h = held c.self.inside.numbers.tags c.self.inside.blocks c.args.self.now.slots c.args.id.0 (ap (λ (v : Region). v.slots) c.self.view_is) c.requires in
    rw (h.tag) refl

pub returns-clause-slot : goal.returns-clause-slot
returns-clause-slot g c = slot_none c.give.new.self.tags c.self.inside.blocks c.args.id.0 c.give.ensures.given

pub returns-clause-others : goal.returns-clause-others
returns-clause-others g c k ne = slot_same c.self.inside.numbers.tags c.give.new.self.tags c.self.inside.blocks c.args.self.now.slots k (ap (λ (v : Region). v.slots) c.self.view_is) (c.give.ensures.others k ne)

pub returns-clause-spare : goal.returns-clause-spare
returns-clause-spare g c =
    let count = counted c.self.inside.limit c.self.inside.blocks c.self.inside.numbers c.args.self.now c.self.view_is c.self.invariant in
    omega (arith, count.spare, c.give.ensures.live)

pub returns-clause-live : goal.returns-clause-live
returns-clause-live g c =
    let count = counted c.self.inside.limit c.self.inside.blocks c.self.inside.numbers c.args.self.now c.self.view_is c.self.invariant in
    ap (λ n. n + 1) (live_slots c.give.new.self.tags c.self.inside.blocks) ∙ (c.give.ensures.live ∙ sym count.live)
