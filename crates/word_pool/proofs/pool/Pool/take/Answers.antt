use Rattle.std.proofs.Common.{arith, sym, ap, ◌∙◌, ◌≡◌, ◌<◌, ◌+◌, ℕ, length, replicate, List, length-set}
use Rattle.word_pool.specs.Region.{Region, block_at, slots_of}
use Rattle.word_pool.proofs.PoolPartsLemmas.{counted, parts_taken}
use Rattle.word_pool.proofs.RegionLemmas.{slot_written, slot_kept, slot_none, live_slots}
use Rattle.word_pool.proofs.pool.Pool.take.Goals as goal

pub clear-requires : goal.clear-requires
clear-requires g c =
    let count = counted c.self.inside.limit c.self.inside.blocks c.self.inside.numbers c.args.self.now c.self.view_is c.self.invariant in
    omega (arith, count.spare, c.requires, c.take-number.ensures.within, c.take-number.ensures.used, c.take-number.ensures.live, c.self.invariant.within)

pub invariant_of-self : goal.invariant_of-self
invariant_of-self g c =
    let count = counted c.self.inside.limit c.self.inside.blocks c.self.inside.numbers c.args.self.now c.self.view_is c.self.invariant in
    parts_taken c.self.inside.limit c.self.inside.blocks c.clear.new.self c.self.inside.numbers c.take-number.new.self c.take-number.result _ c.self.invariant (omega (arith, count.spare, c.requires)) c.take-number.ensures.room c.take-number.ensures.live c.take-number.ensures.used c.clear.ensures

pub returns-clause-fresh : goal.returns-clause-fresh
returns-clause-fresh g c =
    sym (ap (λ (v : Region). block_at v.slots c.take-number.result) c.self.view_is) ∙ slot_none c.self.inside.numbers.tags c.self.inside.blocks c.take-number.result c.take-number.ensures.fresh

pub returns-clause-slot : goal.returns-clause-slot
returns-clause-slot g c =
    let count = counted c.self.inside.limit c.self.inside.blocks c.self.inside.numbers c.args.self.now c.self.view_is c.self.invariant in
    let lt : c.take-number.result < length c.self.inside.blocks = omega (arith, count.spare, c.requires, c.take-number.ensures.within, c.take-number.ensures.used, c.take-number.ensures.live, c.self.invariant.within) in
    ap (λ (bs : List (List ℕ)). block_at (slots_of c.take-number.new.self.tags bs) c.take-number.result) c.clear.ensures
    ∙ slot_written c.take-number.new.self.tags c.self.inside.blocks c.take-number.result c.args.tag _ c.take-number.ensures.taken lt

pub returns-clause-others : goal.returns-clause-others
returns-clause-others g c k ne =
    ap (λ (bs : List (List ℕ)). block_at (slots_of c.take-number.new.self.tags bs) k) c.clear.ensures
    ∙ slot_kept c.self.inside.numbers.tags c.take-number.new.self.tags c.self.inside.blocks c.args.self.now.slots c.take-number.result k _ (ap (λ (v : Region). v.slots) c.self.view_is) (c.take-number.ensures.others k ne) ne

pub returns-clause-spare : goal.returns-clause-spare
returns-clause-spare g c =
    let count = counted c.self.inside.limit c.self.inside.blocks c.self.inside.numbers c.args.self.now c.self.view_is c.self.invariant in
    let size : length c.clear.new.self ≡ length c.self.inside.blocks = ap length c.clear.ensures ∙ length-set c.self.inside.blocks c.take-number.result (replicate 128 0) in
    omega (arith, size, count.spare, c.requires, c.take-number.ensures.live)

pub returns-clause-live : goal.returns-clause-live
returns-clause-live g c =
    let count = counted c.self.inside.limit c.self.inside.blocks c.self.inside.numbers c.args.self.now c.self.view_is c.self.invariant in
    live_slots c.take-number.new.self.tags c.clear.new.self ∙ (c.take-number.ensures.live ∙ ap (λ n. n + 1) (sym count.live))
