use Rattle.std.proofs.Common.{arith, ap, ◌∙◌, ◌≡◌, ◌≤◌, ℕ, length, replicate, List, Option}
use Rattle.word_pool.specs.Region.{Region, slots_of, live_count}
use Rattle.word_pool.proofs.PoolPartsLemmas.{counted, size_grown, parts_grown, below_limit}
use Rattle.word_pool.proofs.RegionLemmas.{slots-append}
use Rattle.word_pool.proofs.pool.Pool.grow.Goals as goal

pub invariant_of-self-2 : goal.invariant_of-self-2
invariant_of-self-2 g c =
    let count = counted c.self.inside.limit c.self.inside.blocks c.self.inside.numbers c.args.self.now c.self.view_is c.self.invariant in
    let less = below_limit c.self.inside.limit c.self.inside.blocks c.self.inside.numbers c.args.self.now count c.requires in
    let size = size_grown c.self.inside.blocks c.grow-2.new.self c.in_ok-grow-2.ensures.ok in
    parts_grown c.self.inside.limit c.self.inside.blocks c.grow-2.new.self c.self.inside.numbers c.grow.new.self c.self.invariant less size (omega (arith, c.min-room.ensures, c.len.ensures, c.in_ok-grow.ensures.ok)) c.grow.ensures.tags

pub returns-clause-memory : goal.returns-clause-memory
returns-clause-memory g c =
    let count = counted c.self.inside.limit c.self.inside.blocks c.self.inside.numbers c.args.self.now c.self.view_is c.self.invariant in
    let less = below_limit c.self.inside.limit c.self.inside.blocks c.self.inside.numbers c.args.self.now count c.requires in
    let size = size_grown c.self.inside.blocks c.grow-2.new.self c.in_ok-grow-2.ensures.ok in
    let same : live_count c.grow.new.self.tags ≡ live_count c.self.inside.numbers.tags = ap live_count c.grow.ensures.tags in
    omega (arith, count.spare, less, size, same)

pub returns-clause-slots : goal.returns-clause-slots
returns-clause-slots g c =
    let within : length c.self.inside.numbers.tags ≤ length c.self.inside.blocks = omega (arith, c.self.invariant.within) in
    ap (λ (ts : List (Option ℕ)). slots_of ts c.grow-2.new.self) c.grow.ensures.tags
    ∙ (ap (λ (bs : List (List ℕ)). slots_of c.self.inside.numbers.tags bs) c.in_ok-grow-2.ensures.ok
    ∙ (slots-append c.self.inside.numbers.tags c.self.inside.blocks (replicate 1024 (replicate 128 0)) within ∙ ap (λ (v : Region). v.slots) c.self.view_is))

pub returns-clause-chunk : goal.returns-clause-chunk
returns-clause-chunk g c =
    let count = counted c.self.inside.limit c.self.inside.blocks c.self.inside.numbers c.args.self.now c.self.view_is c.self.invariant in
    let size = size_grown c.self.inside.blocks c.grow-2.new.self c.in_ok-grow-2.ensures.ok in
    let same : live_count c.grow.new.self.tags ≡ live_count c.self.inside.numbers.tags = ap live_count c.grow.ensures.tags in
    omega (arith, count.spare, size, same)
