use Rattle.std.proofs.Common.{arith, refl, sym, ap, ◌∙◌, ◌≡◌, ◌<◌, ℕ, length, Some, List, length-set}
use Rattle.word_pool.specs.Region.{Region, block_at, slots_of, or_at}
use Rattle.word_pool.proofs.PoolPartsLemmas.{counted}
use Rattle.word_pool.proofs.RegionLemmas.{held, slot_written, slot_kept, live_slots}
use Rattle.word_pool.proofs.pool.Pool.add_bits.Goals as goal

pub add_bits-requires-clause-number : goal.add_bits-requires-clause-number
add_bits-requires-clause-number g c =
    let h = held c.self.inside.numbers.tags c.self.inside.blocks c.args.self.now.slots c.args.id.0 (ap (λ (v : Region). v.slots) c.self.view_is) c.requires.live in
    omega (arith, h.used, c.self.invariant.within)

pub invariant_of-self : goal.invariant_of-self
invariant_of-self g c =
    let size : length c.add_bits.new.self ≡ length c.self.inside.blocks = ap length c.add_bits.ensures ∙ length-set c.self.inside.blocks c.args.id.0 _ in
    record {
      few = c.self.invariant.few;
      chunked = omega (arith, size, c.self.invariant.chunked);
      roomy = omega (arith, size, c.self.invariant.roomy);
      within = omega (arith, size, c.self.invariant.within);
    }

pub returns-clause-slot : goal.returns-clause-slot
returns-clause-slot g c =
    let h = held c.self.inside.numbers.tags c.self.inside.blocks c.args.self.now.slots c.args.id.0 (ap (λ (v : Region). v.slots) c.self.view_is) c.requires.live in
    let lt : c.args.id.0 < length c.self.inside.blocks = omega (arith, h.used, c.self.invariant.within) in
    ap (λ (bs : List (List ℕ)). block_at (slots_of c.self.inside.numbers.tags bs) c.args.id.0) c.add_bits.ensures
    ∙ (slot_written c.self.inside.numbers.tags c.self.inside.blocks c.args.id.0 c.args.tag _ (h.tag ∙ ap Some c.requires.tag) lt
    ∙ ap (λ (z : List ℕ). Some (c.args.tag, or_at z c.args.at c.args.bits)) (sym h.words))

pub returns-clause-others : goal.returns-clause-others
returns-clause-others g c k ne =
    ap (λ (bs : List (List ℕ)). block_at (slots_of c.self.inside.numbers.tags bs) k) c.add_bits.ensures
    ∙ slot_kept c.self.inside.numbers.tags c.self.inside.numbers.tags c.self.inside.blocks c.args.self.now.slots c.args.id.0 k _ (ap (λ (v : Region). v.slots) c.self.view_is) refl ne

pub returns-clause-live : goal.returns-clause-live
returns-clause-live g c =
    let count = counted c.self.inside.limit c.self.inside.blocks c.self.inside.numbers c.args.self.now c.self.view_is c.self.invariant in
    live_slots c.self.inside.numbers.tags c.add_bits.new.self ∙ sym count.live
