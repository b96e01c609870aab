use Rattle.std.proofs.Common.{arith, sym, ◌≡◌, ◌<◌, ◌*◌, ◌/◌, subst, ap, ◌∙◌, ℕ, List, length, map, get_or}
use Rattle.std.proofs.lemmas.List.{length-map}
use Rattle.masked_compare.specs.Fields.{lane_bits, lane_count}
use Rattle.word_pool.specs.Region.{block_at, tag_at, IsLive}
use Rattle.word_pool.specs.declared.pool.BlockId.{BlockId}
use Rattle.bank_pack.specs.BankRows.{ids_of}
use Rattle.bank_pack.proofs.BlockLemmas.{tagged-at, other-at}
use Rattle.bank_pack.proofs.PlaceLemmas.{IsPlace, placed, some_lanes, lane_put, tagged_changed}
use Rattle.bank_pack.proofs.bank.Bank.put_lane.Goals as goal

pub add_bits-requires-clause-live : goal.add_bits-requires-clause-live
add_bits-requires-clause-live g c =
    let p = placed c.args.self.now.blocks.0 c.as_slice.result.now c.args.self.now.rows c.lanes_of-lanes.result (lane_count c.args.self.now.shape) c.as_slice.ensures c.lanes_of-lanes.ensures.value (some_lanes c.args.self.now.shape) c.requires.within in
    subst (λ (n : ℕ). IsLive c.args.pool.now.slots n) (sym p.is) (tagged-at c.args.tag c.args.pool.now.slots (ids_of c.args.self.now) _ c.requires.live p.within).0

pub add_bits-requires-clause-tag : goal.add_bits-requires-clause-tag
add_bits-requires-clause-tag g c =
    let p = placed c.args.self.now.blocks.0 c.as_slice.result.now c.args.self.now.rows c.lanes_of-lanes.result (lane_count c.args.self.now.shape) c.as_slice.ensures c.lanes_of-lanes.ensures.value (some_lanes c.args.self.now.shape) c.requires.within in
    subst (λ (n : ℕ). tag_at (block_at c.args.pool.now.slots n) ≡ c.args.tag) (sym p.is) (tagged-at c.args.tag c.args.pool.now.slots (ids_of c.args.self.now) _ c.requires.live p.within).1

pub returns-clause-packed : goal.returns-clause-packed
returns-clause-packed g c =
    let p = placed c.args.self.now.blocks.0 c.as_slice.result.now c.args.self.now.rows c.lanes_of-lanes.result (lane_count c.args.self.now.shape) c.as_slice.ensures c.lanes_of-lanes.ensures.value (some_lanes c.args.self.now.shape) c.requires.within in
    let ids = ids_of c.args.self.now in
    let long : length ids ≡ length c.args.self.now.blocks.0 = length-map c.args.self.now.blocks.0 (λ (id : BlockId). id.0) in
    let within : c.args.self.now.rows < lane_count c.args.self.now.shape * (128 * length ids) = rw long c.requires.within in
    lane_put c.args.self.now.shape c.args.pool.now.slots c.add_bits.new.self.slots ids c.args.tag c.args.self.now.rows c.lanes_of-lanes.result c.bits.result c.args.lane _
    c.lanes_of-lanes.ensures.value c.bits.ensures.value c.bits.ensures.whole c.bits.ensures.shape within c.requires.small p.is c.add_bits.ensures.slot c.add_bits.ensures.others

pub returns-clause-live : goal.returns-clause-live
returns-clause-live g c =
    tagged_changed c.args.tag c.args.pool.now.slots c.add_bits.new.self.slots (ids_of c.args.self.now) _ _ c.add_bits.ensures.slot c.add_bits.ensures.others c.requires.live

pub returns-clause-others : goal.returns-clause-others
returns-clause-others g c = λ k other.
    let p = placed c.args.self.now.blocks.0 c.as_slice.result.now c.args.self.now.rows c.lanes_of-lanes.result (lane_count c.args.self.now.shape) c.as_slice.ensures c.lanes_of-lanes.ensures.value (some_lanes c.args.self.now.shape) c.requires.within in
    c.add_bits.ensures.others k (λ e. other-at k (ids_of c.args.self.now) _ other p.within (e ∙ p.is))
