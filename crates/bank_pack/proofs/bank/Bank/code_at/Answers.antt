use Rattle.std.proofs.Common.{◌≡◌, ◌≤◌, ◌<◌, ◌+◌, ◌*◌, ◌/◌, ◌%◌, ◌∙◌, ℕ, refl, sym, ap, subst, arith, get_or, length, List, []}
use Rattle.masked_compare.specs.Fields.{lane_count}
use Rattle.masked_compare.specs.Words.{rows_in}
use Rattle.word_pool.specs.Region.{block_at, words_of, IsLive}
use Rattle.bank_pack.specs.BankRows.{ids_of}
use Rattle.bank_pack.proofs.BlockLemmas.{live-at}
use Rattle.bank_pack.proofs.PlaceLemmas.{IsPlace, placed, some_lanes, rows_fit}
use Rattle.bank_pack.proofs.ReadLemmas.{code_read}
use Rattle.bank_pack.proofs.bank.Bank.code_at.Goals as goal

pub word-word-requires-clause-live : goal.word-word-requires-clause-live
word-word-requires-clause-live g c =
    let bank = c.args.self.now in
    let n : ℕ = lane_count bank.shape in
    let fit = rows_fit bank.shape bank.rows (length bank.blocks.0) c.requires.pages in
    let p = placed bank.blocks.0 c.as_slice.result.now c.args.row c.lanes_of-lanes.result n c.as_slice.ensures c.lanes_of-lanes.ensures.value (some_lanes bank.shape) (omega arith) in
    subst (λ (k : ℕ). IsLive c.args.pool.now.slots k) (sym p.is) (live-at c.args.pool.now.slots (ids_of bank) (c.args.row / n / 128) c.requires.live p.within)

pub returns-clause-code : goal.returns-clause-code
returns-clause-code g c = λ rows stands.
    let bank = c.args.self.now in
    let n : ℕ = lane_count bank.shape in
    let fit = rows_fit bank.shape bank.rows (length bank.blocks.0) c.requires.pages in
    let p = placed bank.blocks.0 c.as_slice.result.now c.args.row c.lanes_of-lanes.result n c.as_slice.ensures c.lanes_of-lanes.ensures.value (some_lanes bank.shape) (omega arith) in
    let within : c.args.row < length rows = rw stands.count c.requires.row in
    code_read bank.shape c.args.pool.now.slots (ids_of bank) rows c.args.row c.lanes_of-lanes.result c.args.field _ c.word-word.result _ c.lanes_of-lanes.ensures.shape stands.holds within
    c.lanes_of-lanes.ensures.value p.is c.word-word.ensures.value c.field.ensures.code
