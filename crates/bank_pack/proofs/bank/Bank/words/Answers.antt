use Rattle.std.proofs.Common.{◌≡◌, ◌≤◌, ◌<◌, ◌+◌, ◌*◌, ◌/◌, ◌∙◌, ℕ, refl, sym, ap, subst, arith, take, drop, get_or, length, List, min}
use Rattle.masked_compare.specs.Fields.{lane_count}
use Rattle.word_pool.specs.Region.{block_at, words_of, IsLive}
use Rattle.bank_pack.specs.BankRepr.{blocks_of_page, words_with_rows, rows_before, packed, AreClean}
use Rattle.bank_pack.specs.BankRows.{ids_of}
use Rattle.bank_pack.proofs.BlockLemmas.{live-at}
use Rattle.bank_pack.proofs.PlaceLemmas.{IsPlace, placed-at, page_block}
use Rattle.bank_pack.proofs.ReadLemmas.{words_lent, lent_clean}
use Rattle.bank_pack.proofs.bank.Bank.words.Goals as goal

pub read-requires-clause-live : goal.read-requires-clause-live
read-requires-clause-live g c =
    let bank = c.args.self.now in
    let q : ℕ = c.args.page * blocks_of_page bank.shape + c.args.block in
    let p = placed-at bank.blocks.0 c.as_slice.result.now (c.args.page * (c.bits.result / 8) + c.args.block) q c.as_slice.ensures (ap (λ t. c.args.page * (t / 8) + c.args.block) c.bits.ensures.value) (omega (arith, page_block bank.shape bank.rows c.args.page c.args.block c.requires.block (omega arith), c.requires.pages)) in
    subst (λ (n : ℕ). IsLive c.args.pool.now.slots n) (sym p.is) (live-at c.args.pool.now.slots (ids_of bank) q c.requires.live p.within)

pub returns-clause-words : goal.returns-clause-words
returns-clause-words g c = λ rows stands.
    let bank = c.args.self.now in
    let q : ℕ = c.args.page * blocks_of_page bank.shape + c.args.block in
    let p = placed-at bank.blocks.0 c.as_slice.result.now (c.args.page * (c.bits.result / 8) + c.args.block) q c.as_slice.ensures (ap (λ t. c.args.page * (t / 8) + c.args.block) c.bits.ensures.value) (omega (arith, page_block bank.shape bank.rows c.args.page c.args.block c.requires.block (omega arith), c.requires.pages)) in
    let used : c.min-used.result ≡ words_with_rows bank.shape bank.rows c.args.page c.args.block = rw (c.min-used.ensures, c.min.ensures, c.lanes_of-lanes.ensures.value) refl in
    let begun : 1024 * c.args.page + rows_before bank.shape c.args.block < length rows = rw stands.count c.requires.page in
    words_lent bank.shape c.args.pool.now.slots (ids_of bank) rows c.args.page c.args.block (words_with_rows bank.shape bank.rows c.args.page c.args.block) c.min-used.result _ c.read.result.now
    stands.holds c.requires.block begun (omega arith) p.is used c.read.ensures.words

pub returns-clause-clean : goal.returns-clause-clean
returns-clause-clean g c = λ rows stands.
    let bank = c.args.self.now in
    let used : ℕ = words_with_rows bank.shape bank.rows c.args.page c.args.block in
    let first : ℕ = 1024 * c.args.page + rows_before bank.shape c.args.block in
    subst (λ (l : List ℕ). AreClean bank.shape l) (sym (returns-clause-words g c rows stands)) (lent_clean bank.shape used first rows c.args.pool.now.slots (ids_of bank) c.bits.ensures.shape stands.holds)
