use Rattle.std.proofs.Common.{◌≡◌, ◌≢◌, ℕ, List, refl, sym, subst, arith, take, get_or, None}
use Rattle.std.proofs.lemmas.List.{take_more}
use Rattle.word_pool.specs.Region.{block_at, IsLive}
use Rattle.bank_pack.specs.BankRows.{numbers_of}
use Rattle.bank_pack.specs.BankGrowth.{HasReleased}
use Rattle.bank_pack.proofs.BlockLemmas.{live-at}
use Rattle.bank_pack.proofs.PlaceLemmas.{IsPlace, placed-at}
use Rattle.bank_pack.proofs.ReleaseLemmas.{apart-at, released_more}
use Rattle.bank_pack.proofs.bank.give_back_all.Goals as goal

pub give_back-requires : goal.give_back-requires
give_back-requires g c =
    let i = c.loop-id.id-index in
    let p = placed-at c.args.ids.now c.args.ids.now i i refl refl (omega (arith, c.loop-id-test.true)) in
    let ids = numbers_of c.args.ids.now in
    let same : block_at c.loop-id.pool.slots (get_or ids i 0) ≡ block_at c.args.pool.now.slots (get_or ids i 0) = c.loop-id.invariant.others (get_or ids i 0) (apart-at ids i c.requires.apart p.within) in
    let live : IsLive c.loop-id.pool.slots (get_or ids i 0) = rw same (live-at c.args.pool.now.slots ids i c.requires.live p.within) in
    subst (λ (n : ℕ). IsLive c.loop-id.pool.slots n) (sym p.is) live

pub loop-id-preserved : goal.loop-id-preserved
loop-id-preserved g c =
    let i = c.loop-id.id-index in
    let p = placed-at c.args.ids.now c.args.ids.now i i refl refl (omega (arith, c.loop-id-test.true)) in
    let ids = numbers_of c.args.ids.now in
    let slot : block_at c.give_back.new.self.slots (get_or ids i 0) ≡ None = rw p.is at c.give_back.ensures.slot in
    let others : (k : ℕ) → k ≢ get_or ids i 0 → block_at c.give_back.new.self.slots k ≡ block_at c.loop-id.pool.slots k = rw p.is at c.give_back.ensures.others in
    let step = released_more c.args.pool.now c.loop-id.pool c.give_back.new.self (take i ids) (get_or ids i 0) c.loop-id.invariant slot others c.give_back.ensures.limit c.give_back.ensures.spare in
    subst (λ (l : List ℕ). HasReleased c.args.pool.now c.give_back.new.self l) (sym (take_more ids i 0 p.within)) step
