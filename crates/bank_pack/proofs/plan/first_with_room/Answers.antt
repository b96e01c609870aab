use Rattle.std.proofs.Common.{◌∙◌, [], sym, ap, arith}
use Rattle.std.proofs.lemmas.List.{get_or_default}
use Rattle.std.proofs.lemmas.List.Sums.{position_or_len_is}
use Rattle.bank_pack.specs.Banks.{BankColumns, has_room}
use Rattle.bank_pack.proofs.plan.first_with_room.Goals as goal

pub returns-else-not-has_room-clause-place : goal.returns-else-not-has_room-clause-place
returns-else-not-has_room-clause-place c =
    let room = λ (bank : BankColumns). has_room bank (record { column = 0; width = c.args.width }) in
    sym (position_or_len_is room c.args.banks.now c.loop-at.at [] c.loop-at.invariant.0 c.loop-at.invariant.1 (λ within.
    let bank = c.index-banks-at.is ∙ get_or_default c.args.banks.now c.loop-at.at c.index-banks-at.result [] within in
    ap room (sym bank) ∙ sym c.has_room.ensures ∙ c.if-not-has_room.false))

pub returns-after-loop-at-clause-place : goal.returns-after-loop-at-clause-place
returns-after-loop-at-clause-place c =
    sym (position_or_len_is (λ (bank : BankColumns). has_room bank (record { column = 0; width = c.args.width })) c.args.banks.now c.loop-at.at [] c.loop-at.invariant.0 c.loop-at.invariant.1
    (λ within. absurd (omega (arith, within, c.loop-at-test.false))))
