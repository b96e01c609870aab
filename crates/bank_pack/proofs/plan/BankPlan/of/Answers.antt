use Rattle.std.proofs.Common.{◌≡◌, ◌∙◌, ℕ, List, sym, ap, take, length, get_or, arith}
use Rattle.std.proofs.lemmas.List.{take_more, length-take-le}
use Rattle.bank_pack.specs.Banks.{BankColumns, banks_of, put_in_first}
use Rattle.bank_pack.proofs.BankLemmas.{banks-push}
use Rattle.bank_pack.proofs.plan.BankPlan.of.Goals as goal

pub loop-at-preserved : goal.loop-at-preserved
loop-at-preserved c =
    let widths = c.args.widths.now in
    let width = get_or widths c.loop-at.at 0 in
    let front = take c.loop-at.at widths in
    let long : length front ≡ c.loop-at.at = length-take-le c.loop-at.at widths (omega (arith, c.loop-at-test.true)) in
    let more = take_more widths c.loop-at.at 0 c.loop-at-test.true in
    c.in_ok-put.ensures
    ∙ ap (λ (banks : List BankColumns). put_in_first banks (record { column = c.loop-at.at; width = width })) c.loop-at.invariant
    ∙ ap (λ (n : ℕ). put_in_first (banks_of front) (record { column = n; width = width })) (sym long)
    ∙ sym (banks-push front width)
    ∙ ap banks_of (sym more)
