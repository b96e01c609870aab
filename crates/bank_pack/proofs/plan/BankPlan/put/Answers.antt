use Rattle.std.proofs.Common.{◌≡◌, ◌<◌, ◌∙◌, List, ◌++◌, [], ◌∷◌, sym, ap, set, length, arith}
use Rattle.std.specs.List.{position_or_len}
use Rattle.std.proofs.lemmas.List.{get_or_default}
use Rattle.bank_pack.specs.Banks.{BankColumn, BankColumns, has_room, put_in_first}
use Rattle.bank_pack.proofs.BankLemmas.{put-found, put-new}
use Rattle.bank_pack.proofs.plan.BankPlan.put.Goals as goal

pub returns-in_ok-add : goal.returns-in_ok-add
returns-in_ok-add c =
    let column : BankColumn = record { column = c.args.column; width = c.args.width } in
    let place : position_or_len (λ (bank : BankColumns). has_room bank column) c.self.inside.banks.items ≡ c.first_with_room-at.result =
    sym (c.first_with_room-at.ensures.place ∙ ap (λ (banks : List BankColumns). position_or_len (λ bank. has_room bank column) banks) c.as_slice.ensures.value) in
    let long : length c.as_slice.result.now ≡ length c.self.inside.banks.items = ap (λ (banks : List BankColumns). length banks) c.as_slice.ensures.value in
    let within : c.first_with_room-at.result < length c.self.inside.banks.items = omega (arith, c.if-at-len.true, c.len.ensures, c.as_slice.ensures.len, long) in
    let bank = c.index_mut.ensures.value ∙ get_or_default c.self.inside.banks.items c.first_with_room-at.result c.index_mut.result.now [] within in
    ap (λ (b : BankColumns). set c.self.inside.banks.items c.first_with_room-at.result b) (c.in_ok-add.ensures ∙ ap (λ (b : BankColumns). b ++ column ∷ []) bank)
    ∙ sym (put-found c.self.inside.banks.items column c.first_with_room-at.result place within)
    ∙ ap (λ (banks : List BankColumns). put_in_first banks column) c.self.view_is

pub returns-in_ok-push : goal.returns-in_ok-push
returns-in_ok-push c =
    let column : BankColumn = record { column = c.args.column; width = c.args.width } in
    let place : position_or_len (λ (bank : BankColumns). has_room bank column) c.self.inside.banks.items ≡ length c.self.inside.banks.items =
    let at = c.first_with_room-at.ensures.place ∙ ap (λ (banks : List BankColumns). position_or_len (λ bank. has_room bank column) banks) c.as_slice.ensures.value in
    let long : length c.as_slice.result.now ≡ length c.self.inside.banks.items = ap (λ (banks : List BankColumns). length banks) c.as_slice.ensures.value in
    omega (arith, at, long, c.if-at-len.false, c.len.ensures, c.as_slice.ensures.len, c.first_with_room-at.ensures.within) in
    c.in_ok-push.ensures.items ∙ ap (λ (b : BankColumns). c.self.inside.banks.items ++ b ∷ []) c.in_ok-new.ensures
    ∙ sym (put-new c.self.inside.banks.items column place)
    ∙ ap (λ (banks : List BankColumns). put_in_first banks column) c.self.view_is
