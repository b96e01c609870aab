use Rattle.std.proofs.Common.{◌∙◌, ◌++◌, [], ◌∷◌, ap, sym, is_some, true≢false}
use Rattle.bank_pack.specs.Banks.{BankColumns, has_room}
use Rattle.bank_pack.specs.PlanRepr.{bank_made}
use Rattle.bank_pack.proofs.PlanLemmas.{room_made, made_push}
use Rattle.bank_pack.proofs.planned_bank.PlannedBank.add.Goals as goal

pub unreachable-requires : goal.unreachable-requires
unreachable-requires c =
    let room = room_made c.self.inside.columns.items c.self.inside.shape c.args.column c.args.width c.self.invariant.0 c.self.invariant.1 c.requires.width in
    let there = room ∙ ap (λ bank. has_room bank (record { column = c.args.column; width = c.args.width })) c.self.view_is ∙ c.requires.room in
    true≢false (sym (c.with.ensures.some.1 there) ∙ ap is_some c.in_default.is)

pub returns : goal.returns
returns c =
    ap (λ cs. bank_made cs c.in-Some.shape) c.in_ok-push.ensures.items
    ∙ ap (λ ws. bank_made (c.self.inside.columns.items ++ c.args.column ∷ []) ws) c.in-Some.ensures.shape
    ∙ made_push c.self.inside.columns.items c.self.inside.shape c.args.column c.args.width c.self.invariant.0
    ∙ ap (λ (bank : BankColumns). bank ++ record { column = c.args.column; width = c.args.width } ∷ []) c.self.view_is
