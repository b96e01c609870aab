use Rattle.std.proofs.Common.{◌∙◌, ap}
use Rattle.bank_pack.specs.Banks.{has_room}
use Rattle.bank_pack.proofs.PlanLemmas.{room_made, same_answer}
use Rattle.bank_pack.proofs.planned_bank.PlannedBank.has_room.Goals as goal

pub returns : goal.returns
returns c =
    let room = room_made c.self.inside.columns.items c.self.inside.shape 0 c.args.width c.self.invariant.0 c.self.invariant.1 c.requires in
    c.is_some.ensures ∙ same_answer _ _ c.with.ensures.some ∙ room ∙ ap (λ bank. has_room bank (record { column = 0; width = c.args.width })) c.self.view_is
