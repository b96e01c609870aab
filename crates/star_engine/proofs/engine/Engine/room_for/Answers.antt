use Rattle.std.proofs.Common.{◌∙◌, sym, ap, true, false, is_some}
use Rattle.std.proofs.lemmas.Bool.{leb-true, leb-false}
use Rattle.blink_base.specs.declared.refusal.Refusal.TheVariants as refusal
use Rattle.star_engine.proofs.RefusalLemmas.{cause_from}
use Rattle.star_engine.proofs.StepLemmas.{there, room_exists, room_full, room_there, is_full, has_room}
use Rattle.star_engine.proofs.engine.Engine.room_for.Goals as goal

pub returns-then-is_some : goal.returns-then-is_some
returns-then-is_some g c = λ tables of.
    cause_from c.exists.result (refusal.TableExists c.args.name.now) _ c.exists.ensures
    (room_exists tables c.args.self.now c.args.name.now of (there tables c.args.self.now c.args.name.now of true (c.if-is_some.ensures ∙ ap is_some c.place-at.ensures)))

pub returns-then-is_full : goal.returns-then-is_full
returns-then-is_full g c = λ tables of.
    room_full tables c.args.self.now c.args.name.now of (there tables c.args.self.now c.args.name.now of false (c.if-is_some.ensures ∙ ap is_some c.place-at.ensures))
    (is_full tables c.args.self.now c.args.name.now of (leb-true _ _ (sym c.if-is_full.ensures)))

pub returns : goal.returns
returns g c = λ tables of.
    room_there tables c.args.self.now c.args.name.now of (there tables c.args.self.now c.args.name.now of false (c.if-is_some.ensures ∙ ap is_some c.place-at.ensures))
    (has_room tables c.args.self.now c.args.name.now of (leb-false _ _ (sym c.if-is_full.ensures)))
