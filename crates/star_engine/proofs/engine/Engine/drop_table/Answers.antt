use Rattle.std.proofs.Common.{sym}
use Rattle.blink_base.specs.declared.refusal.Refusal.TheVariants as refusal
use Rattle.star_engine.proofs.RefusalLemmas.{cause_from}
use Rattle.star_engine.proofs.StepLemmas.{no_drop, taken_there, sound_made}
use Rattle.star_engine.proofs.engine.Engine.drop_table.Goals as goal

pub returns-in-Some-clause-step : goal.returns-in-Some-clause-step
returns-in-Some-clause-step g c = λ tables of. taken_there tables c.args.self.now c.args.name.now of c.in-Some.at (sym c.in-Some.ensures) c.remove_at.new.tables c.remove_at.ensures

pub returns-in-Some-clause-sound : goal.returns-in-Some-clause-sound
returns-in-Some-clause-sound g c =
    sound_made _ _ (taken_there c.requires.0 c.args.self.now c.args.name.now c.requires.1 c.in-Some.at (sym c.in-Some.ensures) c.remove_at.new.tables c.remove_at.ensures)

pub returns-in-None-clause-step : goal.returns-in-None-clause-step
returns-in-None-clause-step g c = λ tables of.
    cause_from c.unknown.result (refusal.UnknownTable c.args.name.now) _ c.unknown.ensures (no_drop tables c.args.self.now c.args.name.now of (sym c.in-None.ensures))
