use Rattle.std.proofs.Common.{sym}
use Rattle.std.proofs.lemmas.Result.{err_from_is_err_and}
use Rattle.blink_base.specs.declared.refusal.Refusal.TheVariants as refusal
use Rattle.star_engine.proofs.RefusalLemmas.{cause_from}
use Rattle.star_engine.proofs.StepLemmas.{no_order, never_there, remade_there, sound_made, valid_at}
use Rattle.star_engine.proofs.engine.Engine.reorganize.Goals as goal

pub add_at-requires-clause-valid : goal.add_at-requires-clause-valid
add_at-requires-clause-valid g c = valid_at c.args.self.now c.args.name.now c.in-Some.at c.requires (sym c.in-Some.ensures)

pub returns-in_err-add_at-in-Some-clause-step : goal.returns-in_err-add_at-in-Some-clause-step
returns-in_err-add_at-in-Some-clause-step g c = λ tables of.
    let p = err_from_is_err_and c.from_residual.result c.from_residual.ensures.1 in
    rw (p.1, p.2) (never_there tables c.args.self.now c.args.name.now of c.in-Some.at (sym c.in-Some.ensures) _ c.new-batch.result c.new-batch.ensures c.in_err-add_at-in-Some.ensures.refused)

pub returns-in_ok-add_at-in-Some-clause-step : goal.returns-in_ok-add_at-in-Some-clause-step
returns-in_ok-add_at-in-Some-clause-step g c = λ tables of.
    remade_there tables c.args.self.now c.args.name.now of c.in-Some.at (sym c.in-Some.ensures) c.add_at.new.tables c.new-batch.result c.new-batch.ensures c.in_ok-add_at-in-Some.ensures.added

pub returns-in_ok-add_at-in-Some-clause-sound : goal.returns-in_ok-add_at-in-Some-clause-sound
returns-in_ok-add_at-in-Some-clause-sound g c =
    sound_made _ _
    (remade_there c.requires.0 c.args.self.now c.args.name.now c.requires.1 c.in-Some.at (sym c.in-Some.ensures) c.add_at.new.tables c.new-batch.result c.new-batch.ensures c.in_ok-add_at-in-Some.ensures.added)

pub returns-in-None-clause-step : goal.returns-in-None-clause-step
returns-in-None-clause-step g c = λ tables of.
    cause_from c.unknown.result (refusal.UnknownTable c.args.name.now) _ c.unknown.ensures (no_order tables c.args.self.now c.args.name.now of (sym c.in-None.ensures))
