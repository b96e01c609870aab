use Rattle.std.proofs.Common.{sym}
use Rattle.std.proofs.lemmas.Result.{err_from_is_err_and}
use Rattle.blink_base.specs.declared.refusal.Refusal.TheVariants as refusal
use Rattle.star_engine.specs.LoadedRows.{batch_in}
use Rattle.star_engine.proofs.RefusalLemmas.{cause_from}
use Rattle.star_engine.proofs.StepLemmas.{no_add, unread_there, refused_there, made_there, sound_made_with, valid_at, keyless_at}
use Rattle.star_engine.proofs.engine.Engine.add.Goals as goal

pub rows_at-requires-clause-valid : goal.rows_at-requires-clause-valid
rows_at-requires-clause-valid g c = rw c.as_slice.ensures (valid_at c.args.self.now c.args.name.now c.in-Some.at c.requires.sound (sym c.in-Some.ensures))

pub returns-in_err-batch-in-Some-clause-step : goal.returns-in_err-batch-in-Some-clause-step
returns-in_err-batch-in-Some-clause-step g c = λ tables of.
    let p = err_from_is_err_and c.from_residual.result c.from_residual.ensures.1 in
    rw (p.1, p.2)
    (unread_there tables c.args.self.now c.args.name.now of c.in-Some.at (sym c.in-Some.ensures) c.args.growth (batch_in c.args.source) _ (rw c.as_slice.ensures at c.in_err-batch-in-Some.ensures.rows))

pub add_at-requires-clause-valid : goal.add_at-requires-clause-valid
add_at-requires-clause-valid g c = valid_at c.args.self.now c.args.name.now c.in-Some.at c.requires.sound (sym c.in-Some.ensures)

pub returns-in_err-add_at-in-Some-clause-step : goal.returns-in_err-add_at-in-Some-clause-step
returns-in_err-add_at-in-Some-clause-step g c = λ tables of.
    let r = c.from_residual-in_err-add_at-in-Some in
    let p = err_from_is_err_and r.result r.ensures.1 in
    rw (p.1, p.2)
    (refused_there tables c.args.self.now c.args.name.now of c.in-Some.at (sym c.in-Some.ensures) c.args.growth (batch_in c.args.source) c.in_ok-batch-in-Some.batch _
    (rw c.as_slice.ensures at c.in_ok-batch-in-Some.ensures.rows) c.in_err-add_at-in-Some.ensures.refused)

pub returns-in_err-add_at-in-Some-clause-decodes : goal.returns-in_err-add_at-in-Some-clause-decodes
returns-in_err-add_at-in-Some-clause-decodes g c = λ behind keyless. c.add_at.ensures.decodes behind (keyless_at c.args.self.now c.args.name.now c.in-Some.at keyless (sym c.in-Some.ensures))

pub returns-in_ok-add_at-in-Some-clause-decodes : goal.returns-in_ok-add_at-in-Some-clause-decodes
returns-in_ok-add_at-in-Some-clause-decodes g c = λ behind keyless. c.add_at.ensures.decodes behind (keyless_at c.args.self.now c.args.name.now c.in-Some.at keyless (sym c.in-Some.ensures))

pub returns-in_ok-add_at-in-Some-clause-step : goal.returns-in_ok-add_at-in-Some-clause-step
returns-in_ok-add_at-in-Some-clause-step g c = λ tables of.
    made_there tables c.args.self.now c.args.name.now of c.in-Some.at (sym c.in-Some.ensures) c.args.growth (batch_in c.args.source) c.in_ok-batch-in-Some.batch c.add_at.new.tables c.len.result c.len.ensures
    (rw c.as_slice.ensures at c.in_ok-batch-in-Some.ensures.rows) c.in_ok-add_at-in-Some.ensures.refused c.in_ok-add_at-in-Some.ensures.added

pub returns-in_ok-add_at-in-Some-clause-sound : goal.returns-in_ok-add_at-in-Some-clause-sound
returns-in_ok-add_at-in-Some-clause-sound g c =
    sound_made_with _ _ _
    (made_there c.requires.sound.0 c.args.self.now c.args.name.now c.requires.sound.1 c.in-Some.at (sym c.in-Some.ensures) c.args.growth (batch_in c.args.source) c.in_ok-batch-in-Some.batch c.add_at.new.tables c.len.result c.len.ensures
    (rw c.as_slice.ensures at c.in_ok-batch-in-Some.ensures.rows) c.in_ok-add_at-in-Some.ensures.refused c.in_ok-add_at-in-Some.ensures.added)

pub returns-in-None-clause-step : goal.returns-in-None-clause-step
returns-in-None-clause-step g c = λ tables of.
    cause_from c.unknown.result (refusal.UnknownTable c.args.name.now) _ c.unknown.ensures (no_add tables c.args.self.now c.args.name.now of c.args.growth (batch_in c.args.source) (sym c.in-None.ensures))
