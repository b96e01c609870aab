use Rattle.std.proofs.Common.{◌∙◌, [], ◌∷◌, ◌++◌, sym, ap, true, false, is_some}
use Rattle.std.proofs.lemmas.Bool.{and_parts, leb-true, leb-false}
use Rattle.blink_base.specs.declared.refusal.Refusal.TheVariants as refusal
use Rattle.blink_base.specs.Identifiers.{is_name}
use Rattle.cell_layout.specs.Layout.{empty_image}
use Rattle.blink_base.specs.RowFits.{is_schema}
use Rattle.star_sql.specs.WellFormed.{some_and_all, is_definition}
use Rattle.star_engine.specs.Changes.{are_bad_columns, schema_of}
use Rattle.star_engine.proofs.SchemaLemmas.{made_schema}
use Rattle.star_engine.proofs.RefusalLemmas.{cause_from}
use Rattle.star_engine.proofs.StepLemmas.{there, create_exists, create_bad, create_full, create_made, is_full, sound_made}
use Rattle.star_engine.proofs.engine.Engine.create.Goals as goal

pub returns-then-is_some-clause-step : goal.returns-then-is_some-clause-step
returns-then-is_some-clause-step g c = λ tables of.
    cause_from c.exists.result (refusal.TableExists c.args.name.now) _ c.exists.ensures
    (create_exists tables c.args.self.now c.args.name.now of c.args.columns.now (there tables c.args.self.now c.args.name.now of true (c.if-is_some.ensures ∙ ap is_some c.place.ensures)))

pub returns-then-are_bad_columns-clause-step : goal.returns-then-are_bad_columns-clause-step
returns-then-are_bad_columns-clause-step g c = λ tables of.
    create_bad tables c.args.self.now c.args.name.now of c.args.columns.now (there tables c.args.self.now c.args.name.now of false (c.if-is_some.ensures ∙ ap is_some c.place.ensures))
    (sym (ap are_bad_columns c.as_slice.ensures) ∙ sym c.if-are_bad_columns.ensures)

pub returns-then-is_full-clause-step : goal.returns-then-is_full-clause-step
returns-then-is_full-clause-step g c = λ tables of.
    create_full tables c.args.self.now c.args.name.now of c.args.columns.now (there tables c.args.self.now c.args.name.now of false (c.if-is_some.ensures ∙ ap is_some c.place.ensures))
    (sym (ap are_bad_columns c.as_slice.ensures) ∙ sym c.if-are_bad_columns.ensures)
    (is_full tables c.args.self.now c.args.name.now of (leb-true _ _ (sym c.if-is_full.ensures)))

pub empty-requires : goal.empty-requires
empty-requires g c =
    ap is_schema (c.in_ok-schema.ensures ∙ ap schema_of c.as_slice-2.ensures)
    ∙ made_schema c.args.columns.now (and_parts (is_name c.args.name.now) (some_and_all is_definition c.args.columns.now) c.requires.formed).1
    (sym (ap are_bad_columns c.as_slice.ensures) ∙ sym c.if-are_bad_columns.ensures)

pub returns-clause-step : goal.returns-clause-step
returns-clause-step g c = λ tables of.
    create_made tables c.args.self.now c.args.name.now of c.args.columns.now c.in_ok-image.image c.push.new.self
    (there tables c.args.self.now c.args.name.now of false (c.if-is_some.ensures ∙ ap is_some c.place.ensures))
    (sym (ap are_bad_columns c.as_slice.ensures) ∙ sym c.if-are_bad_columns.ensures)
    (leb-false _ _ (sym c.if-is_full.ensures))
    (c.in_ok-image.ensures.empty ∙ ap empty_image (c.in_ok-schema.ensures ∙ ap schema_of c.as_slice-2.ensures))
    c.in_ok-image.ensures.valid
    (c.in_ok-push.ensures.ok ∙ (λ i. c.args.self.now.tables ++ record { name = c.in_ok-name.ensures i; image = c.in_ok-image.image } ∷ []))

pub returns-clause-sound : goal.returns-clause-sound
returns-clause-sound g c =
    sound_made _ _
    (create_made c.requires.sound.0 c.args.self.now c.args.name.now c.requires.sound.1 c.args.columns.now c.in_ok-image.image c.push.new.self
    (there c.requires.sound.0 c.args.self.now c.args.name.now c.requires.sound.1 false (c.if-is_some.ensures ∙ ap is_some c.place.ensures))
    (sym (ap are_bad_columns c.as_slice.ensures) ∙ sym c.if-are_bad_columns.ensures)
    (leb-false _ _ (sym c.if-is_full.ensures))
    (c.in_ok-image.ensures.empty ∙ ap empty_image (c.in_ok-schema.ensures ∙ ap schema_of c.as_slice-2.ensures))
    c.in_ok-image.ensures.valid
    (c.in_ok-push.ensures.ok ∙ (λ i. c.args.self.now.tables ++ record { name = c.in_ok-name.ensures i; image = c.in_ok-image.image } ∷ [])))
