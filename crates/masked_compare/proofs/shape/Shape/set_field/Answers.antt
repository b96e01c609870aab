use Rattle.std.proofs.Common.{◌∙◌, refl}
use Rattle.masked_compare.proofs.PlaceLemmas.{field_set}
use Rattle.masked_compare.proofs.shape.Shape.set_field.Goals as goal

pub overflow_sub-result : goal.overflow_sub-result
overflow_sub-result c = (field_set c.args.self c.args.word c.place-place.result c.from-old.result c.args.code c.args.code c.args.lane c.args.column c.place-place.ensures.shape c.requires.lane c.requires.column c.requires.code c.ranges.word.fits c.place-place.ensures.value (c.from-old.ensures ∙ c.field.ensures.code) refl).taken

pub overflow_add-result : goal.overflow_add-result
overflow_add-result c = record { fits = (field_set c.args.self c.args.word c.place-place.result c.from-old.result c.from.result c.args.code c.args.lane c.args.column c.place-place.ensures.shape c.requires.lane c.requires.column c.requires.code c.ranges.word.fits c.place-place.ensures.value (c.from-old.ensures ∙ c.field.ensures.code) c.from.ensures).fits }

pub returns-clause-codes : goal.returns-clause-codes
returns-clause-codes c = (field_set c.args.self c.args.word c.place-place.result c.from-old.result c.from.result c.args.code c.args.lane c.args.column c.place-place.ensures.shape c.requires.lane c.requires.column c.requires.code c.ranges.word.fits c.place-place.ensures.value (c.from-old.ensures ∙ c.field.ensures.code) c.from.ensures).word.codes

pub returns-clause-clean : goal.returns-clause-clean
returns-clause-clean c = (field_set c.args.self c.args.word c.place-place.result c.from-old.result c.from.result c.args.code c.args.lane c.args.column c.place-place.ensures.shape c.requires.lane c.requires.column c.requires.code c.ranges.word.fits c.place-place.ensures.value (c.from-old.ensures ∙ c.field.ensures.code) c.from.ensures).word.clean
