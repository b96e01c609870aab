use Rattle.std.proofs.Common.{ℕ, ◌<◌, ◌^◌, get_or, subst, sym, arith}
use Rattle.masked_compare.proofs.PlaceLemmas.{field_masked, field_small, width_small}
use Rattle.masked_compare.proofs.shape.Shape.field.Goals as goal

pub overflow_cast-result-2 : goal.overflow_cast-result-2
overflow_cast-result-2 c =
    let code = field_masked c.args.self c.widths.result.now c.args.word c.args.lane c.args.column c.place.result c.widths.ensures.value c.widths.ensures.shape c.requires.lane c.requires.column c.place.ensures.value in
    let small = field_small c.args.self c.args.word c.args.lane c.args.column c.widths.ensures.shape c.requires.lane c.requires.column in
    let width = width_small c.args.self c.args.column c.widths.ensures.shape c.requires.column in
    record { fits = omega (arith, code, small, width) }

pub returns-clause-code : goal.returns-clause-code
returns-clause-code c = field_masked c.args.self c.widths.result.now c.args.word c.args.lane c.args.column c.place.result c.widths.ensures.value c.widths.ensures.shape c.requires.lane c.requires.column c.place.ensures.value

pub returns-clause-small : goal.returns-clause-small
returns-clause-small c =
    subst (λ (n : ℕ). n < 2 ^ get_or c.args.self c.args.column 0) (sym (returns-clause-code c)) (field_small c.args.self c.args.word c.args.lane c.args.column c.widths.ensures.shape c.requires.lane c.requires.column)
