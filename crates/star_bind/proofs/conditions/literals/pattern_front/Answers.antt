use Rattle.std.proofs.Common.{ap, ◌∙◌}
use Rattle.std.specs.Option.{option_copied}
use Rattle.star_bind.proofs.LiteralLemmas.{no_front}
use Rattle.star_bind.proofs.conditions.literals.pattern_front.Goals as goal

pub returns-in_err-front : goal.returns-in_err-front
unfolding lib.Utf8.encode
returns-in_err-front c = ap option_copied c.from_residual.ensures ∙ no_front c.args.pattern.now c.in_err-front.ensures.cases
