use Rattle.std.proofs.Common.{◌∙◌, ap}
use Rattle.blink_base.specs.Dates.{date_of}
use Rattle.blink_base.specs.ReadValue.{date_or_fault}
use Rattle.star_bind.proofs.LiteralLemmas.{date_there}
use Rattle.star_bind.proofs.names.kinds.is_date.Goals as goal

pub returns : goal.returns
returns c =
    let same = c.as_bytes.ensures.value ∙ c.as_str.ensures in
    c.is_ok.ensures.value ∙ date_there c.read.result c.args.word.now (λ known. c.read.ensures.value known ∙ ap (λ t. date_or_fault (date_of t)) same) c.read.ensures.memory
