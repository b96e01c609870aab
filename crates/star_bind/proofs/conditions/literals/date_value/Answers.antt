use Rattle.std.proofs.Common.{◌∙◌, ap}
use Rattle.blink_base.specs.Dates.{date_of}
use Rattle.blink_base.specs.ReadValue.{date_or_fault}
use Rattle.star_bind.proofs.LiteralLemmas.{date_told, entry_told}
use Rattle.star_bind.proofs.conditions.literals.date_value.Goals as goal

pub returns-clause-value : goal.returns-clause-value
returns-clause-value c =
    let same = c.as_bytes.ensures.value ∙ c.as_str.ensures in
    c.ok.ensures.value ∙ date_told c.read.result c.args.word.now (λ known. c.read.ensures.value known ∙ ap (λ t. date_or_fault (date_of t)) same) c.read.ensures.memory

pub returns-clause-entry : goal.returns-clause-entry
returns-clause-entry c = rw c.ok.ensures.value (entry_told c.read.result c.read.ensures.good)
