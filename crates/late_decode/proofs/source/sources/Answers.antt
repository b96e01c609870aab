use Rattle.std.proofs.Common.{◌++◌, ap, ◌∙◌, map, reverse}
use Rattle.blink_base.specs.Lines.{field_of}
use Rattle.late_decode.specs.declared.source.Source.TheVariants.{Here}
use Rattle.late_decode.specs.LineSteps.{measure_fields}
use Rattle.late_decode.proofs.SourceLemmas.{turned}
use Rattle.late_decode.proofs.source.sources.Goals as goal

pub returns : goal.returns
returns c =
    let key = c.in_ok-push_key.ensures ∙ ap (λ l. l ++ reverse (map (λ value. Here (field_of value)) c.args.key)) c.in_ok-all.ensures.items in
    c.reverse.ensures.items
    ∙ ap reverse (c.in_ok-push_parts.ensures ∙ ap (λ l. l ++ reverse (map (λ field. Here field) (measure_fields c.args.measures.now c.args.parts))) key)
    ∙ turned c.args.measures.now c.args.key c.args.parts
