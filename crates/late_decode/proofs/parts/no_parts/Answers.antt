use Rattle.std.proofs.Common.{◌∙◌, ◌++◌, [], ◌∷◌, ap, sym, take}
use Rattle.std.proofs.lemmas.List.{take_more, map-append}
use Rattle.late_decode.specs.declared.plan.Measure.{Measure}
use Rattle.late_decode.specs.declared.plan.Measure.TheVariants.{Count}
use Rattle.late_decode.specs.Parts.{no_part, no_parts}
use Rattle.late_decode.proofs.parts.no_parts.Goals as goal

pub loop-preserved : goal.loop-preserved
loop-preserved c =
    c.in_ok-push.ensures.items ∙ ap (λ l. l ++ no_part ∷ []) c.loop.invariant
    ∙ sym (map-append (λ (m : Measure). no_part) (take c.loop.index c.args.measures.now) (_ ∷ []))
    ∙ ap no_parts (sym (take_more c.args.measures.now c.loop.index Count c.loop-test.true))
