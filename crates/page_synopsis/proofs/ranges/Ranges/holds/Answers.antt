use Rattle.std.proofs.Common.{◌==◌, false, arith, sym, ap, ◌∙◌}
use Rattle.std.specs.List.{list_any}
use Rattle.std.proofs.lemmas.Bool.{le-ltb}
use Rattle.std.proofs.lemmas.List.{get_or_past}
use Rattle.page_synopsis.specs.Sets.{codes_in}
use Rattle.page_synopsis.proofs.SetLemmas.{in_set}
use Rattle.page_synopsis.proofs.ranges.Ranges.holds.Goals as goal

pub returns-then-code-size : goal.returns-then-code-size
returns-then-code-size c =
    c.test.ensures ∙ sym (in_set c.in-Wide.bits c.args.code) ∙ ap (λ set. list_any (λ code. code == c.args.code) (codes_in set)) (sym c.in-Wide.is)

pub returns-else-code-size : goal.returns-else-code-size
returns-else-code-size c =
    le-ltb c.args.code c.size.result (omega arith) ∙ sym (get_or_past c.in-Wide.bits c.args.code false (omega (arith, c.size.ensures)))
    ∙ sym (in_set c.in-Wide.bits c.args.code) ∙ ap (λ set. list_any (λ code. code == c.args.code) (codes_in set)) (sym c.in-Wide.is)
