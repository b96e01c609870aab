use Rattle.std.proofs.Common.{sym, ap, ◌∙◌}
use Rattle.page_synopsis.specs.BitSets.{with_codes, bits_of_codes, codes_set}
use Rattle.page_synopsis.specs.Runs.{runs_codes}
use Rattle.page_synopsis.specs.Sets.{codes_in}
use Rattle.page_synopsis.proofs.SetLemmas.{only_codes}
use Rattle.page_synopsis.proofs.ranges.Ranges.code_bits.Goals as goal
use Rattle.page_synopsis.proofs.ranges.Ranges.code_bits.Goals.{in-Narrow, in-Wide}

pub returns : goal.returns
returns c =
    elim c.match-self.branch [
      | in-Narrow w ↦ w.bits-is ∙ w.add_to.ensures ∙ ap (with_codes (runs_codes w.in-Narrow.narrow)) c.in_ok-bits.ensures ∙ only_codes c.args.size (runs_codes w.in-Narrow.narrow)
          ∙ ap (λ set. bits_of_codes c.args.size (codes_in set)) (sym w.in-Narrow.is)
      | in-Wide w ↦ w.bits-is ∙ w.add_to-in-Wide.ensures ∙ ap (with_codes (codes_set w.in-Wide.wide)) c.in_ok-bits.ensures ∙ only_codes c.args.size (codes_set w.in-Wide.wide)
          ∙ ap (λ set. bits_of_codes c.args.size (codes_in set)) (sym w.in-Wide.is)
    ]
