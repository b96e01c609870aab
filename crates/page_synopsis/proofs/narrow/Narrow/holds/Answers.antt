use Rattle.std.proofs.Common.{◌==◌, sym, ap, ◌∙◌}
use Rattle.std.specs.List.{list_any}
use Rattle.page_synopsis.specs.Runs.{runs_codes}
use Rattle.page_synopsis.proofs.RunLemmas.{in_runs, from_are_runs}
use Rattle.page_synopsis.proofs.narrow.Narrow.holds.Goals as goal

pub returns : goal.returns
returns c =
    c.lies_in.ensures ∙ sym (in_runs c.args.code 0 _ (from_are_runs _ c.self.invariant.runs)) ∙ ap (λ runs. list_any (λ code. code == c.args.code) (runs_codes runs)) c.self.view_is
