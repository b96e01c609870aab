use Rattle.std.proofs.Common.{All, subst, sym}
use Rattle.std.proofs.lemmas.List.Elements.{All-push}
use Rattle.lane_scan.specs.Scan.{IsSpreadRound}
use Rattle.lane_tests.proofs.words.rounds_of.Goals as goal

pub loop-at-preserved : goal.loop-at-preserved
loop-at-preserved c =
    subst (All (IsSpreadRound c.args.shape)) (sym c.in_ok-push.ensures.items) (All-push (IsSpreadRound c.args.shape) c.loop-at.rounds.items c.in-Some.round c.loop-at.invariant c.in-Some.ensures)
