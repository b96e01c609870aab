use Rattle.std.proofs.Common.{◌≡◌, map, take, is_some}
use Rattle.blink_base.specs.declared.limits.Limits.{Limits}
use Rattle.star_engine.specs.State.{State}
use Rattle.star_engine.specs.EngineRepr.{HasTables}
use Rattle.blink_run.specs.Ends.{IsAsked}
use Rattle.blink_run.specs.PiecesRun.{AreAnswered, Stands, sink_view}
use Rattle.blink_run.specs.PieceSpans.{text_at}
use Rattle.blink_run.specs.Script.{NeverAsks}
use Rattle.blink_run.proofs.script.pieces.answer_pieces.Given as goal

abbrev pub invariant-loop-place : goal.invariant-loop-place
invariant-loop-place g l = record {
  answered : (limits : Limits) (state : State) → Stands limits (g.S.Store.files l.initial.store) state l.initial.engine
      → AreAnswered limits (g.S.Store.files l.initial.store) (is_some (g.S.Store.files l.initial.store)) state (map (text_at l.script) (take l.place-index l.places))
      (sink_view g.W.Sink.given g.W.Sink.faults g.W.Sink.sure_room l.initial.output) (sink_view g.W.Sink.given g.W.Sink.faults g.W.Sink.sure_room l.output) l.refused l.engine;
  sound : HasTables l.engine;
  store : IsAsked g.S.Store.files g.S.Store.faults g.S.Store.never_fails ⊥ l.initial.store l.store;
  unasked : (limits : Limits) (state : State) → Stands limits (g.S.Store.files l.initial.store) state l.initial.engine
      → NeverAsks limits (is_some (g.S.Store.files l.initial.store)) state (map (text_at l.script) (take l.place-index l.places)) → l.store ≡ l.initial.store;
}
