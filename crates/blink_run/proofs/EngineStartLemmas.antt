-- The run of pieces goes on from what the engine and the store stand for.
use Rattle.std.proofs.Common.{◌≡◌, Bool, ◌||◌, List, [], ◌++◌, is_some, Option, sym, subst}
use Rattle.blink_base.specs.declared.limits.Limits.{Limits}
use Rattle.blink_edge.specs.Files as store
use Rattle.report_text.specs.Texts.{Bytes}
use Rattle.star_engine.specs.declared.engine.Engine.{Engine}
use Rattle.star_engine.specs.State.{Files, State}
use Rattle.star_engine.specs.EngineRepr.{IsEngineOf}
use Rattle.blink_run.specs.Ends.{AreFiles}
use Rattle.blink_run.specs.Script.{NeverAsks, left_by, start}
use Rattle.blink_run.specs.PiecesRun.{SinkView, Stands, AreAnswered, AreStopped}
use Rattle.blink_run.specs.declared.output.Stop.{Stop}
use Rattle.blink_run.proofs.PiecesRunLemmas.{answered_behind, stopped_behind, never_behind}

-- a new engine stands for the start
pub at_start : {M : Type 0} (limits : Limits) (told_files : Option store.Files) (files : Files) (engine : Engine M) → IsEngineOf [] engine → engine.limits ≡ limits → AreFiles told_files files → Stands limits told_files (start files) engine
at_start limits told_files files engine of under are = record { stands_for = of; under = under; files = are }

module _ {M : Type 0} (limits : Limits) (told_files later : Option store.Files) (same : later ≡ told_files) (state : State) (first second : List Bytes) (a b c : SinkView) (r : Bool) (between : Engine M) where
  -- what is left stands for the store as it is by then
  stands_on : (s : State) → Stands limits told_files s between → Stands limits later s between
  stands_on s p = let P : Option store.Files → Type 0 = λ h. Stands limits h s between in subst P (sym same) p

  -- further pieces are answered
  pub answered_on : (q : Bool) (after : Engine M) → AreAnswered limits told_files (is_some told_files) state first a b r between
      → ((s : State) → Stands limits later s between → AreAnswered limits later (is_some later) s second b c q after)
      → AreAnswered limits told_files (is_some told_files) state (first ++ second) a c (r || q) after
  answered_on q after one next =
      let left = left_by state one.run.outcomes in
      let P : Option store.Files → Type 0 = λ h. AreAnswered limits h (is_some h) left second b c q after in
      answered_behind limits told_files (is_some told_files) state first second a b c r q between after one (subst P same (next left (stands_on left one.stands)))

  -- the run stops at further pieces
  pub stopped_on : (more : List Bytes) (why : Stop) → AreAnswered limits told_files (is_some told_files) state first a b r between
      → ((s : State) → Stands limits later s between → AreStopped limits (is_some later) s second b c why)
      → AreStopped limits (is_some told_files) state ((first ++ second) ++ more) a c why
  stopped_on more why one next =
      let left = left_by state one.run.outcomes in
      let P : Option store.Files → Type 0 = λ h. AreStopped limits (is_some h) left second b c why in
      stopped_behind limits (is_some told_files) state first second more a b c r why one.run (subst P same (next left (stands_on left one.stands)))

  -- what holds of pieces that don't ask the store
  pub never_on : {X : Type 0} → AreAnswered limits told_files (is_some told_files) state first a b r between
      → ((s : State) → Stands limits later s between → NeverAsks limits (is_some later) s second → X)
      → NeverAsks limits (is_some told_files) state (first ++ second) → X
  never_on one next never =
      let left = left_by state one.run.outcomes in
      let P : Option store.Files → Type 0 = λ h. NeverAsks limits (is_some h) left second in
      next left (stands_on left one.stands) (subst P (sym same) (never_behind limits (is_some told_files) state first second one.run.outcomes one.run.runs never))
