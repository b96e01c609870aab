-- What is answered to a piece, by what it says.
use Rattle.std.proofs.Common.{◌≡◌, Bool, true, false, ◌∷◌, [], Option, Ok, Err, refl, sym}
use Rattle.blink_base.specs.declared.limits.Limits.{Limits}
use Rattle.blink_edge.specs.Files as store
use Rattle.report_text.specs.Texts.{Bytes}
use Rattle.star_sql.specs.PieceStatement.{Said, Says, is_passed_over}
use Rattle.star_engine.specs.declared.engine.Engine.{Engine}
use Rattle.star_engine.specs.State.{State}
use Rattle.star_engine.specs.Step.{step, holding, piece_asks_store}
use Rattle.blink_run.specs.Ends.{AreFiles}
use Rattle.blink_run.specs.PiecesRun.{SinkView, AreStopped}
use Rattle.blink_run.specs.StatementOutput.{IsSaidFrom, IsPiece, IsPieceAnswer, IsAsking}
use Rattle.blink_run.specs.declared.output.Stop.{Stop}
use Rattle.blink_run.specs.declared.output.Stop.TheVariants as stop
use Rattle.blink_run.specs.declared.output.Output.{Output}
use Rattle.blink_run.proofs.PiecesRunLemmas.{all_left, first_asks}
use Rattle.blink_run.proofs.StatementOutputLemmas.{finds_left}

module _ {M : Type 0} (limits : Limits) (told_files : Option store.Files) (stay : Bool) (state : State) (text : Bytes) where
  -- the line of what a piece says
  pub piece_said : (said : Said) (output : Output) (engine : Engine M) → is_passed_over text ≡ false → Says text said → AreFiles told_files state.files → engine.limits ≡ limits
      → IsSaidFrom limits told_files stay state said (Ok output) engine → IsPiece limits told_files stay state text output.line output.refused engine
  unfolding step
  piece_said (Ok s) output engine spoken says files under p = record {
    next = holding p.found p.stepped.tables;
    step = record { spoken = spoken; said = Ok s; says = says; found = p.found; finds = p.finds; steps = p.stepped.steps };
    stands = record { stands_for = p.stepped.stands_for; under = under; files = p.files };
  }
  piece_said (Err why) output engine spoken says files under p = record {
    next = state;
    step = record { spoken = spoken; said = Err why; says = says; found = state; finds = finds_left stay state; steps = λ i. record { state = state; printed = sym p.0.0 i; refused = sym p.0.1 i } };
    stands = record { stands_for = p.1; under = under; files = files };
  }

  -- why a piece has no line
  pub piece_stopped : (said : Said) (why : Stop) (engine : Engine M) → is_passed_over text ≡ false → Says text said
      → IsSaidFrom limits told_files stay state said (Err why) engine → IsPieceAnswer limits told_files stay state text (Err why) engine
  piece_stopped (Ok s) stop.Memory engine spoken says p = tt
  piece_stopped (Ok s) stop.Sink engine spoken says p = p
  piece_stopped (Ok s) stop.Store engine spoken says p = record { said = Ok s; spoken = spoken; says = says; asks = p }
  piece_stopped (Err cause) stop.Memory engine spoken says p = tt
  piece_stopped (Err cause) stop.Sink engine spoken says p = absurd (cc (p.0))
  piece_stopped (Err cause) stop.Store engine spoken says p = absurd (cc (p.0))

  -- a run stops at its first piece
  pub stopped_first : (why : Stop) (x : SinkView) (engine : Engine M) → IsPieceAnswer limits told_files stay state text (Err why) engine → AreStopped limits stay state (text ∷ []) x x why
  stopped_first stop.Memory x engine p = all_left limits stay state (text ∷ []) x
  stopped_first stop.Sink x engine p = absurd p
  stopped_first stop.Store x engine p = first_asks limits stay state text x p

-- a piece that is no statement that asks the store asks nothing
pub asks_nothing : (state : State) (text : Bytes) (said : Said) → is_passed_over text ≡ false → Says text said → ¬ (IsAsking state text) → piece_asks_store state.tables said ≡ false
asks_nothing state text said spoken says not_asking = by (piece_asks_store state.tables said) refl
  where
    by : (b : Bool) → piece_asks_store state.tables said ≡ b → b ≡ false
    by true asks = absurd (not_asking (record { said = said; spoken = spoken; says = says; asks = asks }))
    by false asks = refl
