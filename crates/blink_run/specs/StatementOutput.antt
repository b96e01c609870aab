-- What is answered to a statement. Source: this project's own.
use Rattle.std.specs.Prelude.{◌≡◌, Bool, true, false, List, Option, Some, None, Result, Ok, Err, Vec, ℕ}
use Rattle.std.specs.declared.alloc.Global.{Global}
use Rattle.blink_base.specs.declared.limits.Limits.{Limits}
use Rattle.blink_base.specs.declared.refusal.Refusal.{Refusal}
use Rattle.blink_edge.specs.Files as store
use Rattle.report_text.specs.Texts.{Bytes, refusal_bytes, added_bytes}
use Rattle.star_sql.specs.declared.ast.Statement.{Statement}
use Rattle.star_sql.specs.declared.ast.Statement.TheVariants as statement
use Rattle.star_sql.specs.PieceStatement.{Said, Says, is_passed_over}
use Rattle.star_engine.specs.declared.engine.Engine.{Engine}
use Rattle.star_engine.specs.declared.fault.EngineError.{EngineError}
use Rattle.star_engine.specs.declared.fault.EngineError.TheVariants as engine_error
use Rattle.star_engine.specs.State.{State, Tables}
use Rattle.star_engine.specs.EngineRepr.{HasTables, IsEngineOf}
use Rattle.star_engine.specs.Step.{statement_step, holding, asks_store, piece_asks_store, fetched}
use Rattle.blink_base.specs.declared.limits.TheConstants.{LONGEST_CSV}
use Rattle.blink_run.specs.Ends.{AreFiles}
use Rattle.blink_run.specs.Script.{Finds}
use Rattle.blink_run.specs.PiecesRun.{IsStep, Stands}
use Rattle.blink_run.specs.declared.output.Stop.{Stop}
use Rattle.blink_run.specs.declared.output.Stop.TheVariants as stop
use Rattle.blink_run.specs.declared.output.Output.{Output}
use Rattle.star_engine.specs.declared.growth.Growth.{Growth}
use Rattle.star_engine.specs.declared.growth.Growth.TheVariants.{Anew, Standing}

-- a line, and whether it refuses; else memory was wanting
abbrev pub IsLine : Bytes → Bool → Result Output Stop → Type 0
IsLine line refused (Ok output) = (output.line ≡ line) × (output.refused ≡ refused)
IsLine line refused (Err why) = why ≡ stop.Memory

-- the store failed
abbrev pub IsStoreStop : Stop → Type 0
IsStoreStop stop.Memory = ⊥
IsStoreStop stop.Sink = ⊥
IsStoreStop stop.Store = Unit {0}

-- a call answers that the store failed
abbrev pub IsStoreFault : {X : Type 0} → Result X Stop → Type 0
IsStoreFault (Ok x) = ⊥
IsStoreFault (Err why) = IsStoreStop why

-- the line of a refusal of the engine; else memory was wanting
abbrev pub IsRefusal : EngineError → Result Output Stop → Type 0
IsRefusal (engine_error.Refused why) result = IsLine (refusal_bytes why) true result
IsRefusal engine_error.Memory result = result ≡ Err stop.Memory

-- the line of rows that were added, or of the refusal
abbrev pub IsAdditionLine : Result ℕ EngineError → Result Output Stop → Type 0
IsAdditionLine (Ok count) result = IsLine (added_bytes count) false result
IsAdditionLine (Err why) result = IsRefusal why result

-- an engine behind a statement: its tables are sound, under the limits from before
pub record StaysSound {M : Type 0} (old new : Engine M) : Type 0 where
  pub sound : HasTables new
  pub limits : new.limits ≡ old.limits

-- a statement's step from a state: its line, whether it is refused, and the engine keeps the tables that it leaves
pub record IsStepped {M : Type 0} (limits : Limits) (state : State) (s : Statement) (line : Bytes) (refused : Bool) (engine : Engine M) : Type 0 where
  pub tables : Tables
  pub steps : statement_step limits state s ≡ record { state = holding state tables; printed = line; refused = refused }
  pub stands_for : IsEngineOf tables engine

-- a call that asks no store answers a statement's step, or want of memory
abbrev pub IsReply : {M : Type 0} → Limits → State → Statement → Result Output Stop → Engine M → Type 0
IsReply limits state s (Ok output) engine = IsStepped limits state s output.line output.refused engine
IsReply limits state s (Err stop.Memory) engine = Unit {0}
IsReply limits state s (Err stop.Sink) engine = ⊥
IsReply limits state s (Err stop.Store) engine = ⊥

-- a statement's step from what it finds
pub record IsReplied {M : Type 0} (limits : Limits) (told_files : Option store.Files) (stay : Bool) (state : State) (s : Statement) (line : Bytes) (refused : Bool) (engine : Engine M) : Type 0 where
  pub found : State
  pub finds : Finds stay state found
  pub files : AreFiles told_files found.files
  pub stepped : IsStepped limits found s line refused engine

-- a call answers a statement's step from what it finds, or want of memory, or a fault of the store where the statement asks it
abbrev pub IsReplyFrom : {M : Type 0} → Limits → Option store.Files → Bool → State → Statement → Result Output Stop → Engine M → Type 0
IsReplyFrom limits told_files stay state s (Ok output) engine = IsReplied limits told_files stay state s output.line output.refused engine
IsReplyFrom limits told_files stay state s (Err stop.Memory) engine = Unit {0}
IsReplyFrom limits told_files stay state s (Err stop.Sink) engine = ⊥
IsReplyFrom limits told_files stay state s (Err stop.Store) engine = asks_store state.tables s ≡ true

-- LOAD, or else APPEND
abbrev pub loads : Growth → List ℕ → List ℕ → Statement
loads Anew name file = statement.Load name file
loads Standing name file = statement.Append name file

-- the bytes of a file, or why there are none
abbrev pub bytes_in : Result (Vec ℕ Global) Refusal → Result Bytes Refusal
bytes_in (Ok bytes) = Ok bytes.items
bytes_in (Err why) = Err why

-- what was fetched of a file, as the statement finds it
pub record IsFetched (told_files : Option store.Files) (stay : Bool) (state : State) (name : Bytes) (got : Result (Vec ℕ Global) Refusal) : Type 0 where
  pub found : State
  pub finds : Finds stay state found
  pub files : AreFiles told_files found.files
  pub bytes : fetched LONGEST_CSV (found.files name) ≡ bytes_in got

-- the line of a piece, and the state for which the engine and the store stand then
pub record IsPiece {M : Type 0} (limits : Limits) (told_files : Option store.Files) (stay : Bool) (state : State) (text line : Bytes) (refused : Bool) (engine : Engine M) : Type 0 where
  pub next : State
  pub step : IsStep limits stay state text line refused next
  pub stands : Stands limits told_files next engine

-- a piece is a statement that asks the store
pub record IsAsking (state : State) (text : Bytes) : Type 0 where
  pub said : Said
  pub spoken : is_passed_over text ≡ false
  pub says : Says text said
  pub asks : piece_asks_store state.tables said ≡ true

-- a call answers what a piece says from what it finds, or want of memory, or a fault of the store where the statement asks it
abbrev pub IsSaidFrom : {M : Type 0} → Limits → Option store.Files → Bool → State → Said → Result Output Stop → Engine M → Type 0
IsSaidFrom limits told_files stay state (Ok s) result engine = IsReplyFrom limits told_files stay state s result engine
IsSaidFrom {M} limits told_files stay state (Err why) result engine = IsLine (refusal_bytes why) true result × IsEngineOf {M = M} state.tables engine

-- what is answered to a piece: nothing where it is passed over
abbrev pub IsPieceAnswer : {M : Type 0} → Limits → Option store.Files → Bool → State → Bytes → Result (Option Output) Stop → Engine M → Type 0
IsPieceAnswer limits told_files stay state text (Ok None) engine = (is_passed_over text ≡ true) × Stands limits told_files state engine
IsPieceAnswer limits told_files stay state text (Ok (Some output)) engine = IsPiece limits told_files stay state text output.line output.refused engine
IsPieceAnswer limits told_files stay state text (Err stop.Memory) engine = Unit {0}
IsPieceAnswer limits told_files stay state text (Err stop.Sink) engine = ⊥
IsPieceAnswer limits told_files stay state text (Err stop.Store) engine = IsAsking state text
