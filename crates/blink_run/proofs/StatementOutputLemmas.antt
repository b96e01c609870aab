-- What is answered to a statement, by what the engine answers.
use Rattle.std.proofs.Common.{◌≡◌, ◌∙◌, ℕ, Bool, true, false, List, is_some, option_map, Option, Some, None, Result, Ok, Err, OnErr, IsErrAnd, refl, sym, ap, subst}
use Rattle.blink_base.specs.declared.answer.Answer.{Answer}
use Rattle.blink_base.specs.declared.limits.Limits.{Limits}
use Rattle.blink_base.specs.declared.refusal.Refusal.{Refusal}
use Rattle.blink_base.specs.declared.refusal.Refusal.TheVariants as refusal
use Rattle.blink_edge.specs.Files as store
use Rattle.report_text.specs.declared.lines.LayoutLines.{LayoutLines}
use Rattle.report_text.specs.AnswerText.{answer_bytes}
use Rattle.report_text.specs.Texts.{Bytes, refusal_bytes, added_bytes, layout_bytes}
use Rattle.star_sql.specs.declared.ast.Statement.{Statement}
use Rattle.star_engine.specs.declared.engine.Engine.{Engine}
use Rattle.star_engine.specs.declared.fault.EngineError.{EngineError}
use Rattle.star_engine.specs.declared.fault.EngineError.TheVariants as engine_error
use Rattle.star_engine.specs.Causes.{IsCause}
use Rattle.star_engine.specs.LoadedRows.{loaded}
use Rattle.star_engine.specs.State.{AcceptedTable, State, Tables, find_table, has_table}
use Rattle.star_engine.specs.Changes.{added, add_found}
use Rattle.star_engine.specs.EngineRepr.{IsEngineOf, IsAddition, IsMade}
use Rattle.star_engine.specs.Step.{statement_step, holding, refuse, change, addition, description, query, fetched, batch_of, add_file}
use Rattle.blink_base.specs.declared.limits.TheConstants.{LONGEST_CSV}
use Rattle.blink_run.specs.Ends.{AreFiles}
use Rattle.blink_run.specs.Script.{Finds}
use Rattle.blink_run.specs.StatementOutput.{IsLine, IsRefusal, IsAdditionLine, IsReply, IsReplyFrom, IsStoreFault, IsStoreStop, loads}
use Rattle.blink_run.specs.declared.output.Stop.{Stop}
use Rattle.blink_run.specs.declared.output.Stop.TheVariants as stop
use Rattle.star_engine.specs.declared.growth.Growth.{Growth}
use Rattle.blink_run.specs.declared.output.Output.{Output}
use Rattle.star_engine.specs.declared.growth.Growth.TheVariants.{Anew, Standing}

module _ {M : Type 0} where
  -- a line of a step
  pub reply_line : (limits : Limits) (state : State) (s : Statement) (tables : Tables) (line : Bytes) (refused : Bool) (result : Result Output Stop) (engine : Engine M)
      → IsLine line refused result → statement_step limits state s ≡ record { state = holding state tables; printed = line; refused = refused } → IsEngineOf tables engine
      → IsReply limits state s result engine
  reply_line limits state s tables line refused (Ok output) engine p steps of =
      record { tables = tables; steps = steps ∙ (λ i. record { state = holding state tables; printed = sym p.0 i; refused = sym p.1 i }); stands_for = of }
  reply_line limits state s tables line refused (Err stop.Memory) engine p steps of = tt
  reply_line limits state s tables line refused (Err stop.Sink) engine p steps of = cc p
  reply_line limits state s tables line refused (Err stop.Store) engine p steps of = cc p

  -- the line of a refusal of the engine
  pub reply_refused : {X : Type 0} (limits : Limits) (state : State) (s : Statement) (why : EngineError) (told : Result X Refusal) (result : Result Output Stop) (engine : Engine M)
      → IsRefusal why result → IsCause why told → ((cause : Refusal) → told ≡ Err cause → statement_step limits state s ≡ refuse state cause) → IsEngineOf state.tables engine
      → IsReply limits state s result engine
  reply_refused limits state s (engine_error.Refused cause) told result engine line is steps of =
      reply_line limits state s state.tables (refusal_bytes cause) true result engine line (steps cause is) of
  reply_refused limits state s engine_error.Memory told result engine line is steps of =
      let P : Result Output Stop → Type 0 = λ r. IsReply limits state s r engine in subst P (sym line) tt

  -- a change of the tables
  pub reply_change : (limits : Limits) (state : State) (s : Statement) (line : Bytes) (told : Result Tables Refusal) (result : Result Output Stop) (engine : Engine M)
      → statement_step limits state s ≡ change state line told → IsLine line false result → IsMade told engine → IsReply limits state s result engine
  reply_change limits state s line told result engine steps is made =
      reply_line limits state s made.tables line false result engine is (steps ∙ ap (change state line) made.given) made.kept

  pub no_change : (limits : Limits) (state : State) (s : Statement) (line : Bytes) (told : Result Tables Refusal) (why : EngineError) (result : Result Output Stop) (old new : Engine M)
      → statement_step limits state s ≡ change state line told → IsRefusal why result → IsCause why told → new ≡ old → IsEngineOf state.tables old → IsReply limits state s result new
  no_change limits state s line told why result old new steps is cause same of =
      let P : Engine M → Type 0 = λ e. IsEngineOf state.tables e in
      reply_refused limits state s why told result new is cause (λ c e. steps ∙ ap (change state line) e) (subst P (sym same) of)

  -- rows that were added
  pub reply_addition : (limits : Limits) (state : State) (s : Statement) (told : Result (Tables × ℕ) Refusal) (answer : Result ℕ EngineError) (result : Result Output Stop) (old new : Engine M)
      → statement_step limits state s ≡ addition state told → IsAdditionLine answer result → IsAddition answer told new → OnErr answer (new ≡ old) → IsEngineOf state.tables old
      → IsReply limits state s result new
  reply_addition limits state s told (Ok count) result old new steps line made same of =
      reply_line limits state s made.tables (added_bytes count) false result new line (steps ∙ ap (addition state) made.given) made.kept
  reply_addition limits state s told (Err why) result old new steps line cause same of =
      let P : Engine M → Type 0 = λ e. IsEngineOf state.tables e in
      reply_refused limits state s why told result new line cause (λ c e. steps ∙ ap (addition state) e) (subst P (sym same) of)

  -- a layout
  pub reply_layout : (limits : Limits) (state : State) (s : Statement) (told : Result LayoutLines Refusal) (lines : LayoutLines) (result : Result Output Stop) (engine : Engine M)
      → statement_step limits state s ≡ description state told → told ≡ Ok lines → IsLine (layout_bytes lines) false result → IsEngineOf state.tables engine → IsReply limits state s result engine
  reply_layout limits state s told lines result engine steps is line of =
      reply_line limits state s state.tables (layout_bytes lines) false result engine line (steps ∙ ap (description state) is) of

  pub no_layout : (limits : Limits) (state : State) (s : Statement) (told : Result LayoutLines Refusal) (why : EngineError) (result : Result Output Stop) (engine : Engine M)
      → statement_step limits state s ≡ description state told → IsRefusal why result → IsCause why told → IsEngineOf state.tables engine → IsReply limits state s result engine
  no_layout limits state s told why result engine steps line cause of =
      reply_refused limits state s why told result engine line cause (λ c e. steps ∙ ap (description state) e) of

  -- an answer
  pub reply_answer : (limits : Limits) (state : State) (s : Statement) (told : Result Answer Refusal) (answer : Answer) (result : Result Output Stop) (engine : Engine M)
      → statement_step limits state s ≡ query state told → told ≡ Ok answer → IsLine (answer_bytes answer) false result → IsEngineOf state.tables engine → IsReply limits state s result engine
  reply_answer limits state s told answer result engine steps is line of =
      reply_line limits state s state.tables (answer_bytes answer) false result engine line (steps ∙ ap (query state) is) of

  pub no_answer : (limits : Limits) (state : State) (s : Statement) (told : Result Answer Refusal) (why : EngineError) (result : Result Output Stop) (engine : Engine M)
      → statement_step limits state s ≡ query state told → IsRefusal why result → IsCause why told → IsEngineOf state.tables engine → IsReply limits state s result engine
  no_answer limits state s told why result engine steps line cause of =
      reply_refused limits state s why told result engine line cause (λ c e. steps ∙ ap (query state) e) of

-- a statement finds what was left
pub finds_left : (stay : Bool) (state : State) → Finds stay state state
finds_left true state = refl
finds_left false state = refl

-- a call that asks no store goes by what was left
pub reply_from : {M : Type 0} (limits : Limits) (told_files : Option store.Files) (stay : Bool) (state : State) (s : Statement) (result : Result Output Stop) (engine : Engine M)
    → IsReply limits state s result engine → AreFiles told_files state.files → IsReplyFrom limits told_files stay state s result engine
reply_from limits told_files stay state s (Ok output) engine p files = record { found = state; finds = finds_left stay state; files = files; stepped = p }
reply_from limits told_files stay state s (Err stop.Memory) engine p files = tt
reply_from limits told_files stay state s (Err stop.Sink) engine p files = p
reply_from limits told_files stay state s (Err stop.Store) engine p files = absurd p

-- the same from what was found
pub reply_found : {M : Type 0} (limits : Limits) (told_files : Option store.Files) (stay : Bool) (state found : State) (s : Statement) (result : Result Output Stop) (engine : Engine M)
    → IsReply limits found s result engine → Finds stay state found → AreFiles told_files found.files → IsReplyFrom limits told_files stay state s result engine
reply_found limits told_files stay state found s (Ok output) engine p finds files = record { found = found; finds = finds; files = files; stepped = p }
reply_found limits told_files stay state found s (Err stop.Memory) engine p finds files = tt
reply_found limits told_files stay state found s (Err stop.Sink) engine p finds files = p
reply_found limits told_files stay state found s (Err stop.Store) engine p finds files = absurd p

-- what a statement finds has the tables that were left
pub finds_tables : (stay : Bool) (state found : State) → Finds stay state found → found.tables ≡ state.tables
finds_tables true state found is = ap (λ (x : State). x.tables) is
finds_tables false state found is = is

-- LOAD and APPEND add the rows of a file
pub loads_step : (limits : Limits) (state : State) (growth : Growth) (name file : List ℕ) → statement_step limits state (loads growth name file) ≡ add_file limits growth state name file
loads_step limits state Anew name file = refl
loads_step limits state Standing name file = refl

-- into a table that isn't there
pub unknown_file : (limits : Limits) (state : State) (growth : Growth) (name file : List ℕ) → find_table state.tables name ≡ None
    → statement_step limits state (loads growth name file) ≡ refuse state (refusal.UnknownTable name)
unknown_file limits state growth name file none =
    loads_step limits state growth name file ∙ ap (λ (o : Option AcceptedTable). addition state (add_found limits growth state.tables name (batch_of (fetched LONGEST_CSV (state.files file))) o)) none

-- from a file that gives no bytes
pub refused_file : (limits : Limits) (state : State) (growth : Growth) (name file : List ℕ) (accepted : AcceptedTable) (why : Refusal) → find_table state.tables name ≡ Some accepted → fetched LONGEST_CSV (state.files file) ≡ Err why
    → statement_step limits state (loads growth name file) ≡ refuse state why
refused_file limits state growth name file accepted why there got =
    loads_step limits state growth name file ∙ (λ i. addition state (add_found limits growth state.tables name (batch_of (got i)) (there i)))

-- from the bytes of a file
pub file_rows : (limits : Limits) (state : State) (growth : Growth) (name file bytes : List ℕ) → fetched LONGEST_CSV (state.files file) ≡ Ok bytes
    → statement_step limits state (loads growth name file) ≡ addition state (added limits growth state.tables name (loaded bytes))
file_rows limits state growth name file bytes got =
    loads_step limits state growth name file ∙ ap (λ (r : Result Bytes Refusal). addition state (added limits growth state.tables name (batch_of r))) got

-- a call that asks no store never answers a fault of it
pub no_store_fault : {M : Type 0} (limits : Limits) (state : State) (s : Statement) (result : Result Output Stop) (engine : Engine M) → IsReply limits state s result engine → ¬ (IsStoreFault result)
no_store_fault limits state s (Ok output) engine reply = λ fault. fault
no_store_fault limits state s (Err stop.Memory) engine reply = λ fault. fault
no_store_fault limits state s (Err stop.Sink) engine reply = λ fault. fault
no_store_fault limits state s (Err stop.Store) engine reply = λ fault. reply

-- nor does a line
pub no_line_fault : (line : Bytes) (refused : Bool) (result : Result Output Stop) → IsLine line refused result → ¬ (IsStoreFault result)
no_line_fault line refused (Ok output) is = λ fault. fault
no_line_fault line refused (Err stop.Memory) is = λ fault. fault
no_line_fault line refused (Err stop.Sink) is = λ fault. fault
no_line_fault line refused (Err stop.Store) is = λ fault. absurd (cc is)

-- a fault that is passed on
pub fault_passed : {X : Type 0} (result : Result X Stop) (why : Stop) → IsErrAnd result (λ e. e ≡ why) → IsStoreFault result → IsStoreStop why
fault_passed (Ok x) why is fault = absurd fault
fault_passed (Err e) why is fault = let P : Stop → Type 0 = IsStoreStop in subst P is fault

pub no_fault_passed : {X : Type 0} (result : Result X Stop) (why : Stop) → IsErrAnd result (λ e. e ≡ why) → ¬ (IsStoreFault result) → ¬ (IsStoreStop why)
no_fault_passed (Ok x) why is never fault = absurd is
no_fault_passed (Err e) why is never fault = let P : Stop → Type 0 = IsStoreStop in never (subst P (sym is) fault)

-- nor does what is answered to rows that were added
pub no_addition_fault : (added : Result ℕ EngineError) (result : Result Output Stop) → IsAdditionLine added result → ¬ (IsStoreFault result)
no_addition_fault (Ok count) result is = no_line_fault (added_bytes count) false result is
no_addition_fault (Err (engine_error.Refused why)) result is = no_line_fault (refusal_bytes why) true result is
no_addition_fault (Err engine_error.Memory) result is = λ fault. let P : Result Output Stop → Type 0 = IsStoreFault in subst P is fault

-- the table of a name that a look found
pub record There (tables : Tables) (name : List ℕ) : Type 0 where
  pub accepted : AcceptedTable
  pub is : find_table tables name ≡ Some accepted

pub there : {A B : Type 0} (f : A → B) (show : AcceptedTable → B) (found : Option A) (tables : Tables) (name : List ℕ) → is_some found ≡ true → option_map f found ≡ option_map show (find_table tables name) → There tables name
there f show None tables name some is = absurd (cc some)
there f show (Some x) tables name some is = by (find_table tables name) refl is
  where
    by : (o : Option AcceptedTable) → find_table tables name ≡ o → Some (f x) ≡ option_map show o → There tables name
    by None e same = absurd (cc same)
    by (Some accepted) e same = record { accepted = accepted; is = e }

-- a table that is there is not missing
pub not_missing : {A B : Type 0} (f : A → B) (show : AcceptedTable → B) (found : Option A) (tables : Tables) (name : List ℕ) → is_some found ≡ true → option_map f found ≡ option_map show (find_table tables name) → has_table tables name ≡ false → ⊥
not_missing f show found tables name some is missing = let table = there f show found tables name some is in absurd (cc (ap (λ (o : Option AcceptedTable). is_some o) (sym table.is) ∙ missing))

-- tables, and no files
abbrev pub without_files : Tables → State
without_files tables = record { tables = tables; files = λ name. None }
