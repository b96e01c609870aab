-- What a script does, statement by statement. Source: this project's own.
use Rattle.std.specs.Prelude.{◌≡◌, Bool, true, false, List, [], ◌∷◌, ◌++◌, map, All, Ok}
use Rattle.std.specs.List.{list_any}
use Rattle.blink_base.specs.declared.limits.Limits.{Limits}
use Rattle.star_lex.specs.Pieces.{piece_texts}
use Rattle.star_sql.specs.declared.ast.Statement.TheVariants as statement
use Rattle.star_sql.specs.PieceStatement.{Said, Says, is_passed_over}
use Rattle.star_engine.specs.State.{Files, State}
use Rattle.star_engine.specs.Step.{Outcome, step, piece_asks_store}
use Rattle.report_text.specs.Texts.{Bytes}

-- before the first statement: no tables, and the given files
abbrev pub start : Files → State
start files = record { tables = []; files = files }

-- what a statement finds where the store tells its files: what was left; a store that tells none may hold other files by then
abbrev pub Finds : Bool → State → State → Type 0
Finds true left found = found ≡ left
Finds false left found = found.tables ≡ left.tables

-- The outcomes of pieces, from a state: a piece without a token or a fault is passed over; every other is one statement, whose outcome is the step of what it says, from what it finds.
pub data Runs (limits : Limits) (stay : Bool) : State → List Bytes → List Outcome → Type 0 where
  ends : (state : State) → Runs limits stay state [] []
  passes : (state : State) (text : Bytes) (texts : List Bytes) (outcomes : List Outcome)
      → is_passed_over text ≡ true → Runs limits stay state texts outcomes → Runs limits stay state (text ∷ texts) outcomes
  steps : (state found : State) (text : Bytes) (said : Said) (texts : List Bytes) (outcomes : List Outcome)
      → is_passed_over text ≡ false → Says text said → Finds stay state found
      → Runs limits stay (step limits found said).state texts outcomes
      → Runs limits stay state (text ∷ texts) (step limits found said ∷ outcomes)

-- the outcomes of a script: those of its pieces, from no tables and the given files
abbrev pub ScriptRuns : Limits → Bool → Files → Bytes → List Outcome → Type 0
ScriptRuns limits stay files script outcomes = Runs limits stay (start files) (piece_texts script) outcomes

-- the outcomes of some first pieces
pub record Begins (limits : Limits) (stay : Bool) (state : State) (texts : List Bytes) (outcomes : List Outcome) : Type 0 where
  pub done : List Bytes
  pub left : List Bytes
  pub parts : texts ≡ done ++ left
  pub runs : Runs limits stay state done outcomes

-- the outcomes of some first pieces of a script
abbrev pub ScriptBegins : Limits → Bool → Files → Bytes → List Outcome → Type 0
ScriptBegins limits stay files script outcomes = Begins limits stay (start files) (piece_texts script) outcomes

-- one output per statement
abbrev pub outputs_of : List Outcome → List Bytes
outputs_of outcomes = map (λ o. o.printed) outcomes

-- whether some statement was refused
abbrev pub is_any_refused : List Outcome → Bool
is_any_refused outcomes = list_any (λ o. o.refused) outcomes

-- the state that outcomes leave, from a state before them
abbrev pub left_by : State → List Outcome → State
left_by state [] = state
left_by state (o ∷ outcomes) = left_by o.state outcomes

-- the outcomes of some first pieces; the next one is a statement that asks the store
pub record Asks (limits : Limits) (stay : Bool) (state : State) (texts : List Bytes) (outcomes : List Outcome) : Type 0 where
  pub done : List Bytes
  pub text : Bytes
  pub left : List Bytes
  pub said : Said
  pub parts : texts ≡ done ++ text ∷ left
  pub runs : Runs limits stay state done outcomes
  pub spoken : is_passed_over text ≡ false
  pub says : Says text said
  pub asks : piece_asks_store (left_by state outcomes).tables said ≡ true

-- the same of the pieces of a script
abbrev pub ScriptAsks : Limits → Bool → Files → Bytes → List Outcome → Type 0
ScriptAsks limits stay files script outcomes = Asks limits stay (start files) (piece_texts script) outcomes

-- no statement of the pieces asks the store, whatever the statements before it find
abbrev pub NeverAsks : Limits → Bool → State → List Bytes → Type 0
NeverAsks limits stay state texts = (outcomes : List Outcome) → ¬ (Asks limits stay state texts outcomes)

-- no statement of a script asks the store
abbrev pub ScriptNeverAsks : Limits → Bool → Files → Bytes → Type 0
ScriptNeverAsks limits stay files script = NeverAsks limits stay (start files) (piece_texts script)

-- The law that a script over a store that tells its files has one list of outcomes.
abbrev pub RunsOneWay : Type 0
RunsOneWay = (limits : Limits) (files : Files) (script : Bytes) (x y : List Outcome) → ScriptRuns limits true files script x → ScriptRuns limits true files script y → x ≡ y

-- whether a piece is a statement that names a file: LOAD, APPEND, EXPORT or IMPORT
abbrev pub names_file : Said → Bool
names_file (Ok (statement.Load name file)) = true
names_file (Ok (statement.Append name file)) = true
names_file (Ok (statement.Export name file)) = true
names_file (Ok (statement.Import name file)) = true
names_file _ = false

-- The law that pieces of which none names a file never ask the store.
abbrev pub FilesAreNamed : Type 0
FilesAreNamed = (limits : Limits) (stay : Bool) (state : State) (texts : List Bytes)
    → All (λ text. (said : Said) → Says text said → names_file said ≡ false) texts → NeverAsks limits stay state texts
