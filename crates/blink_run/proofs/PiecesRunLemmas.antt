-- What pieces give, one behind the other.
use Rattle.std.proofs.Common.{◌≡◌, ◌∙◌, ◌≤◌, ◌<◌, ◌+◌, inl, inr, ℕ, Bool, true, false, ◌||◌, List, [], ◌∷◌, ◌++◌, length, map, take, drop, get_or, take-append-drop, Option, refl, sym, ap, subst, append-nil, append_assoc, arith, length-append}
use Rattle.std.specs.List.{concat}
use Rattle.std.specs.Io.KnownBytes.{Appends}
use Rattle.std.proofs.KnownBytes.{Appends-nil, Appends-trans}
use Rattle.std.proofs.lemmas.Bool.{cases_lt}
use Rattle.std.proofs.lemmas.List.{map-append, map_more}
use Rattle.std.proofs.lemmas.List.Folds.{concat-append, list_any-append}
use Rattle.blink_base.specs.declared.limits.Limits.{Limits}
use Rattle.blink_edge.specs.Causes.{Rose}
use Rattle.blink_edge.specs.Files as store
use Rattle.star_sql.specs.PieceStatement.{is_passed_over}
use Rattle.star_engine.specs.declared.engine.Engine.{Engine}
use Rattle.star_engine.specs.State.{State}
use Rattle.star_engine.specs.Step.{Outcome, step, piece_asks_store}
use Rattle.report_text.specs.Texts.{Bytes}
use Rattle.blink_run.specs.Script.{Runs, ends, passes, steps, Begins, Asks, NeverAsks, left_by, outputs_of}
use Rattle.std.specs.Prelude.{Result, Ok, Err, IsErrAnd, IfErr}
use Rattle.blink_run.specs.declared.output.Stop.{Stop}
use Rattle.blink_run.specs.declared.output.Stop.TheVariants as stop
use Rattle.blink_run.specs.PiecesRun.{SinkView, GivesAll, Stands, IsStep, AreRun, AreAnswered, AreLeft, AreCut, AreAsking, AreStopped}
use Rattle.blink_run.specs.StatementOutput.{IsPiece, IsAsking}
use Rattle.blink_run.proofs.OutcomeLemmas.{Runs-append}

-- nothing is given
pub gives_nothing : (x : SinkView) → GivesAll x x []
gives_nothing x = record { given = Appends-nil x.bytes; quiet = refl; sure = λ enough. omega arith }

-- bytes are given behind bytes
pub GivesAll-trans : (a b c : SinkView) (xs ys : Bytes) → GivesAll a b xs → GivesAll b c ys → GivesAll a c (xs ++ ys)
GivesAll-trans a b c xs ys p q =
    let long = length-append xs ys in
    record {
      given = Appends-trans _ _ _ xs ys p.given q.given;
      quiet = q.quiet ∙ p.quiet;
      sure = λ (enough : length (xs ++ ys) ≤ a.room).
          let room = p.sure (omega arith) in
          let more = q.sure (omega arith) in
          omega arith;
    }

-- what outcomes print, one behind the other
pub printed-append : (x y : List Outcome) → concat (outputs_of (x ++ y)) ≡ concat (outputs_of x) ++ concat (outputs_of y)
printed-append x y = ap concat (map-append (λ (o : Outcome). o.printed) x y) ∙ concat-append (outputs_of x) (outputs_of y)

-- what outcomes leave, one behind the other
pub left_by-append : (state : State) (x y : List Outcome) → left_by state (x ++ y) ≡ left_by (left_by state x) y
left_by-append state [] y = refl
left_by-append state (o ∷ x) y = left_by-append o.state x y

-- the pieces before, between and behind
split_parts : (first done left more : List Bytes) (second : List Bytes) → second ≡ done ++ left → (first ++ second) ++ more ≡ (first ++ done) ++ (left ++ more)
split_parts first done left more second parts =
    ap (λ s. (first ++ s) ++ more) parts ∙ ap (λ s. s ++ more) (sym (append_assoc first done left)) ∙ append_assoc (first ++ done) left more

-- some first pieces, behind others that were run
pub begins_behind : (limits : Limits) (stay : Bool) (state : State) (first second more : List Bytes) (x y : List Outcome)
    → Runs limits stay state first x → Begins limits stay (left_by state x) second y → Begins limits stay state ((first ++ second) ++ more) (x ++ y)
begins_behind limits stay state first second more x y p q = record {
  done = first ++ q.done;
  left = q.left ++ more;
  parts = split_parts first q.done q.left more second q.parts;
  runs = Runs-append limits stay state first q.done x y p q.runs;
}

-- pieces are run behind pieces
abbrev pub run_behind : (limits : Limits) (stay : Bool) (state : State) (first second : List Bytes) (a b c : SinkView) (r q : Bool)
    → (one : AreRun limits stay state first a b r) → AreRun limits stay (left_by state one.outcomes) second b c q → AreRun limits stay state (first ++ second) a c (r || q)
run_behind limits stay state first second a b c r q one two =
    record {
      outcomes = one.outcomes ++ two.outcomes;
      runs = Runs-append limits stay state first second one.outcomes two.outcomes one.runs two.runs;
      given = rw (printed-append one.outcomes two.outcomes) (GivesAll-trans a b c _ _ one.given two.given);
      any = rw (one.any, two.any) (sym (list_any-append (λ (o : Outcome). o.refused) one.outcomes two.outcomes));
    }

-- pieces are answered behind pieces
pub answered_behind : {M : Type 0} (limits : Limits) (told_files : Option store.Files) (stay : Bool) (state : State) (first second : List Bytes) (a b c : SinkView) (r q : Bool) (between after : Engine M)
    → (one : AreAnswered limits told_files stay state first a b r between) → AreAnswered limits told_files stay (left_by state one.run.outcomes) second b c q after
    → AreAnswered limits told_files stay state (first ++ second) a c (r || q) after
answered_behind {M} limits told_files stay state first second a b c r q between after one two =
    record {
      run = run_behind limits stay state first second a b c r q one.run two.run;
      stands = subst (λ (s : State). Stands {M = M} limits told_files s after) (sym (left_by-append state one.run.outcomes two.run.outcomes)) two.stands;
    }

-- some first pieces are left behind pieces
pub left_behind : (limits : Limits) (stay : Bool) (state : State) (first second more : List Bytes) (a b c : SinkView) (r : Bool)
    → (one : AreRun limits stay state first a b r) → AreLeft limits stay (left_by state one.outcomes) second b c → AreLeft limits stay state ((first ++ second) ++ more) a c
left_behind limits stay state first second more a b c r one two =
    record {
      outcomes = one.outcomes ++ two.outcomes;
      begins = begins_behind limits stay state first second more one.outcomes two.outcomes one.runs two.begins;
      given = rw (printed-append one.outcomes two.outcomes) (GivesAll-trans a b c _ _ one.given two.given);
    }

-- a statement that asks the store, among more pieces
pub asks_more : (limits : Limits) (stay : Bool) (state : State) (texts more : List Bytes) (outcomes : List Outcome)
    → Asks limits stay state texts outcomes → Asks limits stay state (texts ++ more) outcomes
asks_more limits stay state texts more outcomes q = record {
  done = q.done;
  text = q.text;
  left = q.left ++ more;
  said = q.said;
  parts = ap (λ ts. ts ++ more) q.parts ∙ append_assoc q.done (q.text ∷ q.left) more;
  runs = q.runs;
  spoken = q.spoken;
  says = q.says;
  asks = q.asks;
}

-- behind pieces
pub asks_behind : (limits : Limits) (stay : Bool) (state : State) (first second : List Bytes) (x y : List Outcome)
    → Runs limits stay state first x → Asks limits stay (left_by state x) second y → Asks limits stay state (first ++ second) (x ++ y)
asks_behind limits stay state first second x y runs q = record {
  done = first ++ q.done;
  text = q.text;
  left = q.left;
  said = q.said;
  parts = ap (λ ts. first ++ ts) q.parts ∙ sym (append_assoc first q.done (q.text ∷ q.left));
  runs = Runs-append limits stay state first q.done x y runs q.runs;
  spoken = q.spoken;
  says = q.says;
  asks = ap (λ (s : State). piece_asks_store s.tables q.said) (left_by-append state x y) ∙ q.asks;
}

-- pieces of which none asks the store, before more and behind others
pub never_before : (limits : Limits) (stay : Bool) (state : State) (texts more : List Bytes) → NeverAsks limits stay state (texts ++ more) → NeverAsks limits stay state texts
never_before limits stay state texts more never outcomes asks = never outcomes (asks_more limits stay state texts more outcomes asks)

pub never_behind : (limits : Limits) (stay : Bool) (state : State) (first second : List Bytes) (x : List Outcome)
    → Runs limits stay state first x → NeverAsks limits stay state (first ++ second) → NeverAsks limits stay (left_by state x) second
never_behind limits stay state first second x runs never y asks = never (x ++ y) (asks_behind limits stay state first second x y runs asks)

-- a piece alone that does not ask the store
pub never_first : (limits : Limits) (stay : Bool) (state : State) (text : Bytes) → NeverAsks limits stay state (text ∷ []) → ¬ (IsAsking state text)
never_first limits stay state text never p =
    never [] (record { done = []; text = text; left = []; said = p.said; parts = refl; runs = ends state; spoken = p.spoken; says = p.says; asks = p.asks })

-- a statement that asks the store stands behind pieces
pub asking_behind : (limits : Limits) (stay : Bool) (state : State) (first second more : List Bytes) (a b c : SinkView) (r : Bool)
    → (one : AreRun limits stay state first a b r) → AreAsking limits stay (left_by state one.outcomes) second b c → AreAsking limits stay state ((first ++ second) ++ more) a c
asking_behind limits stay state first second more a b c r one two =
    record {
      outcomes = one.outcomes ++ two.outcomes;
      asks = asks_more limits stay state (first ++ second) more _ (asks_behind limits stay state first second one.outcomes two.outcomes one.runs two.asks);
      given = rw (printed-append one.outcomes two.outcomes) (GivesAll-trans a b c _ _ one.given two.given);
    }

-- the room is too small for what was given before and what is given now
pub full_behind : (a b : SinkView) (xs : Bytes) (n : ℕ) → GivesAll a b xs → b.room < n → a.room < length xs + n
full_behind a b xs n p full =
    elim (cases_lt a.room (length xs)) [
      | inl less ↦ omega arith
      | inr enough ↦ (let room = p.sure enough in omega arith)
    ]

-- no room is too small
pub too_small : (n room : ℕ) → (n ≤ room → ⊥) → room < n
too_small n room never = elim (cases_lt room n) [ inl less ↦ less | inr enough ↦ absurd (never enough) ]

-- an output is cut behind pieces
pub cut_behind : (limits : Limits) (stay : Bool) (state : State) (first second more : List Bytes) (a b c : SinkView) (r : Bool)
    → (one : AreRun limits stay state first a b r) → AreCut limits stay (left_by state one.outcomes) second b c → AreCut limits stay state ((first ++ second) ++ more) a c
cut_behind limits stay state first second more a b c r one two =
    let x = one.outcomes in
    let y = two.outcomes in
    let printed = printed-append x y in
    let long = length-append (concat (outputs_of x)) (concat (outputs_of y)) in
    let full = full_behind a b (concat (outputs_of x)) _ one.given two.full in
    record {
      outcomes = x ++ y;
      next = two.next;
      begins = rw (append_assoc x y (two.next ∷ [])) (begins_behind limits stay state first second more x (y ++ two.next ∷ []) one.runs two.begins);
      part = two.part;
      within = two.within;
      given = rw (printed, append_assoc (concat (outputs_of x)) (concat (outputs_of y)) (take two.part two.next.printed)) (Appends-trans _ _ _ (concat (outputs_of x)) _ one.given.given two.given);
      rose = rw (← one.given.quiet) two.rose;
      later = (let l = one.given.quiet in let m = two.later in omega arith);
      full = rw printed (omega arith);
    }

-- the run stops behind pieces
pub stopped_behind : (limits : Limits) (stay : Bool) (state : State) (first second more : List Bytes) (a b c : SinkView) (r : Bool) (why : Stop)
    → (one : AreRun limits stay state first a b r) → AreStopped limits stay (left_by state one.outcomes) second b c why → AreStopped limits stay state ((first ++ second) ++ more) a c why
stopped_behind limits stay state first second more a b c r stop.Memory one two = left_behind limits stay state first second more a b c r one two
stopped_behind limits stay state first second more a b c r stop.Sink one two = cut_behind limits stay state first second more a b c r one two
stopped_behind limits stay state first second more a b c r stop.Store one two = asking_behind limits stay state first second more a b c r one two

-- what holds of an error that is passed on
pub IfErr-from_is : {T E : Type 0} (r : Result T E) (Q P : E → Type 0) → IsErrAnd r Q → ((e : E) → Q e → P e) → IfErr r P
IfErr-from_is (Ok x) Q P is each = tt
IfErr-from_is (Err e) Q P is each = each e is

-- no piece is answered yet
pub none_answered : {M : Type 0} (limits : Limits) (told_files : Option store.Files) (stay : Bool) (state : State) (x : SinkView) (engine : Engine M) → Stands limits told_files state engine → AreAnswered limits told_files stay state [] x x false engine
none_answered limits told_files stay state x engine stands = record { run = record { outcomes = []; runs = ends state; given = gives_nothing x; any = refl }; stands = stands }

-- a piece that is passed over gives nothing
pub passed_answered : {M : Type 0} (limits : Limits) (told_files : Option store.Files) (stay : Bool) (state : State) (text : Bytes) (x : SinkView) (engine : Engine M) → is_passed_over text ≡ true → Stands limits told_files state engine
    → AreAnswered limits told_files stay state (text ∷ []) x x false engine
passed_answered limits told_files stay state text x engine passed stands =
    record { run = record { outcomes = []; runs = passes state text [] [] passed (ends state); given = gives_nothing x; any = refl }; stands = stands }

-- all pieces are left
pub all_left : (limits : Limits) (stay : Bool) (state : State) (texts : List Bytes) (x : SinkView) → AreLeft limits stay state texts x x
all_left limits stay state texts x = record { outcomes = []; begins = record { done = []; left = texts; parts = refl; runs = ends state }; given = gives_nothing x }

-- the first piece asks the store
pub first_asks : (limits : Limits) (stay : Bool) (state : State) (text : Bytes) (x : SinkView) → IsAsking state text → AreAsking limits stay state (text ∷ []) x x
first_asks limits stay state text x p = record {
  outcomes = [];
  asks = record { done = []; text = text; left = []; said = p.said; parts = refl; runs = ends state; spoken = p.spoken; says = p.says; asks = p.asks };
  given = gives_nothing x;
}

-- the outcome of a piece, alone
pub step_runs : (limits : Limits) (stay : Bool) (state : State) (text line : Bytes) (refused : Bool) (next : State) (p : IsStep limits stay state text line refused next) → Runs limits stay state (text ∷ []) (step limits p.found p.said ∷ [])
step_runs limits stay state text line refused next p = steps state p.found text p.said [] [] p.spoken p.says p.finds (ends _)

-- a statement's line was given
pub step_answered : {M : Type 0} (limits : Limits) (told_files : Option store.Files) (stay : Bool) (state : State) (text line : Bytes) (refused : Bool) (old new : SinkView) (engine : Engine M)
    → IsPiece limits told_files stay state text line refused engine → GivesAll old new line → AreAnswered limits told_files stay state (text ∷ []) old new refused engine
step_answered {M} limits told_files stay state text line refused old new engine p given = record {
  run = record {
    outcomes = step limits p.step.found p.step.said ∷ [];
    runs = step_runs limits stay state text line refused p.next p.step;
    given = rw (p.step.steps, append-nil line) given;
    any = rw p.step.steps (refused_once refused);
  };
  stands = subst (λ (o : Outcome). Stands {M = M} limits told_files o.state engine) (sym p.step.steps) p.stands;
}
  where
    refused_once : (b : Bool) → b ≡ (b || false)
    refused_once true = refl
    refused_once false = refl

-- a statement's line was cut
pub step_cut : {M : Type 0} (limits : Limits) (told_files : Option store.Files) (stay : Bool) (state : State) (text line : Bytes) (refused : Bool) (old new : SinkView) (engine : Engine M)
    → IsPiece limits told_files stay state text line refused engine
    → (k : ℕ) × (k < length line) × Appends old.bytes new.bytes (take k line) → Rose old.faults new.faults → old.faults ≤ new.faults → old.room < length line
    → AreCut limits stay state (text ∷ []) old new
step_cut limits told_files stay state text line refused old new engine p part rose later full = record {
  outcomes = [];
  next = step limits p.step.found p.step.said;
  begins = record { done = text ∷ []; left = []; parts = refl; runs = step_runs limits stay state text line refused p.next p.step };
  part = part.0;
  within = rw p.step.steps part.1;
  given = rw p.step.steps part.2;
  rose = rose;
  later = later;
  full = rw p.step.steps (omega arith);
}

-- one more piece
pub pieces_more : {X : Type 0} (f : X → Bytes) (xs : List X) (i : ℕ) (d : X) (text : Bytes) → i < length xs → text ≡ f (get_or xs i d)
    → map f (take i xs) ++ text ∷ [] ≡ map f (take (i + 1) xs)
pieces_more f xs i d text within is = rw is (sym (map_more f xs i d within))

-- the pieces up to one, and those behind it
pub pieces_split : {X : Type 0} (f : X → Bytes) (xs : List X) (i : ℕ) → map f (take i xs) ++ map f (drop i xs) ≡ map f xs
pieces_split f xs i = sym (map-append f (take i xs) (drop i xs)) ∙ ap (map f) (take-append-drop i xs)
