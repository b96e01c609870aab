-- The outcomes of pieces, one behind the other.
use Rattle.std.proofs.Common.{◌≡◌, ◌∙◌, ◌⊎◌, inl, inr, Bool, true, false, List, [], ◌∷◌, ◌++◌, refl, sym, ap, subst, append-nil}
use Rattle.std.specs.Prelude.{Result, Ok, Err}
use Rattle.std.specs.Bool.{MatchBool}
use Rattle.blink_base.specs.declared.limits.Limits.{Limits}
use Rattle.blink_base.specs.declared.refusal.Refusal.TheVariants as refusal
use Rattle.star_lex.specs.declared.token.Token.{Token}
use Rattle.star_lex.specs.declared.token.LexFault.{LexFault}
use Rattle.star_lex.specs.Lex.{lexed}
use Rattle.star_lex.specs.Pieces.{piece_texts}
use Rattle.star_sql.specs.Spelling.{Spelled}
use Rattle.star_lex.specs.Kinds.{kinds_of}
use Rattle.star_sql.specs.ParseResult.{is_deep, SpelledOnce}
use Rattle.star_sql.specs.PieceStatement.{Said, Says, SaysKinds, SaysTokens, is_passed_over}
use Rattle.star_engine.specs.State.{State}
use Rattle.star_engine.specs.Step.{Outcome, step}
use Rattle.report_text.specs.Texts.{Bytes}
use Rattle.blink_run.specs.Script.{Runs, ends, passes, steps, Finds, left_by, start, RunsOneWay}

-- kinds say one thing: a statement and a refusal are never said both, and a spelling is one statement's
one_of_kinds : SpelledOnce → (kinds : Spelled) (x y : Said) → SaysKinds kinds x → SaysKinds kinds y → x ≡ y
one_of_kinds once kinds (Ok s) (Ok t) p q = ap Ok (once s t p.formed q.formed (p.spelled ∙ sym q.spelled))
one_of_kinds once kinds (Ok s) (Err why) p q = absurd (q.1 s p)
one_of_kinds once kinds (Err why) (Ok t) p q = absurd (p.1 t q)
one_of_kinds once kinds (Err why) (Err other) p q = ap Err (p.0 ∙ sym q.0)

-- tokens say one thing
one_of_tokens : SpelledOnce → (read : Result (List Token) LexFault) (x y : Said) → SaysTokens read x → SaysTokens read y → x ≡ y
one_of_tokens once (Err fault) x y p q = p ∙ sym q
one_of_tokens once (Ok tokens) x y p q = by_depth (is_deep (kinds_of tokens)) p q
  where
    by_depth : (deep : Bool) → MatchBool deep (x ≡ Err refusal.TooDeep) (SaysKinds (kinds_of tokens) x) → MatchBool deep (y ≡ Err refusal.TooDeep) (SaysKinds (kinds_of tokens) y) → x ≡ y
    by_depth true p q = p ∙ sym q
    by_depth false p q = one_of_kinds once (kinds_of tokens) x y p q

-- a piece says one thing
pub one_said : SpelledOnce → (text : Bytes) (x y : Said) → Says text x → Says text y → x ≡ y
one_said once text x y p q = one_of_tokens once (lexed text) x y p q

-- the pieces behind others go on from the state that those left
pub Runs-append : (limits : Limits) (stay : Bool) (state : State) (first second : List Bytes) (x y : List Outcome)
    → Runs limits stay state first x → Runs limits stay (left_by state x) second y → Runs limits stay state (first ++ second) (x ++ y)
Runs-append limits stay state first second x y (ends s) q = q
Runs-append limits stay state first second x y (passes s text texts outcomes passed p) q =
    passes s text (texts ++ second) (outcomes ++ y) passed (Runs-append limits stay s texts second outcomes y p q)
Runs-append limits stay state first second x y (steps s found text said texts outcomes spoken says finds p) q =
    steps s found text said (texts ++ second) (outcomes ++ y) spoken says finds (Runs-append limits stay (step limits found said).state texts second outcomes y p q)

-- how the outcome of a statement came about
pub record SteppedFrom (limits : Limits) (stay : Bool) (state : State) (text : Bytes) (texts : List Bytes) (all : List Outcome) : Type 0 where
  pub found : State
  pub said : Said
  pub rest : List Outcome
  pub spoken : is_passed_over text ≡ false
  pub says : Says text said
  pub finds : Finds stay state found
  pub runs : Runs limits stay (step limits found said).state texts rest
  pub are : all ≡ step limits found said ∷ rest

-- how the outcomes of pieces came about, by the pieces
abbrev pub RunsBy : Limits → Bool → State → List Bytes → List Outcome → Type 0
RunsBy limits stay state [] all = all ≡ []
RunsBy limits stay state (text ∷ texts) all = ((is_passed_over text ≡ true) × Runs limits stay state texts all) ⊎ SteppedFrom limits stay state text texts all

pub runs_by : (limits : Limits) (stay : Bool) (state : State) (texts : List Bytes) (all : List Outcome) → Runs limits stay state texts all → RunsBy limits stay state texts all
runs_by limits stay state texts all (ends s) = refl
runs_by limits stay state texts all (passes s text more outcomes passed p) = inl (passed, p)
runs_by limits stay state texts all (steps s found text said more outcomes spoken says finds p) =
    inr (record { found = found; said = said; rest = outcomes; spoken = spoken; says = says; finds = finds; runs = p; are = refl })

-- the outcomes of some first pieces are the first of all outcomes
pub record GoesOn (limits : Limits) (state : State) (left : List Bytes) (x all : List Outcome) : Type 0 where
  pub rest : List Outcome
  pub runs : Runs limits true (left_by state x) left rest
  pub are : all ≡ x ++ rest

pub goes_on : SpelledOnce → (limits : Limits) (state : State) (done left : List Bytes) (x all : List Outcome)
    → Runs limits true state done x → Runs limits true state (done ++ left) all → GoesOn limits state left x all
goes_on once limits state done left x all (ends s) q = record { rest = all; runs = q; are = refl }
goes_on once limits state done left x all (passes s text texts outcomes passed p) q =
    elim (runs_by limits true s (text ∷ texts ++ left) all q) [
      | inl (also, r) ↦ goes_on once limits s texts left outcomes all p r
      | inr f ↦ (let spoken = f.spoken in absurd (cc (passed, spoken)))
    ]
goes_on once limits state done left x all (steps s found text said texts outcomes spoken says finds p) q =
    elim (runs_by limits true s (text ∷ texts ++ left) all q) [
      | inl (passed, r) ↦ absurd (cc (passed, spoken))
      | inr f ↦
          let one : f.said ≡ said = one_said once text f.said said f.says says in
          let from : f.found ≡ found = f.finds ∙ sym finds in
          let same : step limits f.found f.said ≡ step limits found said = λ i. step limits (from i) (one i) in
          let next : Runs limits true (step limits found said).state (texts ++ left) f.rest = subst (λ (o : Outcome). Runs limits true o.state (texts ++ left) f.rest) same f.runs in
          let on = goes_on once limits (step limits found said).state texts left outcomes f.rest p next in
          record { rest = on.rest; runs = on.runs; are = f.are ∙ ap (λ o. o ∷ f.rest) same ∙ ap (λ os. step limits found said ∷ os) on.are }
    ]

-- a script over a store that tells its files has one list of outcomes
pub runs_one_way : SpelledOnce → RunsOneWay
runs_one_way once limits files script x y p q =
    let texts = piece_texts script in
    let on = goes_on once limits (start files) texts [] x y p (subst (λ (ts : List Bytes). Runs limits true (start files) ts y) (sym (append-nil texts)) q) in
    let none : on.rest ≡ [] = runs_by limits true (left_by (start files) x) [] on.rest on.runs in
    sym (on.are ∙ ap (λ r. x ++ r) none ∙ append-nil x)
