-- A record that a reader gives is the next of the text, and the records behind it are those of what is left.
use Rattle.std.proofs.Common.{Option, ◌+◌, add-one, ap, ◌≡◌, ◌≤◌, ◌<◌, ℕ, zero, suc, List, [], ◌∷◌, ◌++◌, length, Some, None, Bool, true, false, cond, eqb, ◌&&◌, refl, length-append, arith}
use Rattle.csv.specs.Machine.{Read, ends_with, after_end, in_field, start_field, start_record, is_byte, step, ends_at_end, is_end, fields_after, field_after, next_record}
use Rattle.csv.specs.Reading.{records_from, Reached, records_next}
use Rattle.csv.specs.declared.parser.Config.{Config}
use Rattle.csv.specs.declared.parser.Terminator.{Terminator}
use Rattle.csv.specs.declared.parser.Terminator.TheVariants as term
use Rattle.csv.specs.declared.parser.State.{State}
use Rattle.csv.specs.declared.parser.State.TheVariants as st
use Rattle.csv.specs.declared.parser.Action.{Action}
use Rattle.csv.specs.declared.parser.Action.TheVariants as act
use Rattle.blink_loader.specs.RangeCount.{width_of}

-- a step that ends a record leaves a state between records
abbrev EndsWell : State × Action → Type 0
EndsWell p = is_end p.1 ≡ true → ends_at_end p.0 ≡ false

chosen : (b : Bool) (p q : State × Action) → EndsWell p → EndsWell q → EndsWell (cond b p q)
chosen true p q f g = f
chosen false p q f g = g

after_end-between : (t : Terminator) (c : ℕ) → ends_at_end (after_end t c) ≡ false
after_end-between term.CRLF c = by (eqb c 13)
  where
    by : (b : Bool) → ends_at_end (cond b st.AfterCr st.StartRecord) ≡ false
    by true = refl
    by false = refl
after_end-between (term.Any t) c = refl

in_field-ends : (cfg : Config) (c : ℕ) → EndsWell (in_field cfg c)
in_field-ends cfg c =
    chosen (eqb c cfg.delimiter) _ _ (λ e. cc)
    (chosen (ends_with cfg.terminator c) _ _ (λ e. after_end-between cfg.terminator c) (λ e. cc))

start_field-ends : (cfg : Config) (c : ℕ) → EndsWell (start_field cfg c)
start_field-ends cfg c = chosen (cfg.quoting && eqb c cfg.quote) _ _ (λ e. cc) (in_field-ends cfg c)

start_record-ends : (cfg : Config) (c : ℕ) → EndsWell (start_record cfg c)
start_record-ends cfg c =
    chosen (ends_with cfg.terminator c) _ _ (λ e. cc)
    (chosen (is_byte cfg.comment c) _ _ (λ e. cc) (start_field-ends cfg c))

step-ends : (cfg : Config) (s : State) (c : ℕ) → EndsWell (step cfg s c)
step-ends cfg st.StartRecord c = start_record-ends cfg c
step-ends cfg st.StartField c = start_field-ends cfg c
step-ends cfg st.InField c = in_field-ends cfg c
step-ends cfg st.InQuoted c =
    chosen (cfg.quoting && eqb c cfg.quote) _ _ (λ e. cc)
    (chosen (cfg.quoting && is_byte cfg.escape c) _ _ (λ e. cc) (λ e. cc e))
step-ends cfg st.InEscape c = λ e. cc e
step-ends cfg st.AfterQuote c = chosen (cfg.quoting && cfg.double_quote && eqb c cfg.quote) _ _ (λ e. cc) (in_field-ends cfg c)
step-ends cfg st.InComment c = chosen (eqb c 10) _ _ (λ e. cc) (λ e. cc e)
step-ends cfg st.AfterCr c = chosen (eqb c 10) _ _ (λ e. cc) (start_record-ends cfg c)

-- a record leaves no more bytes than there were, and a state between records
record_leaves : (cfg : Config) (s : State) (fields : List (List ℕ)) (field xs : List ℕ) (p : Read) → next_record cfg s fields field xs ≡ Some p
    → (length p.2 ≤ length xs) × (ends_at_end p.1 ≡ false)
unfolding next_record
record_leaves cfg s fields field [] p e = by (ends_at_end s) e
  where
    by : (b : Bool) → cond b (Some (fields ++ (field ∷ []), st.StartRecord, [])) None ≡ Some p → (length p.2 ≤ 0) × (ends_at_end p.1 ≡ false)
    by true is = let same : (fields ++ (field ∷ []), st.StartRecord, []) ≡ p = cc in rw (← same) (omega arith, refl)
    by false is = cc is
record_leaves cfg s fields field (c ∷ rest) p e = by (is_end (step cfg s c).1) refl (record_leaves cfg (step cfg s c).0 _ _ rest p) e
  where
    by : (b : Bool) → is_end (step cfg s c).1 ≡ b
        → (next_record cfg (step cfg s c).0 (fields_after (step cfg s c).1 fields field) (field_after (step cfg s c).1 c field) rest ≡ Some p
        → (length p.2 ≤ length rest) × (ends_at_end p.1 ≡ false))
        → cond b (Some (fields_after (step cfg s c).1 fields field, (step cfg s c).0, rest))
        (next_record cfg (step cfg s c).0 (fields_after (step cfg s c).1 fields field) (field_after (step cfg s c).1 c field) rest) ≡ Some p
        → (length p.2 ≤ suc (length rest)) × (ends_at_end p.1 ≡ false)
    by true end go is =
        let same : (fields_after (step cfg s c).1 fields field, (step cfg s c).0, rest) ≡ p = cc in
        rw (← same) (omega arith, step-ends cfg s c end)
    by false end go is = let more = go is in (omega (arith, more.0), more.1)

-- from a state between records, a record takes a byte at least
record_takes : (cfg : Config) (s : State) (xs : List ℕ) (p : Read) → ends_at_end s ≡ false → next_record cfg s [] [] xs ≡ Some p
    → (length p.2 < length xs) × (ends_at_end p.1 ≡ false)
unfolding next_record
record_takes cfg s [] p between e = cc (rw between at e)
record_takes cfg s (c ∷ rest) p between e = by (is_end (step cfg s c).1) refl e
  where
    by : (b : Bool) → is_end (step cfg s c).1 ≡ b
        → cond b (Some (fields_after (step cfg s c).1 [] [], (step cfg s c).0, rest))
        (next_record cfg (step cfg s c).0 (fields_after (step cfg s c).1 [] []) (field_after (step cfg s c).1 c []) rest) ≡ Some p
        → (length p.2 < suc (length rest)) × (ends_at_end p.1 ≡ false)
    by true end is =
        let same : (fields_after (step cfg s c).1 [] [], (step cfg s c).0, rest) ≡ p = cc in
        rw (← same) (omega arith, step-ends cfg s c end)
    by false end is =
        let more = record_leaves cfg (step cfg s c).0 _ _ rest p is in
        (omega (arith, more.0), more.1)

-- how many records may be read makes no difference, where it is more than the bytes
pub same_records : (cfg : Config) (n m : ℕ) (s : State) (xs : List ℕ) → ends_at_end s ≡ false → length xs < n → length xs < m → records_from cfg n s xs ≡ records_from cfg m s xs
unfolding records_from
same_records cfg zero m s xs between e f = absurd (omega (arith, e))
same_records cfg (suc n) zero s xs between e f = absurd (omega (arith, f))
same_records cfg (suc n) (suc m) s xs between e f = by (next_record cfg s [] [] xs) (λ p is. let t = record_takes cfg s xs p between is in same_records cfg n m p.1 p.2 t.1 (omega (arith, t.0, e)) (omega (arith, t.0, f))) refl
  where
    by : (o : Option Read) → ((p : Read) → next_record cfg s [] [] xs ≡ Some p → records_from cfg n p.1 p.2 ≡ records_from cfg m p.1 p.2)
        → next_record cfg s [] [] xs ≡ o → records_next (records_from cfg n) o ≡ records_next (records_from cfg m) o
    by None go is = refl
    by (Some p) go is = ap (λ rest. p.0 ∷ rest) (go p is)

-- one record taken
pub record_taken : (cfg : Config) (s s2 : State) (xs z : List ℕ) (row : List (List ℕ)) → ends_at_end s ≡ false → Reached cfg s xs (row ∷ []) s2 z
    → (ends_at_end s2 ≡ false) × (records_from cfg (length xs + 1) s xs ≡ row ∷ records_from cfg (length z + 1) s2 z)
unfolding Reached records_from
record_taken cfg s s2 xs z row between reached =
    let p = reached.0 in
    let takes = record_takes cfg s xs p between reached.1 in
    let state : p.1 ≡ s2 = reached.3.0 in
    let rest : p.2 ≡ z = reached.3.1 in
    let same = same_records cfg (length xs) (length p.2 + 1) p.1 p.2 takes.1 takes.0 (omega arith) in
    (rw (← state) takes.1, rw (add-one, reached.1, reached.2, same, state, rest) refl)

-- no record is left
pub none_left : (cfg : Config) (s : State) (xs : List ℕ) → next_record cfg s [] [] xs ≡ None → records_from cfg (length xs + 1) s xs ≡ []
unfolding records_from
none_left cfg s xs none = rw (add-one, none) refl

-- there are no more records than may be read
pub records_at_most : (cfg : Config) (n : ℕ) (s : State) (xs : List ℕ) → length (records_from cfg n s xs) ≤ n
unfolding records_from
records_at_most cfg zero s xs = omega arith
records_at_most cfg (suc n) s xs = by (next_record cfg s [] [] xs) (λ p. records_at_most cfg n p.1 p.2)
  where
    by : (o : Option Read) → ((p : Read) → length (records_from cfg n p.1 p.2) ≤ n) → length (records_next (records_from cfg n) o) ≤ suc n
    by None go = omega arith
    by (Some p) go = let rest = go p in omega arith

-- a step adds at most a field
one_field : (a : Action) (fields : List (List ℕ)) (field : List ℕ) → length (fields_after a fields field) ≤ length fields + 1
one_field act.EndField fields field = omega (arith, length-append fields (field ∷ []))
one_field act.Skip fields field = omega arith
one_field act.Copy fields field = omega arith
one_field act.EndRecord fields field = omega (arith, length-append fields (field ∷ []))

-- a record adds at most a field for each byte, and one
fields_at_most : (cfg : Config) (s : State) (fields : List (List ℕ)) (field xs : List ℕ) (p : Read) → next_record cfg s fields field xs ≡ Some p
    → length p.0 ≤ length fields + length xs + 1
unfolding next_record
fields_at_most cfg s fields field [] p e = by (ends_at_end s) e
  where
    by : (b : Bool) → cond b (Some (fields ++ (field ∷ []), st.StartRecord, [])) None ≡ Some p → length p.0 ≤ length fields + 0 + 1
    by true is = let same : (fields ++ (field ∷ []), st.StartRecord, []) ≡ p = cc in rw (← same) (omega (arith, length-append fields (field ∷ [])))
    by false is = cc is
fields_at_most cfg s fields field (c ∷ rest) p e = by (is_end (step cfg s c).1) (fields_at_most cfg (step cfg s c).0 _ _ rest p) e
  where
    by : (b : Bool)
        → (next_record cfg (step cfg s c).0 (fields_after (step cfg s c).1 fields field) (field_after (step cfg s c).1 c field) rest ≡ Some p
        → length p.0 ≤ length (fields_after (step cfg s c).1 fields field) + length rest + 1)
        → cond b (Some (fields_after (step cfg s c).1 fields field, (step cfg s c).0, rest))
        (next_record cfg (step cfg s c).0 (fields_after (step cfg s c).1 fields field) (field_after (step cfg s c).1 c field) rest) ≡ Some p
        → length p.0 ≤ length fields + suc (length rest) + 1
    by true go is =
        let one = one_field (step cfg s c).1 fields field in
        let same : (fields_after (step cfg s c).1 fields field, (step cfg s c).0, rest) ≡ p = cc in
        rw (← same) (omega arith)
    by false go is = let one = one_field (step cfg s c).1 fields field in let more = go is in omega arith

-- the first record has no more fields than there are bytes, and one
pub width_at_most : (cfg : Config) (n : ℕ) (s : State) (xs : List ℕ) → width_of (records_from cfg n s xs) ≤ length xs + 1
unfolding records_from
width_at_most cfg zero s xs = omega arith
width_at_most cfg (suc n) s xs = by (next_record cfg s [] [] xs) (λ p is. fields_at_most cfg s [] [] xs p is) refl
  where
    by : (o : Option Read) → ((p : Read) → next_record cfg s [] [] xs ≡ Some p → length p.0 ≤ 0 + length xs + 1)
        → next_record cfg s [] [] xs ≡ o → width_of (records_next (records_from cfg n) o) ≤ length xs + 1
    by None go is = omega arith
    by (Some p) go is = let most = go p is in omega arith
