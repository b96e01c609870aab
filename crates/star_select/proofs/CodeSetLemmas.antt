-- Sets of codes of a class: those in two sets, and none where one is empty.
use Rattle.std.proofs.Common.{◌≡◌, ◌<◌, ◌==◌, ◌+◌, ℕ, Bool, true, false, ◌&&◌, ◌||◌, List, [], ◌∷◌, map, filter, length, slice_index_or, cond, refl, sym, ap, ◌∙◌, true≢false, arith}
use Rattle.std.specs.List.{list_any}
use Rattle.std.proofs.lemmas.Bool.{ne_eqb, eq-eqb, eqb-true}
use Rattle.blink_base.specs.declared.value.Value.{Value}
use Rattle.blink_lists.specs.Lists.{numbered_from}
use Rattle.page_synopsis.specs.Runs.{in_both}
use Rattle.cell_scan.specs.Match.{CodeSet, is_in, passes_all}
use Rattle.star_select.specs.Preconditions.{SetsMeet, EmptySetsPassNone}

-- the codes of the values that pass a test, counted from a code on
abbrev codes_from : (Value → Bool) → ℕ → List Value → List ℕ
codes_from q from values = map (λ p. p.0) (filter (λ p. q p.1) (numbered_from from values))

-- a lower code is none of them
lower-code : (q : Value → Bool) (code from : ℕ) (values : List Value) → code < from → list_any (λ y. y == code) (codes_from q from values) ≡ false
lower-code q code from [] l = refl
lower-code q code from (v ∷ values) l = by (q v) (lower-code q code (from + 1) values (omega (arith, l)))
  where
    by : (b : Bool) → list_any (λ y. y == code) (codes_from q (from + 1) values) ≡ false
        → list_any (λ y. y == code) (map (λ p. p.0) (cond b ((from, v) ∷ filter (λ p. q p.1) (numbered_from (from + 1) values)) (filter (λ p. q p.1) (numbered_from (from + 1) values)))) ≡ false
    by true more = λ i. ne_eqb from code (λ e. omega (arith, l, e)) i || more i
    by false more = more

-- codes above one are in a set with it where they are in the set without it
above-code : (code : ℕ) (codes : List ℕ) (p : Value → Bool) (from : ℕ) (values : List Value) → code < from → in_both (codes_from p from values) (code ∷ codes) ≡ in_both (codes_from p from values) codes
above-code code codes p from [] l = refl
above-code code codes p from (v ∷ values) l = by (p v) (above-code code codes p (from + 1) values (omega (arith, l)))
  where
    by : (b : Bool) → in_both (codes_from p (from + 1) values) (code ∷ codes) ≡ in_both (codes_from p (from + 1) values) codes
        → in_both (map (λ q. q.0) (cond b ((from, v) ∷ filter (λ q. p q.1) (numbered_from (from + 1) values)) (filter (λ q. p q.1) (numbered_from (from + 1) values)))) (code ∷ codes)
        ≡ in_both (map (λ q. q.0) (cond b ((from, v) ∷ filter (λ q. p q.1) (numbered_from (from + 1) values)) (filter (λ q. p q.1) (numbered_from (from + 1) values)))) codes
    by true more =
        let other : (code == from) ≡ false = ne_eqb code from (λ e. omega (arith, l, e)) in
        λ i. cond (other i || list_any (λ y. y == from) codes) (from ∷ more i) (more i)
    by false more = more

sets-meet : (p q : Value → Bool) (from : ℕ) (values : List Value) → in_both (codes_from p from values) (codes_from q from values) ≡ codes_from (λ v. p v && q v) from values
sets-meet p q from [] = refl
sets-meet p q from (v ∷ values) = by (p v) (q v) (sets-meet p q (from + 1) values)
  where
    by : (b c : Bool) → in_both (codes_from p (from + 1) values) (codes_from q (from + 1) values) ≡ codes_from (λ v. p v && q v) (from + 1) values
        → in_both (map (λ r. r.0) (cond b ((from, v) ∷ filter (λ r. p r.1) (numbered_from (from + 1) values)) (filter (λ r. p r.1) (numbered_from (from + 1) values))))
        (map (λ r. r.0) (cond c ((from, v) ∷ filter (λ r. q r.1) (numbered_from (from + 1) values)) (filter (λ r. q r.1) (numbered_from (from + 1) values))))
        ≡ map (λ r. r.0) (cond (b && c) ((from, v) ∷ filter (λ r. p r.1 && q r.1) (numbered_from (from + 1) values)) (filter (λ r. p r.1 && q r.1) (numbered_from (from + 1) values)))
    by true true more =
        let here : (from == from) ≡ true = eq-eqb from from refl in
        let rest = above-code from (codes_from q (from + 1) values) p (from + 1) values (omega arith) ∙ more in
        λ i. cond (here i || list_any (λ y. y == from) (codes_from q (from + 1) values)) (from ∷ rest i) (rest i)
    by true false more = λ i. cond (lower-code q from (from + 1) values (omega arith) i) (from ∷ more i) (more i)
    by false true more = above-code from (codes_from q (from + 1) values) p (from + 1) values (omega arith) ∙ more
    by false false more = more

pub sets_meet : SetsMeet
sets_meet p q values = sets-meet p q 0 values

no-code : (row : List ℕ) (set : CodeSet) → (length set.codes == 0) ≡ true → is_in row set ≡ false
no-code row set h = by set.codes (eqb-true (length set.codes) 0 h)
  where
    by : (codes : List ℕ) → length codes ≡ 0 → list_any (λ code. code == slice_index_or row set.column 0) codes ≡ false
    by [] e = refl
    by (c ∷ codes) e = absurd (omega (arith, e))

pub empty_sets_pass_none : EmptySetsPassNone
empty_sets_pass_none [] row h = absurd (true≢false (sym h))
empty_sets_pass_none (set ∷ sets) row h = by (length set.codes == 0) (no-code row set) h (empty_sets_pass_none sets row)
  where
    never : (a : Bool) → (a && false) ≡ false
    never true = refl
    never false = refl

    by : (b : Bool) → (b ≡ true → is_in row set ≡ false) → (b || list_any (λ other. length other.codes == 0) sets) ≡ true
        → (list_any (λ other. length other.codes == 0) sets ≡ true → passes_all sets row ≡ false) → (is_in row set && passes_all sets row) ≡ false
    by true none k more = ap (λ c. c && passes_all sets row) (none refl)
    by false none k more = ap (λ c. is_in row set && c) (more k) ∙ never (is_in row set)
