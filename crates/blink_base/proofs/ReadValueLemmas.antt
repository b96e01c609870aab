-- The values that texts say are good ones of their kinds.
use Rattle.std.proofs.Common.{◌≡◌, ◌≤◌, ◌<◌, ◌+◌, ◌*◌, ◌/◌, ◌%◌, ◌^◌, ℕ, zero, suc, ℤ, pos, neg_ℤ, nat_abs, Bool, true, false, not, ◌&&◌, cond, List, [], ◌∷◌, length, eqb, nat_le, nat_lt, Option, Some, None, IfOk, IsTrue, Result, Ok, Err, slice_range, refl, sym, ap, ◌∙◌, arith}
use Rattle.std.specs.List.{list_all}
use Rattle.std.specs.Char.{is_ascii_digit}
use Rattle.std.specs.Str.Parse.{digits_value, AllDigits}
use Rattle.std.proofs.lemmas.Bool.{and_parts, leb-true, lt-ltb}
use Rattle.std.proofs.lemmas.Int.Digits.{digits_value-lt}
use Rattle.blink_base.specs.declared.value.Kind.{Kind}
use Rattle.blink_base.specs.declared.value.Kind.TheVariants as kind
use Rattle.blink_base.specs.declared.value.Value.{Value}
use Rattle.blink_base.specs.declared.value.Value.TheVariants as value
use Rattle.blink_base.specs.declared.value.ValueFault.{ValueFault}
use Rattle.blink_base.specs.declared.value.ValueFault.TheVariants as fault
use Rattle.blink_base.specs.Dates.{date_of, days_in, is_date, is_date_number, has_date_form}
use Rattle.blink_base.specs.RowFits.{is_entry}
use Rattle.blink_base.specs.Numbers.{is_number, is_digits, number_of, significant, without_minus, has_minus}
use Rattle.blink_base.specs.ReadValue.{read_value, read_number, read_text}
use Rattle.blink_base.specs.Texts.{is_text}
use Rattle.blink_base.proofs.DigitLemmas.{significant_digits, significant_value, digit_at}
use Rattle.blink_base.proofs.PowerLemmas.{below_power}

-- a day of a month is at most 31
most_of : (b : Bool) (x y : ℕ) → x ≤ 31 → y ≤ 31 → cond b x y ≤ 31
most_of true x y p q = p
most_of false x y p q = q

few_days : (y m : ℕ) → days_in y m ≤ 31
few_days y m = most_of _ _ _ (most_of _ 29 28 (omega arith) (omega arith)) (most_of _ 30 31 (omega arith) (omega arith))

date_kept : (y m d : ℕ) → is_date y m d ≡ true → is_date_number (pos (10000 * y + 100 * m + d)) ≡ true
date_kept y m d is =
    let a = and_parts (nat_le 1 y && nat_le y 9999 && nat_le 1 m && nat_le m 12 && nat_le 1 d) (nat_le d (days_in y m)) is in
    let b = and_parts (nat_le 1 y && nat_le y 9999 && nat_le 1 m && nat_le m 12) (nat_le 1 d) a.0 in
    let c = and_parts (nat_le 1 y && nat_le y 9999 && nat_le 1 m) (nat_le m 12) b.0 in
    let months = leb-true m 12 c.1 in
    let days = leb-true d (days_in y m) a.1 in
    let most = few_days y m in
    let n = 10000 * y + 100 * m + d in
    let of_year : n / 10000 ≡ y = omega arith in
    let of_month : n / 100 % 100 ≡ m = omega arith in
    let of_day : n % 100 ≡ d = omega arith in
    (λ i. is_date (of_year i) (of_month i) (of_day i)) ∙ is

if_some : {X : Type 0} (b : Bool) (x : X) (d : X) → cond b (Some x) None ≡ Some d → (b ≡ true) × (x ≡ d)
if_some true x d e = (refl, cc)
if_some false x d e = cc

pub date_good : (t : List ℕ) (d : ℤ) → date_of t ≡ Some d → is_date_number d ≡ true
date_good t d e =
    let y = digits_value 10 (slice_range t 0 4) in
    let m = digits_value 10 (slice_range t 5 7) in
    let day = digits_value 10 (slice_range t 8 10) in
    let p = if_some (has_date_form t && is_date y m day) (pos (10000 * y + 100 * m + day)) d e in
    ap is_date_number (sym p.1) ∙ date_kept y m day (and_parts (has_date_form t) (is_date y m day) p.0).1

-- the digits of a number of at most fifteen digits
all_digits : (ds : List ℕ) → list_all is_ascii_digit ds ≡ true → AllDigits 10 ds
all_digits [] all = tt
all_digits (c ∷ cs) all =
    let at = digit_at (c ∷ cs) 0 all (omega arith) in
    (omega (arith, at.1, at.2), all_digits cs (and_parts (is_ascii_digit c) (list_all is_ascii_digit cs) all).1)

abs_signed : (b : Bool) (n : ℕ) → nat_abs (cond b (neg_ℤ (pos n)) (pos n)) ≡ n
abs_signed false n = refl
abs_signed true zero = refl
abs_signed true (suc n) = refl

few_digits : (t : List ℕ) → is_digits t ≡ true → length (significant t) ≤ 15 → digits_value 10 t < 10 ^ 15
few_digits t all few =
    let digits = (and_parts (not (eqb (length t) 0)) (list_all is_ascii_digit t) all).1 in
    let below = digits_value-lt 10 (significant t) (all_digits (significant t) (significant_digits t digits)) in
    let same = significant_value t in
    below_power (digits_value 10 t) (length (significant t)) few (omega arith)

number_good : (t : List ℕ) (n : ℤ) → read_number t ≡ Ok n → nat_lt (nat_abs n) (10 ^ 15) ≡ true
number_good t n e = by (is_number t) (nat_le (length (significant (without_minus t))) 15) refl refl e
  where
    by : (b c : Bool) → is_number t ≡ b → nat_le (length (significant (without_minus t))) 15 ≡ c
        → cond (not b) (Err fault.NotNumber) (cond c (Ok (number_of t)) (Err fault.TooLong)) ≡ Ok n → nat_lt (nat_abs n) (10 ^ 15) ≡ true
    by false c p q r = cc
    by true false p q r = cc
    by true true p q r =
        let same : number_of t ≡ n = cc in
        let few = few_digits (without_minus t) p (leb-true _ 15 q) in
        let abs = abs_signed (has_minus t) (digits_value 10 (without_minus t)) in
        ap (λ z. nat_lt (nat_abs z) (10 ^ 15)) (sym same) ∙ lt-ltb _ (10 ^ 15) (omega arith)

text_good : (t : List ℕ) (v : Value) → read_text t ≡ Ok v → is_entry kind.Text v ≡ true
text_good t v e = by (is_text t) (nat_le (length t) 255) refl refl e
  where
    by : (b c : Bool) → is_text t ≡ b → nat_le (length t) 255 ≡ c
        → cond (not b) (Err fault.NotUtf8) (cond c (Ok (value.Text t)) (Err fault.LongText)) ≡ Ok v → is_entry kind.Text v ≡ true
    by false c p q r = cc
    by true false p q r = cc
    by true true p q r =
        let same : value.Text t ≡ v = cc in
        let here : is_entry kind.Text (value.Text t) ≡ true = rw (p, q) refl in
        ap (is_entry kind.Text) (sym same) ∙ here

-- a number within bounds is an entry
pub int_entry : (n : ℤ) → nat_lt (nat_abs n) (10 ^ 15) ≡ true → is_entry kind.Int (value.Int n) ≡ true
int_entry n e = rw e refl

pub date_entry : (d : ℤ) → is_date_number d ≡ true → is_entry kind.Date (value.Date d) ≡ true
date_entry d e = rw e refl

-- a value that a text says may stand in a column of its kind
pub read_good : (k : Kind) (t : List ℕ) (v : Value) → read_value k t ≡ Ok v → is_entry k v ≡ true
read_good kind.Int t v e = by (read_number t) refl e
  where
    by : (r : Result ℤ ValueFault) → read_number t ≡ r → read_value kind.Int t ≡ Ok v → is_entry kind.Int v ≡ true
    by (Ok n) is e = let same : value.Int n ≡ v = cc (rw is at e) in ap (is_entry kind.Int) (sym same) ∙ int_entry n (number_good t n is)
    by (Err why) is e = cc (rw is at e)
read_good kind.Text t v e = text_good t v e
read_good kind.Date t v e = by (date_of t) refl e
  where
    by : (o : Option ℤ) → date_of t ≡ o → read_value kind.Date t ≡ Ok v → is_entry kind.Date v ≡ true
    by (Some d) is e = let same : value.Date d ≡ v = cc (rw is at e) in ap (is_entry kind.Date) (sym same) ∙ date_entry d (date_good t d is)
    by None is e = cc (rw is at e)

pub ints_good : (t : List ℕ) (r : Result Value ValueFault) → r ≡ read_value kind.Int t → IfOk r (λ v. IsTrue (is_entry kind.Int v))
ints_good t (Ok v) e = read_good kind.Int t v (sym e)
ints_good t (Err why) e = tt

pub dates_good : (t : List ℕ) (r : Result Value ValueFault) → r ≡ read_value kind.Date t → IfOk r (λ v. IsTrue (is_entry kind.Date v))
dates_good t (Ok v) e = read_good kind.Date t v (sym e)
dates_good t (Err why) e = tt
