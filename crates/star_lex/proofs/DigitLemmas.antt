-- Digits as the number that they say.
use Rattle.std.proofs.Common.{◌≡◌, ◌<◌, ℕ, ℤ, pos, Bool, true, false, List, [], ◌∷◌, length, Some, None, option_map, Ok, Err, IsTrue, cond, eqb, nat_le, refl, arith}
use Rattle.std.specs.List.{list_all}
use Rattle.std.specs.Char.{is_ascii_digit}
use Rattle.std.specs.Str.Parse.{digits_value}
use Rattle.std.proofs.lemmas.Bool.{and_parts, eqb-true, ne_eqb, false≢true}
use Rattle.star_lex.specs.declared.token.LexFault.TheVariants.{LongNumber}
use Rattle.star_lex.specs.declared.token.TokenKind.{TokenKind}
use Rattle.star_lex.specs.declared.token.TokenKind.TheVariants.{Number}
use Rattle.blink_base.specs.Numbers.{significant}
use Rattle.blink_base.specs.declared.limits.TheConstants.{MOST_DIGITS}
use Rattle.blink_base.specs.ReadValue.{whole_number, number_if, int_or_fault}
use Rattle.blink_base.specs.declared.value.ValueFault.TheVariants.{TooLong}

-- a digit is no minus
no_minus : (b : Bool) (c : ℕ) → eqb c 45 ≡ b → is_ascii_digit c ≡ true → eqb c 45 ≡ false
no_minus false c e digit = e
no_minus true c e digit = let is : c ≡ 45 = eqb-true c 45 e in absurd (false≢true (rw is at digit))

-- a number, or that there is none
said : (fits : Bool) (number : ℤ) → number_if (int_or_fault (cond fits (Ok number) (Err TooLong))) ≡ cond fits (Some number) None
said true number = refl
said false number = refl

-- the number that digits say, where they aren't too many
pub digits_say : (digits : List ℕ) → 0 < length digits → IsTrue (list_all is_ascii_digit digits)
    → whole_number digits ≡ cond (nat_le (length (significant digits)) MOST_DIGITS) (Some (pos (digits_value 10 digits))) None
digits_say [] some all = absurd (omega (arith, some))
digits_say (c ∷ cs) some all =
    let minus = no_minus (eqb c 45) c refl (and_parts (is_ascii_digit c) (list_all is_ascii_digit cs) all).0 in
    let filled : eqb (length (c ∷ cs)) 0 ≡ false = ne_eqb (length (c ∷ cs)) 0 (λ e. omega (arith, e)) in
    rw (minus, filled, all) (said (nat_le (length (significant (c ∷ cs))) MOST_DIGITS) (pos (digits_value 10 (c ∷ cs))))

-- a token or a fault, by whether there is a number
pub number_fits : (fits : Bool) (number : ℤ) (at : ℕ) (token : TokenKind) → Some token ≡ option_map Number (cond fits (Some number) None)
    → Ok (Some token) ≡ cond fits (Ok (Some (Number number))) (Err (LongNumber at))
number_fits true number at token is = cc
number_fits false number at token is = cc is

pub number_too_long : (fits : Bool) (number : ℤ) (at : ℕ) → option_map Number (cond fits (Some number) None) ≡ None
    → Err (LongNumber at) ≡ cond fits (Ok (Some (Number number))) (Err (LongNumber at))
number_too_long true number at is = cc is
number_too_long false number at is = refl
