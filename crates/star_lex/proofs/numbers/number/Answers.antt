use Rattle.std.specs.Str.Parse.{digits_value}
use Rattle.std.proofs.Common.{pos, length, nat_le, sym}
use Rattle.blink_base.specs.Numbers.{significant}
use Rattle.blink_base.specs.declared.limits.TheConstants.{MOST_DIGITS}
use Rattle.star_lex.proofs.DigitLemmas.{digits_say, number_fits, number_too_long}
use Rattle.star_lex.proofs.numbers.number.Goals as goal

pub returns-in-Some : goal.returns-in-Some
returns-in-Some c =
    let digits = c.args.digits.now in
    number_fits (nat_le (length (significant digits)) MOST_DIGITS) (pos (digits_value 10 digits)) c.args.at c.in-Some.token
    (rw (digits_say digits c.requires.some c.requires.all) at c.in-Some.ensures)

pub returns-in-None : goal.returns-in-None
returns-in-None c =
    let digits = c.args.digits.now in
    number_too_long (nat_le (length (significant digits)) MOST_DIGITS) (pos (digits_value 10 digits)) c.args.at
    (sym (rw (digits_say digits c.requires.some c.requires.all) at c.in-None.ensures))
