use Rattle.std.proofs.Common.{◌≡◌, ◌<◌, ◌^◌, take, true}
use Rattle.std.specs.List.{list_all}
use Rattle.std.specs.Char.{is_ascii_digit}
use Rattle.std.specs.Str.Parse.{digits_value}
use Rattle.blink_base.proofs.numbers.number_of_few.Given as goal

abbrev pub invariant-loop-c : goal.invariant-loop-c
invariant-loop-c l = (l.value ≡ digits_value 10 (take l.c-index l.digits)) × (l.value < 10 ^ l.c-index) × (list_all is_ascii_digit (take l.c-index l.digits) ≡ true)
