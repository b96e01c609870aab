use Rattle.std.proofs.Common.{◌≡◌, drop}
use Rattle.std.specs.Str.{bytes_eq, str_to_ascii_lowercase}
use Rattle.star_lex.proofs.text_token.is_lowered.Given as goal

abbrev pub invariant-loop-at : goal.invariant-loop-at
invariant-loop-at l = bytes_eq (str_to_ascii_lowercase l.bytes) l.word ≡ bytes_eq (str_to_ascii_lowercase (drop l.at l.bytes)) (drop l.at l.word)
