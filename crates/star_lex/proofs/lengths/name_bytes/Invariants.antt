use Rattle.std.proofs.Common.{◌≡◌, ◌+◌, drop}
use Rattle.std.specs.List.{prefix_len}
use Rattle.blink_base.specs.Identifiers.{is_name_byte}
use Rattle.star_lex.proofs.lengths.name_bytes.Given as goal

abbrev pub invariant-loop-at : goal.invariant-loop-at
invariant-loop-at l = prefix_len is_name_byte l.bytes ≡ l.at + prefix_len is_name_byte (drop l.at l.bytes)
