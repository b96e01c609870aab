use Rattle.std.proofs.Common.{◌≡◌, map, take}
use Rattle.bank_pack.specs.Banks.{tuplet_bits}
use Rattle.star_engine.proofs.describe.bank_widths.Given as goal

abbrev pub invariant-loop-bank : goal.invariant-loop-bank
invariant-loop-bank l = l.widths ≡ map tuplet_bits (take l.bank l.plan)
