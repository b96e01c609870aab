use Rattle.std.proofs.Common.{◌≡◌, ◌+◌, ◌++◌, take}
use Rattle.cell_layout.proofs.cell.put_codes.Given as goal

abbrev pub invariant-loop-code : goal.invariant-loop-code
invariant-loop-code l = record { so_far : l.all.0 ≡ l.initial.all.0 ++ take l.code-index l.codes; left : l.all.1 + l.code-index ≡ l.initial.all.1 }
