use Rattle.std.proofs.Common.{◌≡◌, ◌++◌, ◌∷◌, [], take, map}
use Rattle.std.specs.Fmt.{decimal}
use Rattle.report_text.specs.Texts.{each_behind}
use Rattle.report_text.proofs.words.add_numbers.Given as goal

abbrev pub invariant-loop-number : goal.invariant-loop-number
invariant-loop-number l = l.text.items ≡ l.initial.text.items ++ each_behind (l.mark ∷ []) (map decimal (take l.number-index l.numbers))
