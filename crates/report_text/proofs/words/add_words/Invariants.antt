use Rattle.std.proofs.Common.{◌≡◌, ◌++◌, take, map, codes}
use Rattle.report_text.specs.Texts.{each_behind}
use Rattle.report_text.proofs.words.add_words.Given as goal

abbrev pub invariant-loop-word : goal.invariant-loop-word
invariant-loop-word l = l.text.items ≡ l.initial.text.items ++ each_behind (codes " ") (map (λ word. word.now) (take l.word-index l.words))
