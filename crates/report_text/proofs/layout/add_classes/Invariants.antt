use Rattle.std.proofs.Common.{◌≡◌, ◌++◌, take, map, codes}
use Rattle.report_text.specs.Texts.{each_behind, class_text}
use Rattle.report_text.proofs.layout.add_classes.Given as goal

abbrev pub invariant-loop-class : goal.invariant-loop-class
invariant-loop-class l = l.text.items ≡ l.initial.text.items ++ each_behind (codes " ") (map class_text (take l.class-index l.classes))
