use Rattle.std.proofs.Common.{flat_map, take}
use Rattle.std.specs.Io.KnownBytes.{Appends}
use Rattle.csv.specs.Writing.{text_written}
use Rattle.report_text.specs.AnswerText.{IsBetween, answer_line_bytes}
use Rattle.report_text.proofs.answer.write_lines.Given as goal

abbrev pub invariant-loop-line : goal.invariant-loop-line
invariant-loop-line g l =
    IsBetween l.writer × Appends (text_written g.W.Write.contents l.initial.writer) (text_written g.W.Write.contents l.writer) (flat_map answer_line_bytes (take l.line-index l.lines))
