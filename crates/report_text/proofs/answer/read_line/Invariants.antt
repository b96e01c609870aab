use Rattle.std.proofs.Common.{◌≡◌, [], map, take}
use Rattle.csv.specs.Records.{fields_of, partial_of}
use Rattle.report_text.specs.AnswerText.{field_bytes}
use Rattle.report_text.proofs.answer.read_line.Given as goal

abbrev pub invariant-loop-field : goal.invariant-loop-field
invariant-loop-field l = (fields_of l.fields ≡ map field_bytes (take l.field-index l.line)) × (partial_of l.fields ≡ [])
