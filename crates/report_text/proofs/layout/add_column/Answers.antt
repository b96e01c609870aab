use Rattle.std.proofs.Common.{length, map, codes}
use Rattle.std.specs.Fmt.{decimal}
use Rattle.report_text.specs.Texts.{class_text, key_words, kind_text}
use Rattle.report_text.proofs.SeparatorLemmas.{separated_parts}
use Rattle.report_text.proofs.layout.add_column.Goals as goal

pub returns : goal.returns
returns c =
    let column = c.args.column.now in
    let line = separated_parts c.args.text.now.items (codes " ") (codes "column") column.name (kind_text column.kind) (codes "classes") (decimal (length column.classes)) (codes "\n") (map class_text column.classes) (key_words column.key) in
    rw (
      c.in_ok-push.ensures.items,
      c.in_ok-add_key.ensures,
      c.in_ok-add_classes.ensures,
      c.in_ok-add_words.ensures,
      c.in_ok-add_word-2.ensures,
      c.in_ok-add_word.ensures,
      c.in_ok-extend_from_slice.ensures.items,
      c.as_slice.ensures,
      c.as_bytes-count.ensures.value,
      c.format.ensures.text,
      c.len.ensures,
      c.kind_text.ensures,
      c.as_bytes.ensures.value,
      c.as_str.ensures,
    ) line
