use Rattle.std.proofs.Common.{map, codes, append_assoc}
use Rattle.report_text.proofs.SeparatorLemmas.{separated_first}
use Rattle.report_text.proofs.words.add_line.Goals as goal

pub returns : goal.returns
returns c =
    rw (
      separated_first (codes " ") c.args.first.now (map (λ word. word.now) c.args.others.now),
      c.in_ok-push.ensures.items,
      c.in_ok-add_words.ensures,
      c.in_ok-extend_from_slice.ensures.items,
    ) (simp append_assoc)
