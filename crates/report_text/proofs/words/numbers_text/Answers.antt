use Rattle.std.proofs.Common.{◌∷◌, [], map, sym}
use Rattle.std.specs.Fmt.{decimal}
use Rattle.report_text.proofs.SeparatorLemmas.{separated_first}
use Rattle.report_text.proofs.words.numbers_text.Goals as goal

pub returns : goal.returns
returns c =
    let first = c.in-Some.first.now in
    let others = c.in-Some.others.now in
    let pieces = separated_first (c.args.mark ∷ []) (decimal first) (map decimal others) in
    rw (c.in-Some.ensures.cases.0, c.in_ok-add_numbers.ensures, c.in_ok-add_number.ensures, c.new-text.ensures.items) (sym pieces)
