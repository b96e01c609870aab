use Rattle.std.proofs.Common.{arith, ◌*◌, ◌+◌, ◌∙◌, sym, ap, get_or}
use Rattle.std.specs.Int.RustNames.{count_ones}
use Rattle.std.proofs.lemmas.List.Sums.{count_by-le-length}
use Rattle.row_bits.specs.Bits.{bits_of}
use Rattle.row_bits.proofs.WordLemmas.{count_more, length_bits, none_counted}
use Rattle.row_bits.proofs.words.count_set.Goals as goal

pub loop-word-init : goal.loop-word-init
loop-word-init c = sym (none_counted c.args.words.now)

pub overflow_add-count : goal.overflow_add-count
overflow_add-count c =
    let at = c.loop-word.word-index in
    let words = c.args.words.now in
    let more = count_more words at (c.type_inv.words at).fits in
    let most = count_by-le-length (λ b. b) (bits_of ((at + 1) * 64) words) in
    let long = length_bits ((at + 1) * 64) words in
    omega (arith, more, most, long, c.loop-word.invariant)

pub loop-word-preserved : goal.loop-word-preserved
loop-word-preserved c =
    let at = c.loop-word.word-index in
    ap (λ n. n + count_ones (get_or c.args.words.now at 0)) c.loop-word.invariant ∙ sym (count_more c.args.words.now at (c.type_inv.words at).fits)
