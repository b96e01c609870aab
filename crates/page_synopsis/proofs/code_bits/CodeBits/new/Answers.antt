use Rattle.std.proofs.Common.{◌≡◌, arith, List, ℕ, zero, replicate, ◌+◌, ◌/◌, sym, ap, subst, ◌∙◌}
use Rattle.row_bits.specs.Bits.{bits_of}
use Rattle.page_synopsis.specs.BitSets.{AreCodeWords}
use Rattle.page_synopsis.proofs.BitSetLemmas.{empty_words, empty_bits}
use Rattle.std.specs.Int.{div_ceil}
use Rattle.page_synopsis.proofs.code_bits.CodeBits.new.Goals as goal

words_for : (n size : ℕ) → n ≡ div_ceil size 64 → replicate {A = ℕ} n zero ≡ replicate ((size + 63) / 64) zero
words_for n size e = let same : n ≡ (size + 63) / 64 = omega (arith, e) in ap (λ m. replicate m zero) same

pub invariant_of-result : goal.invariant_of-result
invariant_of-result c =
    let e : c.in_ok-words.words.items ≡ replicate ((c.args.size + 63) / 64) 0 = c.in_ok-words.ensures.items_if_clones_equal (λ y h. h) ∙ words_for c.div_ceil.result c.args.size c.div_ceil.ensures in
    subst (λ (l : List ℕ). AreCodeWords c.args.size l) (sym e) (empty_words c.args.size c.ranges.size.fits)

pub returns : goal.returns
returns c =
    let e : c.in_ok-words.words.items ≡ replicate ((c.args.size + 63) / 64) 0 = c.in_ok-words.ensures.items_if_clones_equal (λ y h. h) ∙ words_for c.div_ceil.result c.args.size c.div_ceil.ensures in
    ap (bits_of c.args.size) e ∙ empty_bits c.args.size ((c.args.size + 63) / 64)
