use Rattle.std.proofs.Common.{◌≡◌, ◌*◌, ◌<◌, ◌≤◌, arith, length, List, ℕ, ◌||◌, false, sym, ap, subst, ◌∙◌}
use Rattle.row_bits.specs.Bits.{is_set, bits_of}
use Rattle.page_synopsis.specs.BitSets.{AreCodeWords, codes_set}
use Rattle.page_synopsis.proofs.BitSetLemmas.{added_words, in_words, written, size_is, bit_is, bit_anywhere}
use Rattle.page_synopsis.proofs.SetLemmas.{in_set, not_below, added_codes}
use Rattle.page_synopsis.proofs.code_bits.CodeBits.add_to.Goals as goal

pub invariant_of-bits : goal.invariant_of-bits
invariant_of-bits c =
    let size = size_is c.bits.inside.size c.bits.inside.words.items c.args.bits.now c.bits.view_is in
    let long : length c.or_with.new.words ≡ length c.bits.inside.words.items = c.or_with.auto.words ∙ ap length c.deref_mut.ensures.value in
    let each : (k : ℕ) → k < length c.bits.inside.words.items * 64 → is_set c.or_with.new.words k ≡ (is_set c.bits.inside.words.items k || is_set c.self.inside.words.items k)
    = λ k lt. c.or_with.ensures k (omega (arith, lt, ap length c.deref_mut.ensures.value)) ∙ (λ i. is_set (c.deref_mut.ensures.value i) k || is_set (c.deref.ensures.value i) k) in
    let none : (k : ℕ) → c.bits.inside.size ≤ k → is_set c.self.inside.words.items k ≡ false
    = λ k le. sym (bit_anywhere c.self.inside.size c.self.inside.words.items c.args.self.now c.self.view_is c.self.invariant k) ∙ sym (in_set c.args.self.now k)
    ∙ not_below (length c.args.bits.now) k (codes_set c.args.self.now) c.requires (omega (arith, size, le)) in
    subst (λ (l : List ℕ). AreCodeWords c.bits.inside.size l) (sym (written c.bits.inside.words.len c.bits.inside.words.items c.or_with.new.words (omega (arith, c.deref_mut.ensures.len, ap length c.deref_mut.ensures.value)) long))
    (added_words c.bits.inside.size c.bits.inside.words.items c.self.inside.words.items c.or_with.new.words c.bits.invariant none long each)

pub returns : goal.returns
returns c =
    let size = size_is c.bits.inside.size c.bits.inside.words.items c.args.bits.now c.bits.view_is in
    let long : length c.or_with.new.words ≡ length c.bits.inside.words.items = c.or_with.auto.words ∙ ap length c.deref_mut.ensures.value in
    let back = written c.bits.inside.words.len c.bits.inside.words.items c.or_with.new.words (omega (arith, c.deref_mut.ensures.len, ap length c.deref_mut.ensures.value)) long in
    ap (bits_of c.bits.inside.size) back
    ∙ added_codes c.bits.inside.size c.or_with.new.words c.args.bits.now c.args.self.now size
    (λ k lt. c.or_with.ensures k (omega (arith, ap length c.deref_mut.ensures.value, in_words c.bits.inside.size c.bits.inside.words.items k c.bits.invariant lt))
    ∙ (λ i. is_set (c.deref_mut.ensures.value i) k || is_set (c.deref.ensures.value i) k)
    ∙ (let a = bit_is c.bits.inside.size c.bits.inside.words.items c.args.bits.now c.bits.view_is k lt in
    let b = bit_anywhere c.self.inside.size c.self.inside.words.items c.args.self.now c.self.view_is c.self.invariant k in
    λ i. sym a i || sym b i))
