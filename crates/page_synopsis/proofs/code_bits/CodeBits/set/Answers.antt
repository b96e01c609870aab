use Rattle.std.proofs.Common.{◌≡◌, ◌+◌, arith, length, List, ℕ, sym, ap, subst, ◌∙◌}
use Rattle.row_bits.specs.Bits.{is_set, bits_of}
use Rattle.page_synopsis.specs.BitSets.{AreCodeWords}
use Rattle.page_synopsis.proofs.BitSetLemmas.{size_is, filled_words, set_bits, written}
use Rattle.page_synopsis.proofs.code_bits.CodeBits.set.Goals as goal

pub fill-requires : goal.fill-requires
fill-requires c =
    let size = size_is c.self.inside.size c.self.inside.words.items c.args.self.now c.self.view_is in
    omega (arith, size, c.requires, c.self.invariant.long, ap length c.deref_mut.ensures.value)

pub invariant_of-self : goal.invariant_of-self
invariant_of-self c =
    let size = size_is c.self.inside.size c.self.inside.words.items c.args.self.now c.self.view_is in
    let long : length c.fill.new.words ≡ length c.self.inside.words.items = c.fill.auto.words ∙ ap length c.deref_mut.ensures.value in
    subst (λ (l : List ℕ). AreCodeWords c.self.inside.size l) (sym (written c.self.inside.words.len c.self.inside.words.items c.fill.new.words (omega (arith, c.deref_mut.ensures.len, ap length c.deref_mut.ensures.value)) long))
    (filled_words c.self.inside.size 0 (c.args.code + 1) c.self.inside.words.items c.fill.new.words c.self.invariant long (omega (arith, size, c.requires))
    (λ k le. c.fill.ensures.above k le ∙ ap (λ l. is_set l k) c.deref_mut.ensures.value))

pub returns : goal.returns
returns c =
    let size = size_is c.self.inside.size c.self.inside.words.items c.args.self.now c.self.view_is in
    let long : length c.fill.new.words ≡ length c.self.inside.words.items = c.fill.auto.words ∙ ap length c.deref_mut.ensures.value in
    let back = written c.self.inside.words.len c.self.inside.words.items c.fill.new.words (omega (arith, c.deref_mut.ensures.len, ap length c.deref_mut.ensures.value)) long in
    ap (bits_of c.self.inside.size) back
    ∙ set_bits c.self.inside.size c.args.code c.self.inside.words.items c.fill.new.words c.args.self.now c.self.view_is (omega (arith, size, c.requires))
    c.fill.ensures.inside
    (λ k lt. c.fill.ensures.below k lt ∙ ap (λ l. is_set l k) c.deref_mut.ensures.value)
    (λ k le. c.fill.ensures.above k le ∙ ap (λ l. is_set l k) c.deref_mut.ensures.value)
