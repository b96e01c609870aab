use Rattle.std.proofs.Common.{◌≡◌, ◌*◌, ◌<◌, arith, length, List, ℕ, ◌||◌, sym, ap, subst, ◌∙◌}
use Rattle.row_bits.specs.Bits.{is_set, bits_of, some_true}
use Rattle.row_bits.proofs.PageLemmas.{joined_below}
use Rattle.page_synopsis.specs.BitSets.{AreCodeWords}
use Rattle.page_synopsis.proofs.BitSetLemmas.{one_length, added_words, in_words, written}
use Rattle.page_synopsis.proofs.code_bits.CodeBits.or_with.Goals as goal

pub invariant_of-self : goal.invariant_of-self
invariant_of-self c =
    let one = one_length c.self.inside.size c.other.inside.size c.self.inside.words.items c.other.inside.words.items c.args.self.now c.args.other.now c.self.invariant c.other.invariant c.self.view_is c.other.view_is c.requires in
    let long : length c.or_with.new.words ≡ length c.self.inside.words.items = c.or_with.auto.words ∙ ap length c.deref_mut.ensures.value in
    let each : (k : ℕ) → k < length c.self.inside.words.items * 64 → is_set c.or_with.new.words k ≡ (is_set c.self.inside.words.items k || is_set c.other.inside.words.items k)
    = λ k lt. c.or_with.ensures k (omega (arith, lt, ap length c.deref_mut.ensures.value)) ∙ (λ i. is_set (c.deref_mut.ensures.value i) k || is_set (c.deref.ensures.value i) k) in
    let others : AreCodeWords c.self.inside.size c.other.inside.words.items = subst (λ (n : ℕ). AreCodeWords n c.other.inside.words.items) one.0 c.other.invariant in
    subst (λ (l : List ℕ). AreCodeWords c.self.inside.size l) (sym (written c.self.inside.words.len c.self.inside.words.items c.or_with.new.words (omega (arith, c.deref_mut.ensures.len, ap length c.deref_mut.ensures.value)) long))
    (added_words c.self.inside.size c.self.inside.words.items c.other.inside.words.items c.or_with.new.words c.self.invariant others.clear long each)

pub returns : goal.returns
returns c =
    let one = one_length c.self.inside.size c.other.inside.size c.self.inside.words.items c.other.inside.words.items c.args.self.now c.args.other.now c.self.invariant c.other.invariant c.self.view_is c.other.view_is c.requires in
    let long : length c.or_with.new.words ≡ length c.self.inside.words.items = c.or_with.auto.words ∙ ap length c.deref_mut.ensures.value in
    let each : (k : ℕ) → k < length c.self.inside.words.items * 64 → is_set c.or_with.new.words k ≡ (is_set c.self.inside.words.items k || is_set c.other.inside.words.items k)
    = λ k lt. c.or_with.ensures k (omega (arith, lt, ap length c.deref_mut.ensures.value)) ∙ (λ i. is_set (c.deref_mut.ensures.value i) k || is_set (c.deref.ensures.value i) k) in
    let back = written c.self.inside.words.len c.self.inside.words.items c.or_with.new.words (omega (arith, c.deref_mut.ensures.len, ap length c.deref_mut.ensures.value)) long in
    ap (bits_of c.self.inside.size) back
    ∙ joined_below (λ a b. a || b) c.self.inside.size c.self.inside.words.items c.other.inside.words.items c.or_with.new.words
    (λ k lt. each k (in_words c.self.inside.size c.self.inside.words.items k c.self.invariant lt))
    ∙ (λ i. some_true (c.self.view_is i) ((ap (λ n. bits_of n c.other.inside.words.items) (sym one.0) ∙ c.other.view_is) i))
