use Rattle.std.proofs.Common.{◌≡◌, arith, length, List, ℕ, ◌&&◌, refl, sym, ap, subst, ◌∙◌}
use Rattle.row_bits.specs.Bits.{is_set, bits_of, both_true}
use Rattle.row_bits.proofs.PageLemmas.{joined_bits}
use Rattle.page_synopsis.specs.BitSets.{AreCodeWords}
use Rattle.page_synopsis.proofs.BitSetLemmas.{one_length, joined_words, written}
use Rattle.page_synopsis.proofs.code_bits.CodeBits.and_with.Goals as goal

pub and_with-requires : goal.and_with-requires
and_with-requires c =
    let one = one_length c.self.inside.size c.other.inside.size c.self.inside.words.items c.other.inside.words.items c.args.self.now c.args.other.now c.self.invariant c.other.invariant c.self.view_is c.other.view_is c.requires in
    ap length c.deref.ensures.value ∙ one.1 ∙ sym (ap length c.deref_mut.ensures.value)

pub invariant_of-self : goal.invariant_of-self
invariant_of-self c =
    let one = one_length c.self.inside.size c.other.inside.size c.self.inside.words.items c.other.inside.words.items c.args.self.now c.args.other.now c.self.invariant c.other.invariant c.self.view_is c.other.view_is c.requires in
    let long : length c.and_with.new.words ≡ length c.self.inside.words.items = c.and_with.auto.words ∙ ap length c.deref_mut.ensures.value in
    let each : (k : ℕ) → is_set c.and_with.new.words k ≡ (is_set c.self.inside.words.items k && is_set c.other.inside.words.items k)
    = λ k. c.and_with.ensures k ∙ (λ i. is_set (c.deref_mut.ensures.value i) k && is_set (c.deref.ensures.value i) k) in
    subst (λ (l : List ℕ). AreCodeWords c.self.inside.size l) (sym (written c.self.inside.words.len c.self.inside.words.items c.and_with.new.words (omega (arith, c.deref_mut.ensures.len, ap length c.deref_mut.ensures.value)) long))
    (joined_words (λ a b. a && b) c.self.inside.size c.self.inside.words.items c.other.inside.words.items c.and_with.new.words refl c.self.invariant (subst (λ (n : ℕ). AreCodeWords n c.other.inside.words.items) one.0 c.other.invariant) long each)

pub returns : goal.returns
returns c =
    let one = one_length c.self.inside.size c.other.inside.size c.self.inside.words.items c.other.inside.words.items c.args.self.now c.args.other.now c.self.invariant c.other.invariant c.self.view_is c.other.view_is c.requires in
    let long : length c.and_with.new.words ≡ length c.self.inside.words.items = c.and_with.auto.words ∙ ap length c.deref_mut.ensures.value in
    let each : (k : ℕ) → is_set c.and_with.new.words k ≡ (is_set c.self.inside.words.items k && is_set c.other.inside.words.items k)
    = λ k. c.and_with.ensures k ∙ (λ i. is_set (c.deref_mut.ensures.value i) k && is_set (c.deref.ensures.value i) k) in
    let back = written c.self.inside.words.len c.self.inside.words.items c.and_with.new.words (omega (arith, c.deref_mut.ensures.len, ap length c.deref_mut.ensures.value)) long in
    ap (bits_of c.self.inside.size) back
    ∙ joined_bits (λ a b. a && b) c.self.inside.size c.self.inside.words.items c.other.inside.words.items c.and_with.new.words each
    ∙ (λ i. both_true (c.self.view_is i) ((ap (λ n. bits_of n c.other.inside.words.items) (sym one.0) ∙ c.other.view_is) i))
