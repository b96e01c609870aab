use Rattle.std.proofs.Common.{◌≡◌, subst, List, ℕ, ap, ◌∙◌, length, IfSome}
use Rattle.std.specs.Prelude.{IsTrue}
use Rattle.row_bits.specs.Bits.{both_true}
use Rattle.page_synopsis.specs.BitSets.{all_below, codes_set}
use Rattle.page_synopsis.specs.Runs.{in_both}
use Rattle.page_synopsis.specs.Sets.{codes_in, is_set_of}
use Rattle.page_synopsis.proofs.SetLemmas.{codes_of_both, length_both, rising_in}
use Rattle.page_synopsis.proofs.ranges.Ranges.both.Goals as goal

pub returns-clause-set : goal.returns-clause-set
returns-clause-set c =
    let e : codes_set c.and_with.new.self ≡ in_both (codes_in c.args.self.now) (codes_in c.args.other.now)
    = ap codes_set (c.and_with.ensures ∙ (λ i. both_true (c.in_ok-bits.ensures i) (c.in_ok-others.ensures i))) ∙ codes_of_both c.args.size (codes_in c.args.self.now) (codes_in c.args.other.now) (rising_in c.args.self.now c.requires.fair) c.requires.below in
    subst (λ (l : List ℕ). is_set_of c.of.result l) e c.of.ensures.set

pub returns-clause-both_below : goal.returns-clause-both_below
returns-clause-both_below c =
    let long : length c.and_with.new.self ≡ c.args.size
    = ap length (c.and_with.ensures ∙ (λ i. both_true (c.in_ok-bits.ensures i) (c.in_ok-others.ensures i))) ∙ length_both c.args.size (codes_in c.args.self.now) (codes_in c.args.other.now) in
    subst (λ (n : ℕ). IfSome c.of.result (λ set. IsTrue (all_below n (codes_in set)))) long c.of.ensures.below
