use Rattle.std.proofs.Common.{List, ℕ, subst, ◌∙◌, ap, ◌≡◌, length, IfSome}
use Rattle.std.specs.Prelude.{IsTrue}
use Rattle.std.proofs.lemmas.List.{length-map}
use Rattle.blink_base.specs.Tests.{tree_holds}
use Rattle.order_codes.specs.Dictionary.{class_at}
use Rattle.page_synopsis.specs.BitSets.{all_below, codes_set}
use Rattle.page_synopsis.specs.Sets.{codes_in, is_set_of}
use Rattle.cell_predicates.proofs.TestLemmas.{codes_of_test}
use Rattle.cell_predicates.proofs.code_sets.ranges.Goals as goal

pub returns-clause-set : goal.returns-clause-set
returns-clause-set g c =
    subst (λ (l : List ℕ). is_set_of c.of.result l)
    (ap codes_set c.in_ok-tree_bits.ensures ∙ codes_of_test (λ v. tree_holds v c.args.tree.now) (class_at c.args.dict.now c.args.class))
    c.of.ensures.set

pub returns-clause-below : goal.returns-clause-below
returns-clause-below g c =
    let values = class_at c.args.dict.now c.args.class in
    let long : length c.in_ok-tree_bits.field-0 ≡ length values = ap length c.in_ok-tree_bits.ensures ∙ length-map values (λ v. tree_holds v c.args.tree.now) in
    subst (λ (n : ℕ). IfSome c.of.result (λ set. IsTrue (all_below n (codes_in set)))) long c.of.ensures.below
