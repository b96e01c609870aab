use Rattle.std.proofs.Common.{List, ℕ, subst, ap, ◌∙◌}
use Rattle.order_codes.specs.Dictionary.{class_at}
use Rattle.page_synopsis.specs.BitSets.{codes_set}
use Rattle.page_synopsis.specs.Sets.{is_set_of}
use Rattle.code_join.specs.Keys.{is_key}
use Rattle.code_join.proofs.KeyCodeLemmas.{bits_are_codes}
use Rattle.code_join.proofs.key_codes.codes_of_keys.Goals as goal

pub returns-clause-set : goal.returns-clause-set
returns-clause-set g c =
    subst (λ (l : List ℕ). is_set_of c.of.result l)
    (ap codes_set c.in_ok-key_bits.ensures ∙ bits_are_codes (is_key c.args.keys.now) (class_at c.args.dict.now c.args.class))
    c.of.ensures.set
