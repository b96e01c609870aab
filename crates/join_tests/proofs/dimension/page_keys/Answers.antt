use Rattle.std.proofs.Common.{length, ap, sym, ◌∙◌, subst, arith}
use Rattle.std.specs.Prelude.{IsTrue}
use Rattle.code_join.specs.Keys.{are_keys}
use Rattle.dim_filter.specs.Entries.{collected, key_column, chosen_rows}
use Rattle.join_tests.proofs.OwnKeyLemmas.{first_keys, second_keys, few_rows, few_kept}
use Rattle.join_tests.proofs.dimension.page_keys.Goals as goal

pub collect-requires-clause-absent : goal.collect-requires-clause-absent
collect-requires-clause-absent g c =
    subst (λ keys. IsTrue (are_keys (collected (key_column c.args.image.now) c.args.wanted.now keys (chosen_rows c.args.image.now 0 0 c.args.first.now)))) (sym c.new-keys.ensures)
    (first_keys c.args.image.now c.args.wanted.now c.args.first.now c.args.second.now c.requires.valid c.requires.key c.requires.two)

pub collect-requires-clause-few : goal.collect-requires-clause-few
collect-requires-clause-few g c =
    let none = ap length c.new-keys.ensures in
    let few = few_rows c.args.image.now 0 c.args.first.now in
    omega (arith, none, few)

pub collect-requires-2-clause-absent : goal.collect-requires-2-clause-absent
collect-requires-2-clause-absent g c =
    let kept = c.in_ok-collect.ensures.keys ∙ ap (λ keys. collected (key_column c.args.image.now) c.args.wanted.now keys (chosen_rows c.args.image.now 0 0 c.args.first.now)) c.new-keys.ensures in
    subst (λ keys. IsTrue (are_keys (collected (key_column c.args.image.now) c.args.wanted.now keys (chosen_rows c.args.image.now 1 0 c.args.second.now)))) (sym kept)
    (second_keys c.args.image.now c.args.wanted.now c.args.first.now c.args.second.now c.requires.valid c.requires.key c.requires.two)

pub collect-requires-2-clause-few : goal.collect-requires-2-clause-few
collect-requires-2-clause-few g c =
    let kept = c.in_ok-collect.ensures.keys ∙ ap (λ keys. collected (key_column c.args.image.now) c.args.wanted.now keys (chosen_rows c.args.image.now 0 0 c.args.first.now)) c.new-keys.ensures in
    let held = few_kept c.args.image.now c.args.wanted.now c.args.first.now c.collect.new.into kept in
    let few = few_rows c.args.image.now 1 c.args.second.now in
    omega (arith, held, few)
