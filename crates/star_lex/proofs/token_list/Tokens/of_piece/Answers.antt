use Rattle.std.proofs.Common.{◌∙◌, ap, length, arith}
use Rattle.star_lex.specs.TokensRepr.{kinds_or_none}
use Rattle.star_lex.proofs.TokensLemmas.{kinds_there}
use Rattle.star_lex.proofs.token_list.Tokens.of_piece.Goals as goal

pub invariant_of-result : goal.invariant_of-result
invariant_of-result c =
    let there = kinds_there c.args.text.now c.in_ok-left.left (c.in_ok-left.ensures.counts (λ e. cc)) in
    let short = c.requires in
    let within = c.from_first.ensures.within in
    record { short = omega arith; begun = c.from_first.ensures.begun; kinds = there.0; read = c.from_first.ensures.said ∙ there.1; count = there.2 }

pub returns-clause-few : goal.returns-clause-few
returns-clause-few c =
    let there = kinds_there c.args.text.now c.in_ok-left.left (c.in_ok-left.ensures.counts (λ e. cc)) in
    let same = ap (λ o. length (kinds_or_none o)) (c.from_first.ensures.said ∙ there.1) in
    let few = c.in_ok-left.ensures.few in
    let count = there.2 in
    omega arith
