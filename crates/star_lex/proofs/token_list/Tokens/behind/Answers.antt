use Rattle.std.proofs.Common.{◌∙◌, ap, drop, sym, arith}
use Rattle.star_lex.specs.TokensRepr.{kinds_or_none}
use Rattle.star_lex.proofs.TokensLemmas.{opened}
use Rattle.star_lex.proofs.token_list.Tokens.behind.Goals as goal

pub invariant_of-result : goal.invariant_of-result
invariant_of-result c =
    let seen = opened c.self.inside.source c.in-Written.text c.self.inside.left c.args.self.now c.self.invariant c.self.view_is c.in-Written.is c.if-self-eq0.false in
    let short = seen.cut.short in
    let within = c.behind_first.ensures.within in
    let count = seen.first.count in
    record { short = omega arith; begun = c.behind_first.ensures.begun; kinds = seen.first.more; read = c.behind_first.ensures.said ∙ seen.first.behind; count = omega arith }

pub returns-in-Written : goal.returns-in-Written
returns-in-Written c =
    let seen = opened c.self.inside.source c.in-Written.text c.self.inside.left c.args.self.now c.self.invariant c.self.view_is c.in-Written.is c.if-self-eq0.false in
    ap kinds_or_none (c.behind_first.ensures.said ∙ seen.first.behind) ∙ sym (ap (drop 1) seen.parts)
