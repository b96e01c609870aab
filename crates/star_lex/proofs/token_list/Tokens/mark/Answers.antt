use Rattle.std.proofs.Common.{◌∙◌, ap, sym}
use Rattle.star_lex.specs.Kinds.{first_mark}
use Rattle.star_lex.proofs.TokensLemmas.{opened}
use Rattle.star_lex.proofs.token_list.Tokens.mark.Goals as goal

pub returns-in-Written : goal.returns-in-Written
returns-in-Written c =
    let seen = opened c.self.inside.source c.in-Written.text c.self.inside.left c.args.self.now c.self.invariant c.self.view_is c.in-Written.is c.if-self-eq0.false in
    c.mark_in_front.ensures seen.first.first seen.first.more seen.first.says ∙ sym (ap first_mark seen.parts)
