use Rattle.std.proofs.Common.{◌∙◌, ap, sym}
use Rattle.star_lex.specs.Kinds.{begins_with, is_word}
use Rattle.star_lex.proofs.TokensLemmas.{opened}
use Rattle.star_lex.proofs.token_list.Tokens.is_word.Goals as goal

pub returns-in-Written : goal.returns-in-Written
returns-in-Written c =
    let seen = opened c.self.inside.source c.in-Written.text c.self.inside.left c.args.self.now c.self.invariant c.self.view_is c.in-Written.is c.if-self-eq0.false in
    c.is_word_in_front.ensures seen.first.first seen.first.says ∙ sym (ap (begins_with (is_word c.args.word.now)) seen.parts)
