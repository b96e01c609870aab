use Rattle.std.proofs.Common.{Ok, ◌∙◌, ap, sym}
use Rattle.star_lex.proofs.TextKindsLemmas.{not_blank}
use Rattle.star_lex.proofs.text_token.kind_in_front.Goals as goal

pub unreachable-requires : goal.unreachable-requires
unreachable-requires c =
    let is = c.in-Ok-None.is in
    let none = c.in-Ok-None.field-0-is in
    let content = c.front_content.ensures (λ e. cc) in
    let size = c.front_length.ensures.value in
    not_blank c.args.text.now c.front_length.result 0 (rw size c.requires.begun) (sym content ∙ is ∙ ap (λ x. Ok x) none)
