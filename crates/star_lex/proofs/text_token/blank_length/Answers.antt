use Rattle.std.proofs.Common.{◌+◌, ◌∙◌, ap, sym}
use Rattle.star_lex.proofs.BlankLemmas.{blank_comment, blank_none}
use Rattle.star_lex.proofs.text_token.blank_length.Goals as goal

pub returns-then-begins_comment-clause-value : goal.returns-then-begins_comment-clause-value
returns-then-begins_comment-clause-value c =
    let comment = rw c.behind.ensures at c.comment_length.ensures.value in
    ap (λ n. 2 + n) comment ∙ sym (blank_comment c.args.text.now (sym c.if-begins_comment.ensures.value))

pub returns-clause-value : goal.returns-clause-value
returns-clause-value c = sym (blank_none c.args.text.now (sym c.if-is_blank_byte.ensures) (sym c.if-begins_comment.ensures.value))
