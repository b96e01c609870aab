use Rattle.std.proofs.Common.{◌∙◌, sym}
use Rattle.star_lex.proofs.FirstTokenLemmas.{name_word, no_first, no_word, some_bytes}
use Rattle.star_lex.proofs.text_token.is_word_in_front.Goals as goal

pub returns-then-is_empty : goal.returns-then-is_empty
returns-then-is_empty c = λ kind says. absurd (no_first c.args.text.now kind c.if-is_empty.ensures says)

pub returns-then-not-begins_name : goal.returns-then-not-begins_name
returns-then-not-begins_name c = λ kind says. no_word c.args.text.now c.args.word.now kind (some_bytes c.args.text.now c.if-is_empty.ensures) (sym c.if-not-begins_name.ensures) says

pub returns : goal.returns
returns c =
    λ kind says.
    let word = rw (c.front_length.ensures.value, c.as_bytes.ensures.value) at c.is_lowered.ensures in
    word ∙ name_word c.args.text.now c.args.word.now kind (some_bytes c.args.text.now c.if-is_empty.ensures) (sym c.if-not-begins_name.ensures) says
