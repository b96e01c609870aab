use Rattle.std.proofs.Common.{◌∙◌, sym, refl}
use Rattle.star_lex.proofs.TokenLemmas.{name_all, name_content, number_all, number_some, number_content, text_closed, text_open, other_content}
use Rattle.star_lex.proofs.lexer.front_content.Goals as goal

pub name-requires : goal.name-requires
name-requires c = name_all c.args.left.now c.args.size c.requires.some c.requires.front (sym c.if-begins_name.ensures)

pub returns-then-begins_name : goal.returns-then-begins_name
returns-then-begins_name c =
    λ told. rw (c.in_ok-name.ensures, name_content c.args.left.now c.args.size c.args.at c.requires.some c.requires.front (sym c.if-begins_name.ensures)) refl

pub number-requires-clause-some : goal.number-requires-clause-some
number-requires-clause-some c = number_some c.args.left.now c.args.size c.requires.some c.requires.front (sym c.if-begins_name.ensures) (sym c.if-is_ascii_digit.ensures.value)

pub number-requires-clause-all : goal.number-requires-clause-all
number-requires-clause-all c = number_all c.args.left.now c.args.size c.requires.some c.requires.front (sym c.if-begins_name.ensures) (sym c.if-is_ascii_digit.ensures.value)

pub returns-then-is_ascii_digit : goal.returns-then-is_ascii_digit
returns-then-is_ascii_digit c =
    λ told. c.number.ensures ∙ sym (number_content c.args.left.now c.args.size c.args.at c.requires.some c.requires.front (sym c.if-begins_name.ensures) (sym c.if-is_ascii_digit.ensures.value))

pub returns-then-first-ne39 : goal.returns-then-first-ne39
returns-then-first-ne39 c =
    λ told. c.other.ensures
    ∙ sym (other_content c.args.left.now c.args.size c.args.at c.requires.some c.requires.front (sym c.if-begins_name.ensures) (sym c.if-is_ascii_digit.ensures.value) c.if-first-ne39.true)

pub returns-then-size-eq0 : goal.returns-then-size-eq0
returns-then-size-eq0 c = λ told. sym (text_open c.args.left.now c.args.size c.args.at c.requires.some c.if-first-ne39.false c.if-size-eq0.true)

pub text-requires : goal.text-requires
text-requires c = (text_closed c.args.left.now c.args.size c.args.at c.requires.some c.requires.front c.if-first-ne39.false c.if-size-eq0.false).0

pub returns : goal.returns
returns c =
    λ told. c.text.ensures told ∙ sym (text_closed c.args.left.now c.args.size c.args.at c.requires.some c.requires.front c.if-first-ne39.false c.if-size-eq0.false).1
