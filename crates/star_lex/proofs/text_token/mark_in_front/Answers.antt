use Rattle.std.proofs.Common.{◌∙◌, sym}
use Rattle.star_lex.proofs.FirstTokenLemmas.{name_no_mark, number_no_mark, text_no_mark, other_mark, some_bytes}
use Rattle.star_lex.proofs.text_token.mark_in_front.Goals as goal
use Rattle.star_lex.proofs.text_token.mark_in_front.Goals.{then-begins_name-via-then-begins_name, then-begins_name-via-else-begins_name+then-is_ascii_digit, then-begins_name-via-else-begins_name+else-is_ascii_digit+then-first-eq39}

pub returns-then-begins_name : goal.returns-then-begins_name
returns-then-begins_name c =
    elim c.then-begins_name.branch [
      | then-begins_name-via-then-begins_name w ↦ λ kind more says. name_no_mark c.args.text.now kind more (some_bytes c.args.text.now c.if-is_empty.ensures) (sym w.if-begins_name.ensures) says
      | then-begins_name-via-else-begins_name+then-is_ascii_digit w ↦
          λ kind more says. number_no_mark c.args.text.now kind more (some_bytes c.args.text.now c.if-is_empty.ensures) (sym w.if-begins_name.ensures) (sym w.if-is_ascii_digit.ensures.value) says
      | then-begins_name-via-else-begins_name+else-is_ascii_digit+then-first-eq39 w ↦ λ kind more says. text_no_mark c.args.text.now kind more (some_bytes c.args.text.now c.if-is_empty.ensures) w.if-first-eq39.true says
    ]

pub returns : goal.returns
returns c =
    λ kind more says.
    let mark = rw c.front_length.ensures.value at c.mark_of_bytes.ensures in
    mark
    ∙ other_mark c.args.text.now kind more (some_bytes c.args.text.now c.if-is_empty.ensures) (sym c.if-begins_name.ensures) (sym c.if-is_ascii_digit.ensures.value) c.if-first-eq39.false says
