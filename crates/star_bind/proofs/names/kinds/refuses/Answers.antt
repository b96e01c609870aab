use Rattle.std.proofs.Common.{List, not, ap, ◌∙◌}
use Rattle.std.specs.Prelude.{is_none}
use Rattle.std.specs.List.{list_all}
use Rattle.star_sql.specs.declared.ast.Literal.{Literal}
use Rattle.star_sql.specs.Literals.{literal_value}
use Rattle.star_bind.proofs.LiteralLemmas.{compare_refused, between_refused, among_refused}
use Rattle.star_bind.proofs.names.kinds.refuses.Goals as goal

pub returns-in-Compare : goal.returns-in-Compare
returns-in-Compare c = compare_refused c.may_stand.result c.args.kind c.args.words.now c.in-Compare.column c.in-Compare.op c.in-Compare.literal c.in-Compare.is c.may_stand.ensures

pub returns-in-Between : goal.returns-in-Between
returns-in-Between c = between_refused c.may_both_stand.result c.args.kind c.args.words.now c.in-Between.column c.in-Between.low c.in-Between.high c.in-Between.is c.may_both_stand.ensures

pub returns-in-Among : goal.returns-in-Among
returns-in-Among c =
    among_refused c.may_all_stand.result c.args.kind c.args.words.now c.in-Among.column c.in-Among.list c.in-Among.is
    (c.may_all_stand.ensures ∙ ap (λ (ls : List Literal). list_all (λ (l : Literal). not (is_none (literal_value c.args.kind l))) ls) c.as_slice.ensures)
