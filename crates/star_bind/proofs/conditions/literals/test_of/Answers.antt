use Rattle.std.proofs.Common.{List, sym, ap, ◌∙◌}
use Rattle.std.specs.List.{list_all}
use Rattle.star_sql.specs.declared.ast.Literal.{Literal}
use Rattle.star_sql.specs.WellFormed.{is_literal}
use Rattle.star_bind.proofs.LiteralLemmas.{compare_formed, between_formed, among_formed}
use Rattle.star_bind.proofs.conditions.literals.test_of.Goals as goal

pub compare_test-requires : goal.compare_test-requires
compare_test-requires c = compare_formed c.args.words.now c.in-Compare.column c.in-Compare.op c.in-Compare.literal c.in-Compare.is c.requires

pub between_test-requires-clause-low : goal.between_test-requires-clause-low
between_test-requires-clause-low c = (between_formed c.args.words.now c.in-Between.column c.in-Between.low c.in-Between.high c.in-Between.is c.requires).0

pub between_test-requires-clause-high : goal.between_test-requires-clause-high
between_test-requires-clause-high c = (between_formed c.args.words.now c.in-Between.column c.in-Between.low c.in-Between.high c.in-Between.is c.requires).1

pub among_test-requires : goal.among_test-requires
among_test-requires c =
    ap (λ (ls : List Literal). list_all is_literal ls) c.as_slice.ensures
    ∙ among_formed c.args.words.now c.in-Among.column c.in-Among.list c.in-Among.is c.requires
