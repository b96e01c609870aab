use Rattle.std.proofs.Common.{◌∙◌, ap, length, drop, sym, arith}
use Rattle.std.proofs.lemmas.List.{drop-drop, length-drop}
use Rattle.star_lex.specs.TextKinds.{kinds_in}
use Rattle.star_lex.proofs.BlankLemmas.{blank_there, blank_gone}
use Rattle.star_lex.proofs.TextKindsLemmas.{blank_passed}
use Rattle.star_lex.proofs.text_token.from_first.Goals as goal

pub returns-then-size-eq0-clause-begun : goal.returns-then-size-eq0-clause-begun
returns-then-size-eq0-clause-begun c = blank_gone c.behind-left.result.now (sym c.if-size-eq0.true ∙ c.blank_length-size.ensures.value)

pub loop-left-preserved : goal.loop-left-preserved
loop-left-preserved c =
    let text = c.args.text.now in
    let there = blank_there c.behind-left.result.now c.blank_length-size.result c.blank_length-size.ensures.value c.if-size-eq0.false in
    let passed = blank_passed c.behind-left.result.now c.blank_length-size.result there.1 there.0 in
    let here = c.behind-left.ensures in
    let left = ap length here ∙ length-drop c.loop-left.at text in
    let within = c.blank_length-size.ensures.within in
    (ap kinds_in (sym (drop-drop c.blank_length-size.result c.loop-left.at text) ∙ sym (ap (drop c.blank_length-size.result) here)) ∙ sym passed ∙ ap kinds_in here ∙ c.loop-left.invariant.0, omega arith)
