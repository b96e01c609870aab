use Rattle.std.proofs.Common.{◌≡◌, ◌-◌, ◌∙◌, length, arith}
use Rattle.star_lex.proofs.ContentLemmas.{text_content, text_refused}
use Rattle.star_lex.proofs.contents.text.Goals as goal

pub returns-in-Some : goal.returns-in-Some
returns-in-Some c =
    let same : length c.args.bytes.now - 1 - 1 ≡ length c.args.bytes.now - 2 = omega arith in
    let is = c.deref.ensures.value ∙ rw same at c.in_ok-inside.ensures in
    λ told. text_content c.args.bytes.now c.deref.result.now c.in-Some.word c.args.at c.in_ok-word.field-0 is c.in_ok-word.ensures c.in-Some.is

pub returns : goal.returns
returns c =
    let same : length c.args.bytes.now - 1 - 1 ≡ length c.args.bytes.now - 2 = omega arith in
    let is = c.deref.ensures.value ∙ rw same at c.in_ok-inside.ensures in
    λ told. text_refused c.args.bytes.now c.deref.result.now c.args.at c.in_ok-word.field-0 is c.in_ok-word.ensures c.in-None.is
