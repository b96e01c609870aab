use Rattle.std.proofs.Common.{◌∙◌, is_some, Ok, Err, subst}
use Rattle.blink_base.specs.declared.limits.Limits.{Limits}
use Rattle.blink_run.specs.StatementOutput.{IsSaidFrom}
use Rattle.blink_run.proofs.PieceOutputLemmas.{asks_nothing, piece_said, piece_stopped}
use Rattle.blink_run.proofs.script.pieces.answer_by.Goals as goal

pub returns-in-Ok-clause-answer : goal.returns-in-Ok-clause-answer
returns-in-Ok-clause-answer g c limits state stands =
    let told_files = g.S.Store.files c.args.store.now in
    let said = c.in-Some.said in
    let told = c.in-Ok.told in
    let engine = c.answer_said.new.engine in
    let says = rw c.in-Some.is at c.in_ok-said_by.ensures.says in
    let P : Limits → Type 0 = λ l. IsSaidFrom l told_files (is_some told_files) state said (Ok told) engine in
    piece_said limits told_files (is_some told_files) state c.args.text.now said told engine says.0 says.1 stands.files (c.in-Ok.ensures.engine.limits ∙ stands.under)
    (subst P stands.under (c.in-Ok.ensures.reply state stands.stands_for stands.files))

pub returns-clause-answer : goal.returns-clause-answer
returns-clause-answer g c limits state stands =
    let told_files = g.S.Store.files c.args.store.now in
    let said = c.in-Some.said in
    let why = c.in-Err.why in
    let engine = c.answer_said.new.engine in
    let says = rw c.in-Some.is at c.in_ok-said_by.ensures.says in
    let P : Limits → Type 0 = λ l. IsSaidFrom l told_files (is_some told_files) state said (Err why) engine in
    piece_stopped limits told_files (is_some told_files) state c.args.text.now said why engine says.0 says.1
    (subst P stands.under (c.in-Err.ensures.reply state stands.stands_for stands.files))

pub returns-in-Ok-clause-unasked : goal.returns-in-Ok-clause-unasked
returns-in-Ok-clause-unasked g c state of not_asking =
    let says = rw c.in-Some.is at c.in_ok-said_by.ensures.says in
    c.answer_said.ensures.unasked state of (asks_nothing state c.args.text.now c.in-Some.said says.0 says.1 not_asking)

pub returns-clause-unasked : goal.returns-clause-unasked
returns-clause-unasked g c state of not_asking =
    let says = rw c.in-Some.is at c.in_ok-said_by.ensures.says in
    c.answer_said.ensures.unasked state of (asks_nothing state c.args.text.now c.in-Some.said says.0 says.1 not_asking)
