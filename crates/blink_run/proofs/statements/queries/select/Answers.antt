use Rattle.std.proofs.Common.{refl}
use Rattle.report_text.specs.AnswerText.{answer_bytes}
use Rattle.star_sql.specs.declared.ast.Statement.TheVariants as statement
use Rattle.star_engine.specs.Queries.{selected}
use Rattle.blink_run.proofs.StatementOutputLemmas.{reply_answer, no_answer}
use Rattle.blink_run.proofs.statements.queries.select.Goals as goal

pub returns-in-Ok : goal.returns-in-Ok
returns-in-Ok g c state of =
    let s = c.args.query.now in
    reply_answer c.args.engine.now.limits state (statement.Select s) (selected state.tables s) c.in-Ok.answer c.done.result c.args.engine.now refl
    (c.in-Ok.ensures.answer state.tables of) (c.done.ensures (answer_bytes c.in-Ok.answer) c.answer_text.ensures) of

pub returns-in-Err : goal.returns-in-Err
returns-in-Err g c state of =
    let s = c.args.query.now in
    no_answer c.args.engine.now.limits state (statement.Select s) (selected state.tables s) c.in-Err.why c.refused_by.result c.args.engine.now refl
    c.refused_by.ensures (c.in-Err.ensures.answer state.tables of) of
