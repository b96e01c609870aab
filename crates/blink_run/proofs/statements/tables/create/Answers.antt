use Rattle.std.proofs.Common.{refl}
use Rattle.report_text.specs.Texts.{created_bytes}
use Rattle.star_sql.specs.declared.ast.Statement.TheVariants as statement
use Rattle.star_engine.specs.Changes.{created}
use Rattle.blink_run.proofs.StatementOutputLemmas.{reply_change, no_change}
use Rattle.blink_run.proofs.statements.tables.create.Goals as goal

pub returns-in-Ok-clause-reply : goal.returns-in-Ok-clause-reply
returns-in-Ok-clause-reply g c state of =
    let name = c.args.name.now in
    let columns = c.args.columns.now in
    reply_change c.args.engine.now.limits state (statement.Create name columns) (created_bytes name) (created state.tables name columns) c.done.result c.create.new.self refl
    (c.done.ensures (created_bytes name) c.created_text.ensures) (c.in-Ok.ensures.step state.tables of)

pub returns-in-Err-clause-reply : goal.returns-in-Err-clause-reply
returns-in-Err-clause-reply g c state of =
    let name = c.args.name.now in
    let columns = c.args.columns.now in
    no_change c.args.engine.now.limits state (statement.Create name columns) (created_bytes name) (created state.tables name columns) c.in-Err.why c.refused_by.result c.args.engine.now c.create.new.self refl
    c.refused_by.ensures (c.in-Err.ensures.step state.tables of) c.in-Err.ensures.kept of
