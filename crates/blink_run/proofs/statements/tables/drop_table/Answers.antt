use Rattle.std.proofs.Common.{refl}
use Rattle.report_text.specs.Texts.{dropped_bytes}
use Rattle.star_sql.specs.declared.ast.Statement.TheVariants as statement
use Rattle.star_engine.specs.Changes.{dropped}
use Rattle.blink_run.proofs.StatementOutputLemmas.{reply_change}
use Rattle.blink_run.proofs.statements.tables.drop_table.Goals as goal

pub returns-in-Ok-clause-reply : goal.returns-in-Ok-clause-reply
returns-in-Ok-clause-reply g c state of =
    let name = c.args.name.now in
    reply_change c.args.engine.now.limits state (statement.Drop name) (dropped_bytes name) (dropped state.tables name) c.done.result c.drop_table.new.self refl
    (c.done.ensures (dropped_bytes name) c.dropped_text.ensures) (c.in-Ok.ensures.step state.tables of)
