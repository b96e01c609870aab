use Rattle.std.proofs.Common.{refl}
use Rattle.report_text.specs.Texts.{layout_bytes}
use Rattle.star_sql.specs.declared.ast.Statement.TheVariants as statement
use Rattle.star_engine.specs.TableLayout.{described}
use Rattle.blink_run.proofs.StatementOutputLemmas.{reply_layout}
use Rattle.blink_run.proofs.statements.tables.describe.Goals as goal

pub returns-in-Ok : goal.returns-in-Ok
returns-in-Ok g c state of =
    let name = c.args.name.now in
    reply_layout c.args.engine.now.limits state (statement.Describe name) (described state.tables name) c.in-Ok.lines c.done.result c.args.engine.now refl
    (c.in-Ok.ensures state.tables of) (c.done.ensures (layout_bytes c.in-Ok.lines) c.layout_text.ensures) of
