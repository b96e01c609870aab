use Rattle.std.proofs.Common.{refl}
use Rattle.report_text.specs.Texts.{reorganized_bytes}
use Rattle.star_sql.specs.declared.ast.Statement.TheVariants as statement
use Rattle.star_engine.specs.Changes.{reorganized}
use Rattle.blink_run.proofs.StatementOutputLemmas.{reply_change}
use Rattle.blink_run.proofs.statements.tables.reorganize.Goals as goal

pub returns-in-Ok-clause-reply : goal.returns-in-Ok-clause-reply
returns-in-Ok-clause-reply g c state of =
    let name = c.args.name.now in
    reply_change c.args.engine.now.limits state (statement.Reorganize name) (reorganized_bytes name) (reorganized state.tables name) c.done.result c.reorganize.new.self refl
    (c.done.ensures (reorganized_bytes name) c.reorganized_text.ensures) (c.in-Ok.ensures.step state.tables of)
