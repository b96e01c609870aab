use Rattle.std.proofs.Common.{refl}
use Rattle.star_sql.specs.declared.ast.Statement.TheVariants as statement
use Rattle.star_engine.specs.Changes.{added}
use Rattle.star_engine.specs.InsertedRows.{written}
use Rattle.blink_run.proofs.StatementOutputLemmas.{reply_addition}
use Rattle.star_engine.specs.declared.growth.Growth.TheVariants.{Standing}
use Rattle.blink_run.proofs.statements.tables.insert.Goals as goal

pub returns-clause-reply : goal.returns-clause-reply
returns-clause-reply g c state of =
    let name = c.args.name.now in
    let rows = c.args.rows.now in
    reply_addition c.args.engine.now.limits state (statement.Insert name rows) (added c.args.engine.now.limits Standing state.tables name (λ schema. written schema rows)) c.insert-added.result c.addition.result c.args.engine.now c.insert-added.new.self refl
    c.addition.ensures (c.insert-added.ensures.step state.tables of) c.insert-added.ensures.kept of
