use Rattle.star_sql.proofs.StatementLemmas.{gives_spelled, gives_no_statement}
use Rattle.star_sql.proofs.whole_statement.statement_of.Goals as goal

pub returns-clause-spelled : goal.returns-clause-spelled
returns-clause-spelled c = gives_spelled c.args.tokens.now c.whole.result c.whole.ensures

pub returns-clause-syntax : goal.returns-clause-syntax
returns-clause-syntax c = λ e. (
  cc (c.is_deep.ensures, c.if-is_deep.false),
  gives_no_statement c.args.tokens.now c.whole.result c.whole.ensures e,
)
