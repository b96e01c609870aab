use Rattle.std.proofs.Common.{◌≡◌, ◌≤◌, List, ℕ, length, ap, subst, ◌∙◌, arith}
use Rattle.star_sql.specs.declared.ast.Statement.{Statement}
use Rattle.star_sql.specs.Spelling.{HasFewTokens}
use Rattle.binding_tests.proofs.TableLemmas.{few_tokens, tables_allowed}
use Rattle.binding_tests.proofs.tables.bound.Goals as goal

pub bind-requires-clause-few : goal.bind-requires-clause-few
bind-requires-clause-few c =
    let same = ap length c.as_bytes.ensures.value in
    let most = c.if-text-gt2000.false in
    subst (λ (s : Statement). HasFewTokens s) c.in-Select.is
    (few_tokens c.as_bytes.result.now c.in-Ok.list c.in-Ok-parse.statement c.in-Ok.ensures.few (omega (arith, same, most)) c.in-Ok-parse.ensures.spelled)

pub bind-requires-clause-allowed : goal.bind-requires-clause-allowed
bind-requires-clause-allowed c =
    tables_allowed c.in_ok-tables.tables.p c.in_ok-tables.tables.u c.in_ok-tables.tables.d c.in_ok-tables.tables.e c.in_ok-tables.tables.f c.in_ok-tables.ensures
