use Rattle.std.proofs.Common.{map}
use Rattle.std.specs.Borrow.{Bor}
use Rattle.star_sql.specs.declared.ast.TestWords.{TestWords}
use Rattle.star_bind.specs.Lookup.{scope_from}
use Rattle.star_bind.proofs.FilterLemmas.{tables_told}
use Rattle.star_bind.proofs.star.filters.tables_in.Goals as goal

pub returns : goal.returns
returns c = tables_told c.tables_of.result (scope_from c.args.scope.now) (map (λ (x : Bor TestWords). x.now) c.args.tests.now) c.tables_of.ensures
