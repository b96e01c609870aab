use Rattle.std.proofs.Common.{List, map, ap, ◌∙◌}
use Rattle.star_sql.specs.Conditions.{of_prim}
use Rattle.star_bind.specs.declared.star.factors.Factor.{Factor}
use Rattle.star_bind.specs.FactorParts.{primary_of}
use Rattle.star_bind.specs.Lookup.{scope_from}
use Rattle.star_bind.proofs.QueryLemmas.{made_told}
use Rattle.star_bind.proofs.conditions.conjunctions.table_conjunctions.Goals as goal

pub returns : goal.returns
returns c =
    made_told c.conjunctions_of.result (scope_from c.args.scope.now) (map primary_of c.args.all.now) (map primary_of c.as_slice.result.now) c.args.table c.in_ok-branch.branch c.in_ok-made_of.field-0
    c.requires.addressable (ap (λ (fs : List Factor). map primary_of fs) c.as_slice.ensures.value ∙ c.in_ok-filters.ensures.filters) c.in_ok-branch.ensures c.in_ok-made_of.ensures c.conjunctions_of.ensures
