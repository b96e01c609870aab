use Rattle.std.proofs.Common.{List, map, nat_lt, refl, ap, ◌∙◌}
use Rattle.star_bind.specs.declared.limits.TheConstants.{MOST_CONJUNCTIONS}
use Rattle.star_bind.specs.declared.star.factors.Factor.{Factor}
use Rattle.star_bind.specs.FactorParts.{primary_of}
use Rattle.star_bind.specs.Lookup.{scope_from}
use Rattle.star_bind.proofs.WidthLemmas.{wide_told}
use Rattle.star_bind.proofs.conditions.width.is_table_wide.Goals as goal

pub returns : goal.returns
returns c =
    wide_told (scope_from c.args.scope.now) c.args.table c.in_ok-number.number (nat_lt MOST_CONJUNCTIONS c.in_ok-number.number) (map primary_of c.args.all.now) (map primary_of c.as_slice.result.now)
    (ap (λ (fs : List Factor). map primary_of fs) c.as_slice.ensures.value ∙ c.in_ok-filters.ensures.filters) c.in_ok-number.ensures refl
