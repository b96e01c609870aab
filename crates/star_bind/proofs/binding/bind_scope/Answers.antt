use Rattle.star_bind.specs.Lookup.{scope_from}
use Rattle.star_bind.proofs.QueryLemmas.{fact-small}
use Rattle.star_bind.proofs.binding.bind_scope.Goals as goal

pub query_in-requires-clause-fact : goal.query_in-requires-clause-fact
query_in-requires-clause-fact c =
    fact-small (scope_from c.args.scope.now) c.args.select.now c.in_ok-fact.fact c.requires.addressable c.in_ok-fact.ensures.checked c.in_ok-fact.ensures.fact
