use Rattle.std.proofs.Common.{map, drop}
use Rattle.blink_lists.specs.Lists.{joined, numbered_from}
use Rattle.star_meaning.specs.Names.{places_in, places}
use Rattle.star_bind.specs.Lookup.{scope_from, found_of}
use Rattle.star_bind.proofs.LookupLemmas.{early, next_entry}
use Rattle.star_bind.proofs.names.scope.find.Goals as goal

pub returns-in-Several : goal.returns-in-Several
returns-in-Several c =
    early c.loop-table.found _ (joined (map (places_in c.args.name.now) (numbered_from c.loop-table.table (scope_from (drop c.loop-table.table c.args.scope.now))))) c.in-Several.is c.loop-table.invariant

pub loop-table-preserved : goal.loop-table-preserved
loop-table-preserved c =
    next_entry c.loop-table.found c.found_at-found.result (found_of (places (scope_from c.args.scope.now) c.args.name.now)) c.args.name.now c.args.scope.now c.loop-table.table c.index-scope-table.result
    c.loop-table-test.true c.index-scope-table.is c.found_at-found.ensures c.loop-table.invariant
