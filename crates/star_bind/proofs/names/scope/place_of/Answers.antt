use Rattle.std.proofs.Common.{sym, ◌∙◌, ap}
use Rattle.star_meaning.specs.Names.{places}
use Rattle.star_bind.specs.Lookup.{scope_from}
use Rattle.star_bind.proofs.LookupLemmas.{one_found, found_place}
use Rattle.star_bind.proofs.names.scope.place_of.Goals as goal

pub returns-in-One : goal.returns-in-One
returns-in-One c = ap found_place c.in-One.ensures ∙ sym (one_found (places (scope_from c.args.scope.now) c.args.name.now))
