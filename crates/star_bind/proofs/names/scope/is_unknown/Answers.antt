use Rattle.std.proofs.Common.{sym, ap, ◌∙◌}
use Rattle.star_meaning.specs.Names.{places}
use Rattle.star_bind.specs.Lookup.{scope_from, is_nothing}
use Rattle.star_bind.proofs.LookupLemmas.{nothing_found}
use Rattle.star_bind.proofs.names.scope.is_unknown.Goals as goal

pub returns : goal.returns
returns c = c.is_nothing.ensures ∙ ap is_nothing c.find.ensures ∙ sym (nothing_found (places (scope_from c.args.scope.now) c.args.name.now))
