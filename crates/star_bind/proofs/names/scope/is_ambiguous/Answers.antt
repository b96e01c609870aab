use Rattle.std.proofs.Common.{sym, ap, ◌∙◌}
use Rattle.star_meaning.specs.Names.{places}
use Rattle.star_bind.specs.Lookup.{scope_from, are_several}
use Rattle.star_bind.proofs.LookupLemmas.{several_found}
use Rattle.star_bind.proofs.names.scope.is_ambiguous.Goals as goal

pub returns : goal.returns
returns c = c.are_several.ensures ∙ ap are_several c.find.ensures ∙ sym (several_found (places (scope_from c.args.scope.now) c.args.name.now))
