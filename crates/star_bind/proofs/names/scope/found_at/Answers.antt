use Rattle.std.proofs.Common.{sym, ◌∙◌}
use Rattle.star_bind.specs.Lookup.{entry_from}
use Rattle.star_bind.proofs.LookupLemmas.{not_meant}
use Rattle.star_bind.proofs.names.scope.found_at.Goals as goal

pub returns-then-not-is_meant : goal.returns-then-not-is_meant
returns-then-not-is_meant c = sym (not_meant c.args.found c.args.name.now c.args.table (entry_from c.args.entry.now) (sym c.is_meant.ensures ∙ c.if-not-is_meant.true))
