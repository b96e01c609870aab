use Rattle.std.proofs.Common.{◌∙◌}
use Rattle.blink_histogram.proofs.EntryLemmas.{own_place}
use Rattle.blink_histogram.proofs.interner.Interner.find.Goals as goal

pub returns-clause-there : goal.returns-clause-there
returns-clause-there c n at = c.place.ensures ∙ own_place c.self.inside.counts.entries c.args.value.now n c.self.invariant.apart (rw (← c.self.view_is) at at)
