use Rattle.std.proofs.Common.{sym}
use Rattle.std.specs.Map.{keys_of}
use Rattle.blink_histogram.proofs.EntryLemmas.{own_place}
use Rattle.blink_histogram.proofs.interner.place.Goals as goal

pub returns-in-Some : goal.returns-in-Some
returns-in-Some c = sym (own_place c.args.counts.now.entries c.args.value.now c.in-Some.at c.requires.apart (c.find.ensures (keys_of c.args.counts.now.entries) c.in-Some.at c.requires.seen c.in-Some.is))
