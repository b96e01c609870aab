use Rattle.blink_run.proofs.FetchLemmas.{whole_fetched, absent_fetched, long_fetched}
use Rattle.blink_run.proofs.statements.files.fetch_csv.Goals as goal

pub returns-in-Ok-Whole-clause-got : goal.returns-in-Ok-Whole-clause-got
returns-in-Ok-Whole-clause-got g c state are =
    let looked = rw c.in-Ok-Whole.field-0-is at c.in-Ok-Whole.ensures.found in
    whole_fetched (g.S.Store.files c.args.store.now) state c.args.name.now c.fetch.new.into.items c.short_enough.result c.short_enough.ensures looked are

pub returns-in-Ok-Absent-clause-got : goal.returns-in-Ok-Absent-clause-got
returns-in-Ok-Absent-clause-got g c state are =
    let looked = rw c.in-Ok-Absent.field-0-is at c.in-Ok-Absent.ensures.found in
    absent_fetched (g.S.Store.files c.args.store.now) state c.args.name.now c.fetch.new.into.items looked are

pub returns-in-Ok-Long-clause-got : goal.returns-in-Ok-Long-clause-got
returns-in-Ok-Long-clause-got g c state are =
    let looked = rw c.in-Ok-Long.field-0-is at c.in-Ok-Long.ensures.found in
    long_fetched (g.S.Store.files c.args.store.now) state c.args.name.now c.fetch.new.into.items looked are
