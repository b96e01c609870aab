use Rattle.std.proofs.Common.{◌≡◌, ◌++◌, ◌∷◌, [], sym, ◌∙◌, arith}
use Rattle.std.proofs.lemmas.List.{take_all}
use Rattle.late_decode.specs.declared.plan.Pick.TheVariants.{Fact}
use Rattle.code_group.specs.Entries.{key_of_entries}
use Rattle.code_group.proofs.SpillLemmas.{entry-there, entry-within, key-more, key-long, pick-more, pick-within}
use Rattle.code_group.proofs.spill.key_of.Goals as goal

pub bounds-entries-at : goal.bounds-entries-at
bounds-entries-at g c = entry-there c.args.dicts.now c.args.classes.now c.args.keys.now c.args.picks.now c.args.entries.now c.loop-at.at c.requires.within c.loop-at-test.true

pub entry_value-value-requires-clause-entry : goal.entry_value-value-requires-clause-entry
entry_value-value-requires-clause-entry g c = entry-within c.args.dicts.now c.args.classes.now c.args.keys.now c.args.picks.now c.args.entries.now c.loop-at.at (Fact 0) c.requires.within c.loop-at-test.true

pub returns-in_err-copy-clause-decodes : goal.returns-in_err-copy-clause-decodes
returns-in_err-copy-clause-decodes g c =
    let had = c.loop-at.invariant.decodes in
    let more = c.entry_value-value.ensures.decodes in
    let within = pick-within c.args.picks.now c.loop-at.at (Fact 0) c.loop-at-test.true in
    omega (arith, had, more, within)

pub returns-in_err-push-clause-decodes : goal.returns-in_err-push-clause-decodes
returns-in_err-push-clause-decodes g c =
    let had = c.loop-at.invariant.decodes in
    let more = c.entry_value-value.ensures.decodes in
    let within = pick-within c.args.picks.now c.loop-at.at (Fact 0) c.loop-at-test.true in
    omega (arith, had, more, within)

pub loop-at-preserved : goal.loop-at-preserved
loop-at-preserved g c =
    let had = c.loop-at.invariant.decodes in
    let more = c.entry_value-value.ensures.decodes in
    let step = pick-more c.args.picks.now c.loop-at.at (Fact 0) c.loop-at-test.true in
    let value = c.in_ok-copy.ensures ∙ c.entry_value-value.ensures.value in
    let items : c.push.new.self.items ≡ c.loop-at.values.items ++ c.in_ok-copy.field-0 ∷ [] = c.in_ok-push.ensures.items in
    record {
      key = items ∙ (λ i. c.loop-at.invariant.key i ++ value i ∷ [])
          ∙ sym (key-more c.args.dicts.now c.args.classes.now c.args.keys.now c.args.picks.now c.args.entries.now c.loop-at.at (Fact 0) c.requires.within c.loop-at-test.true);
      decodes = omega (arith, had, more, step);
    }

pub returns-clause-key : goal.returns-clause-key
returns-clause-key g c =
    let whole = key_of_entries c.args.dicts.now c.args.classes.now c.args.keys.now c.args.picks.now c.args.entries.now in
    let long = key-long c.args.dicts.now c.args.classes.now c.args.keys.now c.args.picks.now c.args.entries.now c.requires.within in
    c.from_vec.ensures ∙ c.loop-at.invariant.key ∙ take_all c.loop-at.at whole (omega (arith, long))
