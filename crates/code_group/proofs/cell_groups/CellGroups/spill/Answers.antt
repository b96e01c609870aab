use Rattle.std.proofs.Common.{◌*◌, ℕ, List, reverse, length, sym, ap, subst, ◌∙◌, arith}
use Rattle.std.specs.List.{list_all}
use Rattle.cell_layout.specs.Image.{cell_at}
use Rattle.late_decode.specs.declared.plan.Part.{Part}
use Rattle.code_group.specs.CellRow.{HaveClasses}
use Rattle.code_group.specs.Entries.{key_of_entries, sizes_in}
use Rattle.code_group.specs.Plans.{fact_key_picks, fact_picks, pick_there}
use Rattle.code_group.specs.Slots.{is_within}
use Rattle.code_group.proofs.CellLemmas.{cell-facts, valid-cell}
use Rattle.code_group.proofs.PageLemmas.{one-more}
use Rattle.code_group.proofs.SpillLemmas.{turned, spill-within, spill-parts, spill-few, spill-step, spill-end, length-last, nothing-left}
use Rattle.code_group.proofs.cell_groups.CellGroups.spill.Goals as goal

pub key_of-requires-clause-classes : goal.key_of-requires-clause-classes
key_of-requires-clause-classes g c =
    let image = c.args.image.now in
    let facts = cell-facts image.columns (cell_at image c.args.cell) (valid-cell image c.args.cell c.requires.valid c.requires.cell) in
    subst (λ d. HaveClasses d c.cell_classes-classes.result.now) (sym c.dictionaries-dicts.ensures.columns)
    (subst (λ n. HaveClasses image.columns n) (sym c.cell_classes-classes.ensures) facts.classes)

pub key_of-requires-clause-picks : goal.key_of-requires-clause-picks
key_of-requires-clause-picks g c = (λ i. list_all (pick_there (length (c.dictionaries-dicts.ensures.columns i)) c.args.keys.now) (c.as_slice-picks.ensures i)) ∙ c.requires.picks

pub key_of-requires-clause-within : goal.key_of-requires-clause-within
key_of-requires-clause-within g c =
    let image = c.args.image.now in
    let classes = (cell_at image c.args.cell).classes in
    let keys = c.args.keys.now in
    let plan = c.args.plan.now in
    let left = c.loop-tuple.groups.entries in
    let rest = c.pop.new.self.entries in
    let group : List ℕ × List Part = (c.in-Some.tuple, c.in-Some.parts) in
    let next = turned image.columns classes keys plan c.args.self c.args.into.now.1 left rest group c.in-Some.ensures.entries in
    (λ i. is_within (sizes_in (c.dictionaries-dicts.ensures.columns i) (c.cell_classes-classes.ensures i) keys (c.as_slice-picks.ensures i)) (c.entries.ensures i))
    ∙ spill-within image.columns classes keys plan c.args.self c.args.into.now.1 (reverse left) group (reverse rest) c.loop-tuple.into next c.loop-tuple.invariant.spilling

pub add-requires-clause-parts : goal.add-requires-clause-parts
add-requires-clause-parts g c =
    let image = c.args.image.now in
    let classes = (cell_at image c.args.cell).classes in
    let keys = c.args.keys.now in
    let plan = c.args.plan.now in
    let left = c.loop-tuple.groups.entries in
    let rest = c.pop.new.self.entries in
    let group : List ℕ × List Part = (c.in-Some.tuple, c.in-Some.parts) in
    let next = turned image.columns classes keys plan c.args.self c.args.into.now.1 left rest group c.in-Some.ensures.entries in
    spill-parts image.columns classes keys plan c.args.self c.args.into.now.1 (reverse left) group (reverse rest) c.loop-tuple.into next c.loop-tuple.invariant.spilling

pub add-requires-clause-few : goal.add-requires-clause-few
add-requires-clause-few g c =
    let image = c.args.image.now in
    let classes = (cell_at image c.args.cell).classes in
    let keys = c.args.keys.now in
    let plan = c.args.plan.now in
    let left = c.loop-tuple.groups.entries in
    let rest = c.pop.new.self.entries in
    let group : List ℕ × List Part = (c.in-Some.tuple, c.in-Some.parts) in
    let next = turned image.columns classes keys plan c.args.self c.args.into.now.1 left rest group c.in-Some.ensures.entries in
    spill-few image.columns classes keys plan c.args.self c.args.into.now.1 (reverse left) group (reverse rest) c.loop-tuple.into next c.loop-tuple.invariant.spilling
    c.counts_bounded.ensures c.requires.few c.in_ok-key.key

pub loop-tuple-preserved : goal.loop-tuple-preserved
loop-tuple-preserved g c =
    let image = c.args.image.now in
    let classes = (cell_at image c.args.cell).classes in
    let keys = c.args.keys.now in
    let plan = c.args.plan.now in
    let left = c.loop-tuple.groups.entries in
    let rest = c.pop.new.self.entries in
    let group : List ℕ × List Part = (c.in-Some.tuple, c.in-Some.parts) in
    let next = turned image.columns classes keys plan c.args.self c.args.into.now.1 left rest group c.in-Some.ensures.entries in
    let key = c.in_ok-key.ensures.key ∙ (λ i. key_of_entries (c.dictionaries-dicts.ensures.columns i) (c.cell_classes-classes.ensures i) keys (c.as_slice-picks.ensures i) (c.entries.ensures i)) in
    let had = c.loop-tuple.invariant.decodes in
    let more = c.key_of.ensures.decodes in
    let picks = ap fact_picks c.as_slice-picks.ensures in
    let many = ap (λ n. n * fact_key_picks plan) (length-last left rest group c.in-Some.ensures.entries) in
    let split = one-more (length rest) (fact_key_picks plan) in
    record {
      spilling = spill-step image.columns classes keys plan c.args.self c.args.into.now.1 (reverse left) group (reverse rest) c.loop-tuple.into next c.loop-tuple.invariant.spilling
          c.added_are_groups.ensures c.counts_added.ensures c.in_ok-key.key c.add.new.self key c.add.ensures.measures c.in_ok-add.ensures.ok;
      decodes = omega (arith, had, more, picks, many, split);
    }

pub returns-clause-added : goal.returns-clause-added
returns-clause-added g c =
    let image = c.args.image.now in
    let left = c.loop-tuple.groups.entries in
    let none = nothing-left c.pop.result left c.in_default.is c.pop.ensures.found.1 in
    (spill-end image.columns (cell_at image c.args.cell).classes c.args.keys.now c.args.plan.now c.args.self c.args.into.now.1 c.counts_bounded.ensures (reverse left) c.loop-tuple.into (ap reverse none) c.loop-tuple.invariant.spilling).0

pub returns-clause-few : goal.returns-clause-few
returns-clause-few g c =
    let image = c.args.image.now in
    let left = c.loop-tuple.groups.entries in
    let none = nothing-left c.pop.result left c.in_default.is c.pop.ensures.found.1 in
    (spill-end image.columns (cell_at image c.args.cell).classes c.args.keys.now c.args.plan.now c.args.self c.args.into.now.1 c.counts_bounded.ensures (reverse left) c.loop-tuple.into (ap reverse none) c.loop-tuple.invariant.spilling).1
