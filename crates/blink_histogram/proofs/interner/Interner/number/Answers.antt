use Rattle.std.proofs.Common.{◌≡◌, ◌∙◌, sym, ap, arith}
use Rattle.std.specs.List.{IsDistinct}
use Rattle.blink_histogram.specs.InternerRepr.{numbered_values, counting, number_of, IsInterner}
use Rattle.std.proofs.Common.{subst}
use Rattle.indexmap.specs.IndexMap.{insert_entry}
use Rattle.blink_base.specs.Values.{same_value}
use Rattle.blink_histogram.proofs.EntryLemmas.{counted-counting, kept-interner, apart-counting, count-within, counting-adds, raised, added, old_place, new_place, numbered_there, still_there}
use Rattle.std.proofs.Common.{◌+◌, slice_get, Some}
use Rattle.std.specs.Map.{keys_of}
use Rattle.blink_histogram.proofs.interner.Interner.number.Goals as goal

pub overflow_add-index_mut : goal.overflow_add-index_mut
overflow_add-index_mut c =
    let within = count-within c.self.inside.counts.entries c.in-Some.at c.index_mut.result.now c.index_mut.ensures.value in
    let few = rw (← c.self.view_is) at c.requires in
    omega arith

pub invariant_of-self : goal.invariant_of-self
invariant_of-self c =
    let es = c.self.inside.counts.entries in
    let at = sym c.place.ensures ∙ c.in-Some.is in
    let entries = raised es c.args.value.now c.in-Some.at c.index_mut.result.now at c.index_mut.ensures.value in
    let there = rw (old_place es c.args.value.now c.in-Some.at at) at (numbered_there es c.args.value.now) in
    subst (λ es. IsInterner es c.keep.new.self.seen.items) (sym entries)
    (kept-interner es c.args.value.now c.in-Some.at c.self.inside.recent.seen.items c.keep.new.self.seen.items c.self.invariant (rw (← c.self.view_is) at c.requires)
    (apart-counting es c.args.value.now c.in-Some.at (c.index_mut.result.now + 1) c.self.invariant.apart entries) there c.keep.ensures)

pub returns-in-Some-clause-counted : goal.returns-in-Some-clause-counted
returns-in-Some-clause-counted c column stood =
    let entries = raised c.self.inside.counts.entries c.args.value.now c.in-Some.at c.index_mut.result.now (sym c.place.ensures ∙ c.in-Some.is) c.index_mut.ensures.value in
    entries ∙ ap (λ es. counting es c.args.value.now) (c.self.view_is ∙ stood) ∙ sym (counted-counting column c.args.value.now)

pub invariant_of-self-in-None : goal.invariant_of-self-in-None
invariant_of-self-in-None c =
    let es = c.self.inside.counts.entries in
    let at = sym c.place.ensures ∙ c.in-None.is in
    let entries = c.in_ok-insert-in-None.ensures.entries ∙ ap (λ v. insert_entry same_value es v 1) c.in_ok-key-in-None.ensures ∙ added es c.args.value.now at in
    let place = c.len-number.ensures.len ∙ sym (new_place es c.args.value.now at) in
    let there = subst (λ n. slice_get (keys_of (counting es c.args.value.now)) n ≡ Some c.args.value.now) (sym place) (numbered_there es c.args.value.now) in
    subst (λ es. IsInterner es c.keep-in-None.new.self.seen.items) (sym entries)
    (kept-interner es c.args.value.now c.len-number.result c.self.inside.recent.seen.items c.keep-in-None.new.self.seen.items c.self.invariant (rw (← c.self.view_is) at c.requires)
    (subst (λ es. IsDistinct same_value (keys_of es)) entries c.in_ok-insert-in-None.ensures.unique) there (λ keys seen. c.keep-in-None.ensures keys (c.in_ok-make_room-in-None.ensures keys seen)))

pub returns-in_ok-insert-in-None-clause-number : goal.returns-in_ok-insert-in-None-clause-number
returns-in_ok-insert-in-None-clause-number c =
    let place = new_place c.self.inside.counts.entries c.args.value.now (sym c.place.ensures ∙ c.in-None.is) in
    c.len-number.ensures.len ∙ sym place ∙ ap (λ es. number_of es c.args.value.now) c.self.view_is

pub returns-in_ok-insert-in-None-clause-counted : goal.returns-in_ok-insert-in-None-clause-counted
returns-in_ok-insert-in-None-clause-counted c column stood =
    let entries = c.in_ok-insert-in-None.ensures.entries ∙ ap (λ v. insert_entry same_value c.self.inside.counts.entries v 1) c.in_ok-key-in-None.ensures
    ∙ added c.self.inside.counts.entries c.args.value.now (sym c.place.ensures ∙ c.in-None.is) in
    entries ∙ ap (λ es. counting es c.args.value.now) (c.self.view_is ∙ stood) ∙ sym (counted-counting column c.args.value.now)

pub returns-in-Some-clause-there : goal.returns-in-Some-clause-there
returns-in-Some-clause-there c =
    let at = sym c.place.ensures ∙ c.in-Some.is in
    let entries = raised c.self.inside.counts.entries c.args.value.now c.in-Some.at c.index_mut.result.now at c.index_mut.ensures.value in
    let there = numbered_there c.self.inside.counts.entries c.args.value.now in
    subst (λ es. slice_get (keys_of es) c.in-Some.at ≡ Some c.args.value.now) (sym entries) (rw (old_place c.self.inside.counts.entries c.args.value.now c.in-Some.at at) at there)

pub returns-in-Some-clause-more : goal.returns-in-Some-clause-more
returns-in-Some-clause-more c =
    let entries = raised c.self.inside.counts.entries c.args.value.now c.in-Some.at c.index_mut.result.now (sym c.place.ensures ∙ c.in-Some.is) c.index_mut.ensures.value in
    ap numbered_values entries ∙ counting-adds c.self.inside.counts.entries c.args.value.now ∙ ap (λ es. numbered_values es + 1) c.self.view_is

pub returns-in_ok-insert-in-None-clause-there : goal.returns-in_ok-insert-in-None-clause-there
returns-in_ok-insert-in-None-clause-there c =
    let at = sym c.place.ensures ∙ c.in-None.is in
    let entries = c.in_ok-insert-in-None.ensures.entries ∙ ap (λ v. insert_entry same_value c.self.inside.counts.entries v 1) c.in_ok-key-in-None.ensures ∙ added c.self.inside.counts.entries c.args.value.now at in
    let place = c.len-number.ensures.len ∙ sym (new_place c.self.inside.counts.entries c.args.value.now at) in
    let there = numbered_there c.self.inside.counts.entries c.args.value.now in
    subst (λ n. slice_get (keys_of c.insert.new.self.entries) n ≡ Some c.args.value.now) (sym place) (subst (λ es. slice_get (keys_of es) (number_of c.self.inside.counts.entries c.args.value.now) ≡ Some c.args.value.now) (sym entries) there)

pub returns-in_ok-insert-in-None-clause-more : goal.returns-in_ok-insert-in-None-clause-more
returns-in_ok-insert-in-None-clause-more c =
    let entries = c.in_ok-insert-in-None.ensures.entries ∙ ap (λ v. insert_entry same_value c.self.inside.counts.entries v 1) c.in_ok-key-in-None.ensures
    ∙ added c.self.inside.counts.entries c.args.value.now (sym c.place.ensures ∙ c.in-None.is) in
    ap numbered_values entries ∙ counting-adds c.self.inside.counts.entries c.args.value.now ∙ ap (λ es. numbered_values es + 1) c.self.view_is

pub returns-in-Some-clause-kept : goal.returns-in-Some-clause-kept
returns-in-Some-clause-kept c n v stood =
    let es = c.self.inside.counts.entries in
    let entries = raised es c.args.value.now c.in-Some.at c.index_mut.result.now (sym c.place.ensures ∙ c.in-Some.is) c.index_mut.ensures.value in
    subst (λ all. slice_get (keys_of all) n ≡ Some v) (sym entries) (still_there es c.args.value.now n v (rw (← c.self.view_is) at stood))

pub returns-in_ok-insert-in-None-clause-kept : goal.returns-in_ok-insert-in-None-clause-kept
returns-in_ok-insert-in-None-clause-kept c n v stood =
    let es = c.self.inside.counts.entries in
    let entries = c.in_ok-insert-in-None.ensures.entries ∙ ap (λ w. insert_entry same_value es w 1) c.in_ok-key-in-None.ensures ∙ added es c.args.value.now (sym c.place.ensures ∙ c.in-None.is) in
    subst (λ all. slice_get (keys_of all) n ≡ Some v) (sym entries) (still_there es c.args.value.now n v (rw (← c.self.view_is) at stood))
