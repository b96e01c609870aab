use Rattle.std.proofs.Common.{arith, ◌≡◌, ◌≤◌, ◌+◌, true, ap, sym, ◌∙◌, subst}
use Rattle.std.specs.List.{list_all}
use Rattle.blink_base.specs.Values.{same_row}
use Rattle.late_decode.specs.Bounds.{combinations_in, combinations_of, slot_within, slots_within}
use Rattle.late_decode.specs.Groups.{added}
use Rattle.group_tests.specs.Taken.{taken}
use Rattle.group_tests.proofs.groups.add_to.Goals as goal

pub returns : goal.returns
returns c =
    let key = c.key.inside.items.items in
    let parts = c.in_ok-parts_of.field-0 in
    let before = c.args.groups.now.1 in
    let slots = c.args.slots.now in
    let first : c.add.new.self.1 ≡ added same_row c.args.groups.now.0 key parts before = c.in_ok-add.ensures.ok in
    let groups : c.add.new.self.1 ≡ added same_row taken key parts before = first ∙ ap (λ m. added same_row m key parts before) c.requires.measures in
    let more = c.combinations_added.ensures taken key parts before in
    let all : combinations_in taken c.add.new.self.1 ≤ combinations_in taken before + combinations_of parts = subst (λ g. combinations_in taken g ≤ combinations_in taken before + combinations_of parts) (sym groups) more in
    let had = c.requires.few in
    let some = c.in_ok-parts_of.ensures.1 in
    let fits : list_all (slot_within taken key) slots ≡ true = ap (λ k. list_all (slot_within taken k) slots) c.key.view_is ∙ sym c.are_within.ensures ∙ c.if-not-are_within.false in
    record {
      measures = c.add.ensures.measures ∙ c.requires.measures;
      few = omega (arith, all, had, some);
      within = ap (slots_within taken slots) groups ∙ c.slots_stay_within.ensures taken slots key parts before fits c.requires.within;
    }
