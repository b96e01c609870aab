use Rattle.star_select.proofs.query_finish.slots_of.Goals as goal

pub returns-else-plain : goal.returns-else-plain
returns-else-plain c = rw (c.if-plain.false, ← c.as_slice.ensures, ← c.as_slice-items.ensures) c.group_slots.ensures
