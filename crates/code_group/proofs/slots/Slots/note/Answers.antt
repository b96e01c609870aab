use Rattle.std.proofs.Common.{◌≡◌, ◌≢◌, ◌<◌, ◌++◌, ◌+◌, [], ◌∷◌, ◌∙◌, sym, subst, arith, length, slice_set}
use Rattle.std.specs.Vec.{vec_len}
use Rattle.std.proofs.lemmas.Bool.{eqb-false}
use Rattle.code_group.specs.Slots.{AreSlots, number_of}
use Rattle.code_group.proofs.SlotLemmas.{noted}
use Rattle.code_group.proofs.slots.Slots.note.Goals as goal

pub returns-then-at-clause-noted : goal.returns-then-at-clause-noted
returns-then-at-clause-noted c tuples are here absent =
    let sizes = c.args.self.now.sizes.items in
    let slots = c.args.self.now.slots.items in
    let tuple = c.args.tuple.now in
    let same : c.number_of-number.result ≡ number_of sizes tuple = c.number_of-number.ensures.number ∙ (λ i. number_of (c.as_slice.ensures.value i) (c.entries.ensures i)) in
    let apart : vec_len c.args.self.now.slots ≢ 0 = eqb-false (vec_len c.args.self.now.slots) 0 (sym c.is_empty.ensures ∙ c.if-is_empty.false) in
    let some : 0 < length slots = omega (arith, apart) in
    subst (λ n. AreSlots sizes (slice_set slots n (c.args.at + 1)) (tuples ++ tuple ∷ [])) (sym same) (noted sizes slots tuple tuples c.args.at are some c.requires.within here absent)
