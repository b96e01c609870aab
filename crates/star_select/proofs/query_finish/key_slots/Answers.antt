use Rattle.std.proofs.Common.{◌≡◌, ℕ, ◌+◌, ◌<◌, List, ◌∷◌, map, length, drop, refl, arith, add-one, drop-cons}
use Rattle.std.proofs.lemmas.Grind.{common_steps}
use Rattle.blink_lists.specs.Lists.{numbered_from}
use Rattle.star_bind.specs.declared.query.BoundItem.{BoundItem}
use Rattle.star_bind.specs.declared.query.BoundItem.TheVariants.{Count}
use Rattle.late_decode.specs.declared.plan.Slot.TheVariants.{Key}
use Rattle.star_select.proofs.query_finish.key_slots.Goals as goal

-- the slot of the next item
slots-next : (items : List BoundItem) (at : ℕ) → at < length items → map (λ p. Key p.0) (numbered_from at (drop at items)) ≡ Key at ∷ map (λ p. Key p.0) (numbered_from (at + 1) (drop (at + 1) items))
slots-next items at lt = rw (drop-cons items at Count, add-one) refl

pub loop-at-preserved : goal.loop-at-preserved
loop-at-preserved c = let next = slots-next c.args.items.now c.loop-at.at c.loop-at-test.true in grind (arith, common_steps)
