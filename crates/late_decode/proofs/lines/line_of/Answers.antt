use Rattle.std.proofs.Common.{arith, ◌≡◌, ◌<◌, ◌++◌, [], ◌∷◌, ap, sym, ◌∙◌, subst, length, slice_index_or, slice_set}
use Rattle.blink_base.specs.declared.answer.Field.TheVariants.{Null}
use Rattle.late_decode.specs.declared.plan.Slot.TheVariants as slot
use Rattle.late_decode.specs.declared.source.Source.TheVariants.{Moved}
use Rattle.late_decode.specs.LineSteps.{group_fields, place_of}
use Rattle.late_decode.proofs.LineStepLemmas.{AreFields, here_first, as_many, field_moved, place_within, slot_good, line_more, some_there, one_field}
use Rattle.late_decode.proofs.lines.line_of.Goals as goal

pub loop-slot-init : goal.loop-slot-init
loop-slot-init c =
    let fields = group_fields c.args.measures.now (c.args.key, c.args.parts) in
    record {
      line = c.in_ok-line.ensures.items;
      left = subst (λ l. AreFields c.in_ok-line.line.items l fields) (sym c.in_ok-sources.ensures) (here_first c.in_ok-line.line.items fields);
    }

pub place_of-place-requires : goal.place_of-place-requires
place_of-place-requires c =
    let ms = c.args.measures.now in
    let fields = group_fields ms (c.args.key, c.args.parts) in
    let good = slot_good ms c.args.key c.args.parts c.requires.parts c.args.slots.now c.loop-slot.slot-index (slot.Key 0) c.requires.slots c.loop-slot-test.true in
    let lt = place_within ms c.args.key c.args.parts c.requires.parts (slice_index_or c.args.slots.now c.loop-slot.slot-index (slot.Key 0)) good in
    let many = as_many c.loop-slot.line.items c.loop-slot.sources.items fields c.loop-slot.invariant.left in
    omega (arith, lt, many, c.loop-slot.sources.ok, c.loop-slot.sources.small)

pub take_field-requires-clause-there : goal.take_field-requires-clause-there
take_field-requires-clause-there c =
    let ms = c.args.measures.now in
    let fields = group_fields ms (c.args.key, c.args.parts) in
    let good = slot_good ms c.args.key c.args.parts c.requires.parts c.args.slots.now c.loop-slot.slot-index (slot.Key 0) c.requires.slots c.loop-slot-test.true in
    let lt = place_within ms c.args.key c.args.parts c.requires.parts (slice_index_or c.args.slots.now c.loop-slot.slot-index (slot.Key 0)) good in
    let many = as_many c.loop-slot.line.items c.loop-slot.sources.items fields c.loop-slot.invariant.left in
    omega (arith, lt, many, c.place_of-place.ensures)

pub take_field-requires-clause-within : goal.take_field-requires-clause-within
take_field-requires-clause-within c =
    let ms = c.args.measures.now in
    let fields = group_fields ms (c.args.key, c.args.parts) in
    let good = slot_good ms c.args.key c.args.parts c.requires.parts c.args.slots.now c.loop-slot.slot-index (slot.Key 0) c.requires.slots c.loop-slot-test.true in
    let lt = place_within ms c.args.key c.args.parts c.requires.parts (slice_index_or c.args.slots.now c.loop-slot.slot-index (slot.Key 0)) good in
    let left = subst (λ l. AreFields l c.loop-slot.sources.items fields) (sym c.as_slice.ensures.value) c.loop-slot.invariant.left in
    some_there c.as_slice.result.now c.loop-slot.sources.items fields c.place_of-place.result (Moved 0) left (omega (arith, lt, c.place_of-place.ensures))

pub loop-slot-preserved : goal.loop-slot-preserved
loop-slot-preserved c =
    let ms = c.args.measures.now in
    let fields = group_fields ms (c.args.key, c.args.parts) in
    let line = c.loop-slot.line.items in
    let here = slice_index_or c.args.slots.now c.loop-slot.slot-index (slot.Key 0) in
    let good = slot_good ms c.args.key c.args.parts c.requires.parts c.args.slots.now c.loop-slot.slot-index (slot.Key 0) c.requires.slots c.loop-slot-test.true in
    let lt = place_within ms c.args.key c.args.parts c.requires.parts here good in
    let place : c.place_of-place.result ≡ place_of (length ms) here = c.place_of-place.ensures in
    let within : c.place_of-place.result < length fields = omega (arith, lt, place) in
    let left = subst (λ l. AreFields l c.loop-slot.sources.items fields) (sym c.as_slice.ensures.value) c.loop-slot.invariant.left in
    let field = one_field c.as_slice.result.now c.loop-slot.sources.items fields c.place_of-place.result (Moved 0) c.in_ok-field.field left within c.in_ok-field.ensures.value in
    let moved = field_moved line c.loop-slot.sources.items fields c.place_of-place.result c.in_ok-field.field c.loop-slot.invariant.left within field in
    let sources = c.in_ok-field.ensures.moved ∙ ap (λ l. slice_set c.loop-slot.sources.items c.place_of-place.result (Moved (length l))) c.as_slice.ensures.value in
    record {
      line = c.in_ok-push.ensures.items
          ∙ line_more ms c.args.key c.args.parts c.requires.parts c.args.slots.now c.loop-slot.slot-index (slot.Key 0) c.requires.slots c.loop-slot-test.true line c.in_ok-field.field c.loop-slot.invariant.line
          (field ∙ ap (λ k. slice_index_or fields k Null) place);
      left = subst (λ l. AreFields l c.take_field.new.sources.items fields) (sym c.in_ok-push.ensures.items) (subst (λ l. AreFields (line ++ c.in_ok-field.field ∷ []) l fields) (sym sources) moved);
    }
