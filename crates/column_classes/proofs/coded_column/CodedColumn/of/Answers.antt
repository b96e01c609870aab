use Rattle.std.proofs.Common.{◌≡◌, ◌∙◌, ap, length, arith}
use Rattle.blink_histogram.specs.Ranks.{counted}
use Rattle.column_classes.proofs.CodedColumnLemmas.{numbers_within, places_made, all_placed}
use Rattle.column_classes.proofs.coded_column.CodedColumn.of.Goals as goal

pub invariant_of-result : goal.invariant_of-result
invariant_of-result c =
    let counts = counted c.args.column in
    let classes = c.args.classes.now in
    let at = c.loop-class in
    let is = c.interner-interner.ensures.counted in
    let end : at.class ≡ length classes = omega (arith, c.loop-class-test.false) in
    numbers_within counts classes at.places.items c.places_decode_to_their_values.ensures c.values_are_found_where_they_were.ensures c.requires.classes c.requires.values
    (all_placed c.interner-interner.result.now counts classes at.places.items at.class is end at.invariant.placed) (at.invariant.long ∙ ap length is) c.into_numbers.result.items c.args.column c.into_numbers.ensures

pub returns : goal.returns
returns c =
    let counts = counted c.args.column in
    let classes = c.args.classes.now in
    let at = c.loop-class in
    let end : at.class ≡ length classes = omega (arith, c.loop-class-test.false) in
    places_made counts classes at.places.items c.places_decode_to_their_values.ensures c.values_are_found_where_they_were.ensures c.requires.classes c.requires.values
    (all_placed c.interner-interner.result.now counts classes at.places.items at.class c.interner-interner.ensures.counted end at.invariant.placed) c.into_numbers.result.items c.args.column c.into_numbers.ensures
