use Rattle.std.proofs.Common.{◌≡◌, ◌∙◌, length, refl, arith}
use Rattle.csv.specs.Records.{fields_of}
use Rattle.blink_loader.proofs.BatchLemmas.{next_name}
use Rattle.blink_lists.proofs.ZipLemmas.{no_pair}
use Rattle.blink_loader.proofs.batch.are_names.Goals as goal

pub returns-then-not-same_name : goal.returns-then-not-same_name
returns-then-not-same_name c =
    let next = next_name c.args.columns.now (fields_of c.args.header.now) c.loop-place.place c.index-columns-place.result c.field_of.result.now
    c.loop-place-test.true c.requires c.index-columns-place.is c.field_of.ensures in
    let name = rw c.as_str.ensures at c.if-not-same_name.ensures in
    rw (c.loop-place.invariant, next, ← name) refl

pub loop-place-preserved : goal.loop-place-preserved
loop-place-preserved c =
    let next = next_name c.args.columns.now (fields_of c.args.header.now) c.loop-place.place c.index-columns-place.result c.field_of.result.now
    c.loop-place-test.true c.requires c.index-columns-place.is c.field_of.ensures in
    let name = rw c.as_str.ensures at c.if-not-same_name.ensures in
    c.loop-place.invariant ∙ rw (next, ← name) refl

pub returns : goal.returns
returns c =
    let end : c.loop-place.place ≡ length c.args.columns.now = omega arith in
    rw (c.loop-place.invariant, end, no_pair c.args.columns.now (fields_of c.args.header.now)) refl
