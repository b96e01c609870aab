use Rattle.std.proofs.Common.{◌≡◌, ◌<◌, ◌+◌, ◌∙◌, sym, ap, [], ◌∷◌, length, refl, arith, length-append}
use Rattle.csv.specs.Records.{fields_of}
use Rattle.blink_base.specs.RowFits.{is_entry}
use Rattle.blink_lists.proofs.FirstFaultLemmas.{behind_none}
use Rattle.blink_lists.proofs.ZipLemmas.{all-zip-none, all-zip-push}
use Rattle.blink_loader.specs.Batch.{value_of}
use Rattle.blink_loader.proofs.BatchLemmas.{value_read, value_refused, values_read}
use Rattle.blink_loader.proofs.batch.values_of.Goals as goal

pub loop-place-init : goal.loop-place-init
loop-place-init c = rw c.in-Ok.ensures.items (record { read = sym (behind_none _); long = refl; room = c.in-Ok.ensures.exact; entries = all-zip-none (λ p. is_entry p.0.kind p.1) c.args.columns.now })

pub returns-in-Err-clause-row : goal.returns-in-Err-clause-row
returns-in-Err-clause-row c = λ known.
    let other = c.fault_of.ensures.memory (λ same. known (cc same)) in
    let told = c.fault_of.ensures.told (λ same. known (cc same)) ∙ ap (value_of c.args.at (c.loop-place.place + 1)) (c.in-Err.ensures.value (λ same. other (cc same))) in
    sym (c.loop-place.invariant.read ∙ value_refused c.args.columns.now (fields_of c.args.fields.now) c.args.at c.loop-place.place c.index-columns-place.result c.field_of-bytes.result.now
    c.loop-place.values.items c.fault_of.result c.loop-place-test.true c.requires.fields c.index-columns-place.is c.field_of-bytes.ensures told)

pub loop-place-preserved : goal.loop-place-preserved
loop-place-preserved c =
    let next = value_read c.args.columns.now (fields_of c.args.fields.now) c.args.at c.loop-place.place c.index-columns-place.result c.field_of-bytes.result.now
    c.loop-place.values.items c.in-Ok-read.value c.loop-place-test.true c.requires.fields c.index-columns-place.is c.field_of-bytes.ensures (ap (value_of c.args.at (c.loop-place.place + 1)) (c.in-Ok-read.ensures.value (λ same. cc))) in
    let long = c.loop-place.invariant.long in
    let within : length c.loop-place.values.items < length c.args.columns.now = omega arith in
    rw c.push_reserved.ensures.items (record {
      read = c.loop-place.invariant.read ∙ next;
      long = omega (arith, length-append c.loop-place.values.items (c.in-Ok-read.value ∷ []));
      room = c.push_reserved.ensures.capacity ∙ c.loop-place.invariant.room;
      entries = all-zip-push (λ p. is_entry p.0.kind p.1) c.args.columns.now c.loop-place.values.items c.index-columns-place.result c.in-Ok-read.value within (rw long c.index-columns-place.is) c.loop-place.invariant.entries c.in-Ok-read.ensures.good;
    })

pub returns-clause-row : goal.returns-clause-row
returns-clause-row c =
    let end : c.loop-place.place ≡ length c.args.columns.now = omega arith in
    let all = values_read c.args.columns.now (fields_of c.args.fields.now) c.args.at c.loop-place.place c.loop-place.values.items end in
    λ known. rw c.from_vec.ensures (sym (c.loop-place.invariant.read ∙ all))
