use Rattle.std.proofs.Common.{◌≡◌, ◌∙◌, [], ◌∷◌, Ok, length, refl, sym, ap, ◌<◌, arith, length-append}
use Rattle.star_engine.proofs.InsertedRowsLemmas.{value_written, value_refused, values_written}
use Rattle.blink_lists.proofs.FirstFaultLemmas.{behind_none}
use Rattle.blink_base.specs.RowFits.{is_entry}
use Rattle.blink_lists.proofs.ZipLemmas.{all-zip-none, all-zip-push}
use Rattle.star_engine.proofs.inserted_rows.values_of.Goals as goal

pub loop-place-init : goal.loop-place-init
loop-place-init c = rw c.in_ok-values.ensures.items (record { made = sym (behind_none _); long = refl; entries = all-zip-none (λ p. is_entry p.0.kind p.1) c.args.columns.now })

pub returns-in-None-clause-row : goal.returns-in-None-clause-row
returns-in-None-clause-row c =
    c.loop-place.invariant.made
    ∙ value_refused c.args.columns.now c.args.literals.now c.args.at c.loop-place.place c.index-columns-place.result c.index-literals-place.result c.loop-place.values.items
    c.loop-place-test.true c.requires.fields c.index-columns-place.is c.index-literals-place.is (sym c.in-None.is ∙ c.in_ok-value.ensures.value)

pub loop-place-preserved : goal.loop-place-preserved
loop-place-preserved c =
    let made = value_written c.args.columns.now c.args.literals.now c.args.at c.loop-place.place c.index-columns-place.result c.index-literals-place.result c.loop-place.values.items c.in-Some.value
    c.loop-place-test.true c.requires.fields c.index-columns-place.is c.index-literals-place.is (sym c.in-Some.is ∙ c.in_ok-value.ensures.value) in
    let long = c.loop-place.invariant.long in
    let within : length c.loop-place.values.items < length c.args.columns.now = omega arith in
    let column = c.index-columns-place.is in
    rw c.in-Ok.ensures.items (record {
      made = c.loop-place.invariant.made ∙ made;
      long = omega (arith, length-append c.loop-place.values.items (c.in-Some.value ∷ []));
      entries = all-zip-push (λ p. is_entry p.0.kind p.1) c.args.columns.now c.loop-place.values.items c.index-columns-place.result c.in-Some.value within (rw long c.index-columns-place.is) c.loop-place.invariant.entries (rw c.in-Some.is at c.in_ok-value.ensures.entry);
    })

pub returns-clause-row : goal.returns-clause-row
returns-clause-row c =
    let end : c.loop-place.place ≡ length c.args.columns.now = omega arith in
    c.loop-place.invariant.made ∙ values_written c.args.columns.now c.args.literals.now c.args.at c.loop-place.place c.loop-place.values.items end ∙ ap (λ l. Ok l) (sym c.from_vec.ensures)
