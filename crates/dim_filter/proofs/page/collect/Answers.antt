use Rattle.std.proofs.Common.{◌+◌, ◌*◌, length, ap, sym, ◌∙◌, arith}
use Rattle.blink_base.specs.declared.schema.Schema.{Schema}
use Rattle.code_join.specs.declared.limits.TheConstants.{MOST_KEYS}
use Rattle.dim_filter.specs.Entries.{collected, key_column, chosen_rows}
use Rattle.dim_filter.proofs.PageLemmas.{no_row, next_in, next_new, next_few, next_put, next_counted, none-collected}
use Rattle.dim_filter.proofs.page.collect.Goals as goal

pub put_row-requires-clause-row : goal.put_row-requires-clause-row
put_row-requires-clause-row g c =
    next_in c.args.image.now c.args.cell c.args.page c.args.bits.now c.args.wanted.now c.args.into.now c.loop-place.into c.loop-place.from c.in-Some-next_set.place c.requires.bits c.in-Some-next_set.ensures.place c.in-Some-next_set.ensures.least c.loop-place.invariant.left

pub put_row-requires-clause-absent : goal.put_row-requires-clause-absent
put_row-requires-clause-absent g c =
    next_new c.args.image.now c.args.cell c.args.page c.args.bits.now c.args.wanted.now c.args.into.now c.loop-place.into c.loop-place.from c.in-Some-next_set.place c.requires.bits c.in-Some-next_set.ensures.place c.in-Some-next_set.ensures.least c.loop-place.invariant.left
    c.in-Some.key (ap (λ (s : Schema). s.key) (sym c.schema.ensures) ∙ c.in-Some.is) c.later_keys_are_new.ensures c.requires.absent

pub put_row-requires-clause-few : goal.put_row-requires-clause-few
put_row-requires-clause-few g c =
    next_few c.args.image.now c.args.cell c.args.page c.args.bits.now c.args.wanted.now c.args.into.now c.loop-place.into c.loop-place.from c.in-Some-next_set.place c.requires.bits c.in-Some-next_set.ensures.place c.in-Some-next_set.ensures.least c.loop-place.invariant.left
    MOST_KEYS c.requires.few

pub returns-in_err-put_row-clause-decodes : goal.returns-in_err-put_row-clause-decodes
returns-in_err-put_row-clause-decodes g c =
    let counted =
    next_counted c.args.image.now c.args.cell c.args.page c.args.bits.now c.args.wanted.now c.args.into.now c.loop-place.into c.loop-place.from c.in-Some-next_set.place c.requires.bits c.in-Some-next_set.ensures.place c.in-Some-next_set.ensures.least c.loop-place.invariant.left
    c.loop-place.decodes c.put_row.new.decodes (c.args.decodes.now + length (chosen_rows c.args.image.now c.args.cell c.args.page c.args.bits.now) * (1 + length c.args.wanted.now)) (1 + length c.args.wanted.now) c.loop-place.invariant.counted
    c.put_row.ensures.decodes in
    omega (arith, counted)

pub loop-place-preserved : goal.loop-place-preserved
loop-place-preserved g c = record {
  left =
      next_put c.args.image.now c.args.cell c.args.page c.args.bits.now c.args.wanted.now c.args.into.now c.loop-place.into c.loop-place.from c.in-Some-next_set.place c.requires.bits c.in-Some-next_set.ensures.place c.in-Some-next_set.ensures.least c.loop-place.invariant.left
      c.in-Some.key (ap (λ (s : Schema). s.key) (sym c.schema.ensures) ∙ c.in-Some.is) c.put_row.new.into c.in_ok-put_row.ensures.keys;
  counted =
      next_counted c.args.image.now c.args.cell c.args.page c.args.bits.now c.args.wanted.now c.args.into.now c.loop-place.into c.loop-place.from c.in-Some-next_set.place c.requires.bits c.in-Some-next_set.ensures.place c.in-Some-next_set.ensures.least c.loop-place.invariant.left
      c.loop-place.decodes c.put_row.new.decodes (c.args.decodes.now + length (chosen_rows c.args.image.now c.args.cell c.args.page c.args.bits.now) * (1 + length c.args.wanted.now)) (1 + length c.args.wanted.now) c.loop-place.invariant.counted
      c.put_row.ensures.decodes;
  within = let place = c.in-Some-next_set.ensures.place.1 in omega (arith, place);
}

pub returns-clause-keys : goal.returns-clause-keys
returns-clause-keys g c =
    sym (none-collected (key_column c.args.image.now) c.args.wanted.now c.loop-place.into)
    ∙ ap (collected (key_column c.args.image.now) c.args.wanted.now c.loop-place.into) (sym (no_row c.args.image.now c.args.cell c.args.page c.args.bits.now c.loop-place.from c.in_default.ensures.none))
    ∙ c.loop-place.invariant.left
