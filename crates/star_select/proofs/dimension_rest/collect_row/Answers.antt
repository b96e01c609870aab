use Rattle.std.proofs.Common.{◌≡◌, ◌≤◌, ◌+◌, List, length, sym, ap, ◌∙◌, subst, arith}
use Rattle.std.specs.Prelude.{IsTrue, OnOk}
use Rattle.blink_base.specs.Values.{Row}
use Rattle.code_join.specs.Keys.{are_keys}
use Rattle.code_join.specs.declared.limits.TheConstants.{MOST_KEYS}
use Rattle.dim_filter.specs.Entries.{collected}
use Rattle.dim_filter.proofs.PageLemmas.{none-collected}
use Rattle.star_select.proofs.WantedPartLemmas.{row_chosen, row_left, row_new}
use Rattle.star_select.proofs.dimension_rest.collect_row.Goals as goal

pub collect_rest-requires-clause-absent : goal.collect_rest-requires-clause-absent
collect_rest-requires-clause-absent c =
    let chosen = row_chosen c.args.conjunctions.now c.args.row.now c.is_wanted.result c.is_wanted.ensures c.if-is_wanted.true in
    row_new c.later_keys_are_new.ensures c.args.key c.args.wanted.now c.args.into.now c.args.row.now
    (subst (λ (rows : List Row). IsTrue (are_keys (collected c.args.key c.args.wanted.now c.args.into.now rows))) chosen c.requires.absent)

pub collect_rest-requires-clause-few : goal.collect_rest-requires-clause-few
collect_rest-requires-clause-few c =
    let chosen = row_chosen c.args.conjunctions.now c.args.row.now c.is_wanted.result c.is_wanted.ensures c.if-is_wanted.true in
    let few = subst (λ (rows : List Row). length c.args.into.now + length rows ≤ MOST_KEYS) chosen c.requires.few in
    omega (arith, few)

pub returns-then-is_wanted : goal.returns-then-is_wanted
returns-then-is_wanted c =
    let chosen = row_chosen c.args.conjunctions.now c.args.row.now c.is_wanted.result c.is_wanted.ensures c.if-is_wanted.true in
    subst (λ (rows : List Row). OnOk c.collect_rest.result (c.collect_rest.new.into ≡ collected c.args.key c.args.wanted.now c.args.into.now rows)) (sym chosen) c.collect_rest.ensures.keys

pub returns : goal.returns
returns c =
    let left = row_left c.args.conjunctions.now c.args.row.now c.is_wanted.result c.is_wanted.ensures c.if-is_wanted.false in
    sym (none-collected c.args.key c.args.wanted.now c.args.into.now) ∙ ap (collected c.args.key c.args.wanted.now c.args.into.now) (sym left)
