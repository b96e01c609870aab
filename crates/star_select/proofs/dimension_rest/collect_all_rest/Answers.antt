use Rattle.std.proofs.Common.{◌<◌, List, [], ◌∷◌, map, length, All, sym, ap, subst, arith}
use Rattle.std.specs.Prelude.{IsTrue}
use Rattle.std.specs.List.{list_all}
use Rattle.std.proofs.lemmas.List.{length-map}
use Rattle.blink_base.specs.Values.{Row}
use Rattle.code_join.specs.declared.limits.TheConstants.{MOST_KEYS}
use Rattle.star_select.specs.CodeSelection.{is_of_columns}
use Rattle.star_select.specs.WantedRows.{rest_wanted}
use Rattle.star_select.proofs.CollectedLemmas.{next_absent, next_few, next_put, last_put}
use Rattle.star_select.proofs.WantedPartLemmas.{rest_joined, rest_part, row_long}
use Rattle.star_select.proofs.dimension_rest.collect_all_rest.Goals as goal

pub collect_row-requires-clause-columns : goal.collect_row-requires-clause-columns
collect_row-requires-clause-columns g c =
    let long = row_long c.args.image.now c.rest-row-items.result.now c.loop-row.row-index c.row-item.result c.requires.valid c.rest-row-items.ensures c.loop-row-test.true c.row-item.is in
    subst (λ n. IsTrue (list_all (is_of_columns n) c.args.conjunctions.now)) (sym long) c.requires.columns

pub collect_row-requires-clause-key : goal.collect_row-requires-clause-key
collect_row-requires-clause-key g c =
    let long = row_long c.args.image.now c.rest-row-items.result.now c.loop-row.row-index c.row-item.result c.requires.valid c.rest-row-items.ensures c.loop-row-test.true c.row-item.is in
    subst (λ n. c.args.key < n) (sym long) c.requires.key

pub collect_row-requires-clause-wanted : goal.collect_row-requires-clause-wanted
collect_row-requires-clause-wanted g c =
    let long = row_long c.args.image.now c.rest-row-items.result.now c.loop-row.row-index c.row-item.result c.requires.valid c.rest-row-items.ensures c.loop-row-test.true c.row-item.is in
    subst (λ n. All (λ column. column < n) c.args.wanted.now) (sym long) c.requires.wanted

pub collect_row-requires-clause-absent : goal.collect_row-requires-clause-absent
collect_row-requires-clause-absent g c =
    let at = rest_part c.args.conjunctions.now c.args.image.now.rest c.rest-row-items.result.now c.loop-row.row-index c.row-item.result c.rest-row-items.ensures c.loop-row-test.true c.row-item.is in
    next_absent _ _ _ _ at c.args.key c.args.wanted.now c.args.into.now c.loop-row.into c.loop-row.invariant c.first_keys_are_keys.ensures c.requires.absent

pub collect_row-requires-clause-few : goal.collect_row-requires-clause-few
collect_row-requires-clause-few g c =
    let at = rest_part c.args.conjunctions.now c.args.image.now.rest c.rest-row-items.result.now c.loop-row.row-index c.row-item.result c.rest-row-items.ensures c.loop-row-test.true c.row-item.is in
    next_few _ _ _ _ at c.args.key c.args.wanted.now c.args.into.now c.loop-row.into c.loop-row.invariant MOST_KEYS c.requires.few

pub loop-row-preserved : goal.loop-row-preserved
loop-row-preserved g c =
    let at = rest_part c.args.conjunctions.now c.args.image.now.rest c.rest-row-items.result.now c.loop-row.row-index c.row-item.result c.rest-row-items.ensures c.loop-row-test.true c.row-item.is in
    next_put _ _ _ _ at c.args.key c.args.wanted.now c.args.into.now c.loop-row.into c.loop-row.invariant c.collect_row.new.into c.in_ok-collect_row.ensures

pub returns : goal.returns
returns g c =
    let one = λ (row : Row). rest_wanted c.args.conjunctions.now (row ∷ []) in
    let rest = ap (λ (l : List Row). length l) c.rest-row-items.ensures in
    let long = length-map c.args.image.now.rest one in
    last_put (map one c.args.image.now.rest) c.loop-row.row-index (rest_wanted c.args.conjunctions.now c.args.image.now.rest) (rest_joined c.args.conjunctions.now c.args.image.now.rest) (omega (arith, rest, long))
    c.args.key c.args.wanted.now c.args.into.now c.loop-row.into c.loop-row.invariant
