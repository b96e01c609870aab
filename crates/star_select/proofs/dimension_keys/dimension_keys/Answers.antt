use Rattle.std.proofs.Common.{◌+◌, length, List, [], sym, ap, ◌∙◌, subst}
use Rattle.std.specs.Prelude.{IsTrue}
use Rattle.std.specs.List.{list_all}
use Rattle.blink_base.specs.declared.schema.Schema.{Schema}
use Rattle.star_bind.specs.declared.query.Conjunction.{Conjunction}
use Rattle.star_bind.specs.Joins.{filters_at}
use Rattle.star_select.specs.CellTests.{are_apart}
use Rattle.star_select.specs.CodeSelection.{is_of_columns}
use Rattle.star_select.proofs.WantedKeyLemmas.{cells_absent, cells_few, cells_counted, with_rest, rest_absent, rest_few}
use Rattle.star_select.proofs.WantedPartLemmas.{condition_apart}
use Rattle.star_select.proofs.WantedRowLemmas.{conjunctions-named}
use Rattle.star_select.proofs.dimension_keys.dimension_keys.Goals as goal

pub collect_cells-requires-clause-columns : goal.collect_cells-requires-clause-columns
collect_cells-requires-clause-columns g c =
    let columns = length c.args.image.now.columns in
    subst (λ (cs : List Conjunction). IsTrue (list_all (is_of_columns columns) cs)) (sym c.conjunctions_of-conjunctions.ensures) (conjunctions-named columns (filters_at c.args.query.now c.args.table) c.requires.condition)

pub collect_cells-requires-clause-apart : goal.collect_cells-requires-clause-apart
collect_cells-requires-clause-apart g c =
    subst (λ (cs : List Conjunction). IsTrue (are_apart [] [] cs)) (sym c.conjunctions_of-conjunctions.ensures) (condition_apart (length c.args.image.now.columns) (filters_at c.args.query.now c.args.table) c.requires.condition)

pub collect_cells-requires-clause-absent : goal.collect_cells-requires-clause-absent
collect_cells-requires-clause-absent g c =
    cells_absent c.args.image.now c.args.query.now c.args.table c.args.wanted.now c.conjunctions_of-conjunctions.result.now c.new-keys.result c.new-keys.ensures c.conjunctions_of-conjunctions.ensures c.first_keys_are_keys.ensures c.requires.once

pub collect_cells-requires-clause-few : goal.collect_cells-requires-clause-few
collect_cells-requires-clause-few g c =
    cells_few c.args.image.now c.args.query.now c.args.table c.args.wanted.now c.conjunctions_of-conjunctions.result.now c.new-keys.result c.new-keys.ensures c.conjunctions_of-conjunctions.ensures c.requires.few

pub returns-in_err-collect_cells-clause-decodes : goal.returns-in_err-collect_cells-clause-decodes
returns-in_err-collect_cells-clause-decodes g c =
    cells_counted c.args.image.now c.args.query.now c.args.table c.args.wanted.now c.conjunctions_of-conjunctions.result.now c.new-keys.result c.new-keys.ensures c.conjunctions_of-conjunctions.ensures
    (1 + length c.args.wanted.now) c.args.decodes.now c.collect_cells.new.decodes c.collect_cells.ensures.decodes

pub collect_all_rest-requires-clause-columns : goal.collect_all_rest-requires-clause-columns
collect_all_rest-requires-clause-columns g c =
    let columns = length c.args.image.now.columns in
    subst (λ (cs : List Conjunction). IsTrue (list_all (is_of_columns columns) cs)) (sym c.conjunctions_of-conjunctions.ensures) (conjunctions-named columns (filters_at c.args.query.now c.args.table) c.requires.condition)

pub collect_all_rest-requires-clause-absent : goal.collect_all_rest-requires-clause-absent
collect_all_rest-requires-clause-absent g c =
    rest_absent c.args.image.now c.args.query.now c.args.table c.args.wanted.now c.conjunctions_of-conjunctions.result.now c.new-keys.result c.new-keys.ensures c.conjunctions_of-conjunctions.ensures
    c.in-Some.key (ap (λ (s : Schema). s.key) (sym c.schema.ensures) ∙ c.in-Some.is) c.collect_cells.new.into c.in_ok-collect_cells.ensures.keys c.requires.once

pub collect_all_rest-requires-clause-few : goal.collect_all_rest-requires-clause-few
collect_all_rest-requires-clause-few g c =
    rest_few c.args.image.now c.args.query.now c.args.table c.args.wanted.now c.conjunctions_of-conjunctions.result.now c.new-keys.result c.new-keys.ensures c.conjunctions_of-conjunctions.ensures
    c.in-Some.key (ap (λ (s : Schema). s.key) (sym c.schema.ensures) ∙ c.in-Some.is) c.collect_cells.new.into c.in_ok-collect_cells.ensures.keys c.requires.few

pub returns-in_err-collect_all_rest-clause-decodes : goal.returns-in_err-collect_all_rest-clause-decodes
returns-in_err-collect_all_rest-clause-decodes g c =
    cells_counted c.args.image.now c.args.query.now c.args.table c.args.wanted.now c.conjunctions_of-conjunctions.result.now c.new-keys.result c.new-keys.ensures c.conjunctions_of-conjunctions.ensures
    (1 + length c.args.wanted.now) c.args.decodes.now c.collect_cells.new.decodes c.collect_cells.ensures.decodes

pub returns-clause-keys : goal.returns-clause-keys
returns-clause-keys g c =
    c.in_ok-collect_all_rest.ensures
    ∙ with_rest c.args.image.now c.args.query.now c.args.table c.args.wanted.now c.conjunctions_of-conjunctions.result.now c.new-keys.result c.new-keys.ensures c.conjunctions_of-conjunctions.ensures
    c.in-Some.key (ap (λ (s : Schema). s.key) (sym c.schema.ensures) ∙ c.in-Some.is) c.collect_cells.new.into c.in_ok-collect_cells.ensures.keys

pub returns-clause-decodes : goal.returns-clause-decodes
returns-clause-decodes g c =
    cells_counted c.args.image.now c.args.query.now c.args.table c.args.wanted.now c.conjunctions_of-conjunctions.result.now c.new-keys.result c.new-keys.ensures c.conjunctions_of-conjunctions.ensures
    (1 + length c.args.wanted.now) c.args.decodes.now c.collect_cells.new.decodes c.collect_cells.ensures.decodes
