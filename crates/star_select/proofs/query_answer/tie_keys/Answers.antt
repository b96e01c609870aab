use Rattle.std.proofs.Common.{◌<◌, ℕ, List, [], Bor, map, length, slice_index_or, sym, ap, subst, ◌∙◌}
use Rattle.std.specs.List.{All}
use Rattle.star_bind.specs.declared.query.Tie.{Tie}
use Rattle.star_bind.specs.BoundQuery.{scope_of}
use Rattle.cell_layout.specs.Image.{TableImage}
use Rattle.code_join.specs.Keys.{are_keys}
use Rattle.dim_filter.specs.Entries.{collected, key_column}
use Rattle.star_select.specs.CodeSelection.{image_wanted}
use Rattle.star_select.proofs.QueryAnswerLemmas.{tie-at, tie-there, tie-read, tie-given, tie-decoded}
use Rattle.star_select.proofs.query_answer.tie_keys.Goals as goal

pub dimension_keys-requires-clause-valid : goal.dimension_keys-requires-clause-valid
dimension_keys-requires-clause-valid g c =
    let over = c.requires.over in
    let schemas = over.0 in
    let s = over.1 in
    let is = over.2 in
    let tie : Tie = slice_index_or c.as_slice.result.now c.args.place (record { dimension = 0; column = 0 }) in
    let here = tie-at c.args.query.now.ties c.as_slice.result.now c.args.place (record { dimension = 0; column = 0 }) c.as_slice.ensures c.requires.place in
    let image = tie-read (λ (i : Bor TableImage). i.now) c.args.images.now (scope_of schemas s) c.args.query.now tie c.index-images-dimension.result
    (tie-there c.queries_have_shape.ensures c.images_may_be_asked.ensures c.ties_have_dimensions.ensures c.conditions_are_there.ensures c.keys_by_codes.ensures c.keys_once.ensures schemas s (map (λ (i : Bor TableImage). i.now) c.args.images.now) c.args.query.now is c.args.place tie here)
    c.index-images-dimension.is in
    image.valid

pub dimension_keys-requires-clause-few : goal.dimension_keys-requires-clause-few
dimension_keys-requires-clause-few g c =
    let over = c.requires.over in
    let schemas = over.0 in
    let s = over.1 in
    let is = over.2 in
    let tie : Tie = slice_index_or c.as_slice.result.now c.args.place (record { dimension = 0; column = 0 }) in
    let here = tie-at c.args.query.now.ties c.as_slice.result.now c.args.place (record { dimension = 0; column = 0 }) c.as_slice.ensures c.requires.place in
    let image = tie-read (λ (i : Bor TableImage). i.now) c.args.images.now (scope_of schemas s) c.args.query.now tie c.index-images-dimension.result
    (tie-there c.queries_have_shape.ensures c.images_may_be_asked.ensures c.ties_have_dimensions.ensures c.conditions_are_there.ensures c.keys_by_codes.ensures c.keys_once.ensures schemas s (map (λ (i : Bor TableImage). i.now) c.args.images.now) c.args.query.now is c.args.place tie here)
    c.index-images-dimension.is in
    image.few

pub dimension_keys-requires-clause-table : goal.dimension_keys-requires-clause-table
dimension_keys-requires-clause-table g c =
    let over = c.requires.over in
    let schemas = over.0 in
    let s = over.1 in
    let is = over.2 in
    let tie : Tie = slice_index_or c.as_slice.result.now c.args.place (record { dimension = 0; column = 0 }) in
    let here = tie-at c.args.query.now.ties c.as_slice.result.now c.args.place (record { dimension = 0; column = 0 }) c.as_slice.ensures c.requires.place in
    let image = tie-read (λ (i : Bor TableImage). i.now) c.args.images.now (scope_of schemas s) c.args.query.now tie c.index-images-dimension.result
    (tie-there c.queries_have_shape.ensures c.images_may_be_asked.ensures c.ties_have_dimensions.ensures c.conditions_are_there.ensures c.keys_by_codes.ensures c.keys_once.ensures schemas s (map (λ (i : Bor TableImage). i.now) c.args.images.now) c.args.query.now is c.args.place tie here)
    c.index-images-dimension.is in
    image.table

pub dimension_keys-requires-clause-condition : goal.dimension_keys-requires-clause-condition
dimension_keys-requires-clause-condition g c =
    let over = c.requires.over in
    let schemas = over.0 in
    let s = over.1 in
    let is = over.2 in
    let tie : Tie = slice_index_or c.as_slice.result.now c.args.place (record { dimension = 0; column = 0 }) in
    let here = tie-at c.args.query.now.ties c.as_slice.result.now c.args.place (record { dimension = 0; column = 0 }) c.as_slice.ensures c.requires.place in
    let image = tie-read (λ (i : Bor TableImage). i.now) c.args.images.now (scope_of schemas s) c.args.query.now tie c.index-images-dimension.result
    (tie-there c.queries_have_shape.ensures c.images_may_be_asked.ensures c.ties_have_dimensions.ensures c.conditions_are_there.ensures c.keys_by_codes.ensures c.keys_once.ensures schemas s (map (λ (i : Bor TableImage). i.now) c.args.images.now) c.args.query.now is c.args.place tie here)
    c.index-images-dimension.is in
    image.condition

pub dimension_keys-requires-clause-key : goal.dimension_keys-requires-clause-key
dimension_keys-requires-clause-key g c =
    let over = c.requires.over in
    let schemas = over.0 in
    let s = over.1 in
    let is = over.2 in
    let tie : Tie = slice_index_or c.as_slice.result.now c.args.place (record { dimension = 0; column = 0 }) in
    let here = tie-at c.args.query.now.ties c.as_slice.result.now c.args.place (record { dimension = 0; column = 0 }) c.as_slice.ensures c.requires.place in
    let image = tie-read (λ (i : Bor TableImage). i.now) c.args.images.now (scope_of schemas s) c.args.query.now tie c.index-images-dimension.result
    (tie-there c.queries_have_shape.ensures c.images_may_be_asked.ensures c.ties_have_dimensions.ensures c.conditions_are_there.ensures c.keys_by_codes.ensures c.keys_once.ensures schemas s (map (λ (i : Bor TableImage). i.now) c.args.images.now) c.args.query.now is c.args.place tie here)
    c.index-images-dimension.is in
    image.key

pub dimension_keys-requires-clause-wanted : goal.dimension_keys-requires-clause-wanted
dimension_keys-requires-clause-wanted g c =
    let over = c.requires.over in
    let schemas = over.0 in
    let s = over.1 in
    let is = over.2 in
    let tie : Tie = slice_index_or c.as_slice.result.now c.args.place (record { dimension = 0; column = 0 }) in
    let here = tie-at c.args.query.now.ties c.as_slice.result.now c.args.place (record { dimension = 0; column = 0 }) c.as_slice.ensures c.requires.place in
    let image = tie-read (λ (i : Bor TableImage). i.now) c.args.images.now (scope_of schemas s) c.args.query.now tie c.index-images-dimension.result
    (tie-there c.queries_have_shape.ensures c.images_may_be_asked.ensures c.ties_have_dimensions.ensures c.conditions_are_there.ensures c.keys_by_codes.ensures c.keys_once.ensures schemas s (map (λ (i : Bor TableImage). i.now) c.args.images.now) c.args.query.now is c.args.place tie here)
    c.index-images-dimension.is in
    let wanted = c.as_slice-2.ensures.value ∙ c.in_ok-wanted.ensures in
    subst (λ (w : List ℕ). All (λ column. column < length c.index-images-dimension.result.now.columns) w) (sym wanted) image.wanted

pub dimension_keys-requires-clause-once : goal.dimension_keys-requires-clause-once
dimension_keys-requires-clause-once g c =
    let over = c.requires.over in
    let schemas = over.0 in
    let s = over.1 in
    let is = over.2 in
    let tie : Tie = slice_index_or c.as_slice.result.now c.args.place (record { dimension = 0; column = 0 }) in
    let here = tie-at c.args.query.now.ties c.as_slice.result.now c.args.place (record { dimension = 0; column = 0 }) c.as_slice.ensures c.requires.place in
    let image = tie-read (λ (i : Bor TableImage). i.now) c.args.images.now (scope_of schemas s) c.args.query.now tie c.index-images-dimension.result
    (tie-there c.queries_have_shape.ensures c.images_may_be_asked.ensures c.ties_have_dimensions.ensures c.conditions_are_there.ensures c.keys_by_codes.ensures c.keys_once.ensures schemas s (map (λ (i : Bor TableImage). i.now) c.args.images.now) c.args.query.now is c.args.place tie here)
    c.index-images-dimension.is in
    let wanted = c.as_slice-2.ensures.value ∙ c.in_ok-wanted.ensures in
    ap (λ (w : List ℕ). are_keys (collected (key_column c.index-images-dimension.result.now) w [] (image_wanted c.index-images-dimension.result.now c.args.query.now tie.dimension))) wanted ∙ image.once

pub returns-clause-keys : goal.returns-clause-keys
returns-clause-keys g c schemas s same is there =
    let tie : Tie = slice_index_or c.as_slice.result.now c.args.place (record { dimension = 0; column = 0 }) in
    let here = tie-at c.args.query.now.ties c.as_slice.result.now c.args.place (record { dimension = 0; column = 0 }) c.as_slice.ensures c.requires.place in
    let image = tie-read (λ (i : Bor TableImage). i.now) c.args.images.now (scope_of schemas s) c.args.query.now tie c.index-images-dimension.result
    (tie-there c.queries_have_shape.ensures c.images_may_be_asked.ensures c.ties_have_dimensions.ensures c.conditions_are_there.ensures c.keys_by_codes.ensures c.keys_once.ensures schemas s (map (λ (i : Bor TableImage). i.now) c.args.images.now) c.args.query.now is c.args.place tie here)
    c.index-images-dimension.is in
    let wanted = c.as_slice-2.ensures.value ∙ c.in_ok-wanted.ensures in
    tie-given c.dimension_keys.result (scope_of schemas s) (map (λ (i : Bor TableImage). i.now) c.args.images.now) c.args.query.now tie same c.index-images-dimension.result.now c.as_slice-2.result.now image wanted (sym here ∙ there) c.dimension_keys.ensures.keys

pub returns-clause-decodes : goal.returns-clause-decodes
returns-clause-decodes g c schemas s same is there =
    let tie : Tie = slice_index_or c.as_slice.result.now c.args.place (record { dimension = 0; column = 0 }) in
    let here = tie-at c.args.query.now.ties c.as_slice.result.now c.args.place (record { dimension = 0; column = 0 }) c.as_slice.ensures c.requires.place in
    let image = tie-read (λ (i : Bor TableImage). i.now) c.args.images.now (scope_of schemas s) c.args.query.now tie c.index-images-dimension.result
    (tie-there c.queries_have_shape.ensures c.images_may_be_asked.ensures c.ties_have_dimensions.ensures c.conditions_are_there.ensures c.keys_by_codes.ensures c.keys_once.ensures schemas s (map (λ (i : Bor TableImage). i.now) c.args.images.now) c.args.query.now is c.args.place tie here)
    c.index-images-dimension.is in
    let wanted = c.as_slice-2.ensures.value ∙ c.in_ok-wanted.ensures in
    tie-decoded (scope_of schemas s) (map (λ (i : Bor TableImage). i.now) c.args.images.now) c.args.query.now tie same c.index-images-dimension.result.now c.as_slice-2.result.now c.args.decodes.now c.dimension_keys.new.decodes image wanted (sym here ∙ there) c.dimension_keys.ensures.decodes
