use Rattle.std.proofs.Common.{List, ◌==◌, filter_map, map, length, not, ◌&&◌, ap, ◌∙◌}
use Rattle.std.specs.Borrow.{Bor}
use Rattle.std.specs.Prelude.{nat_le}
use Rattle.std.specs.List.{list_any}
use Rattle.blink_lists.specs.Lists.{once_each}
use Rattle.star_sql.specs.declared.ast.TestWords.{TestWords}
use Rattle.star_bind.specs.StarForm.{compares_columns}
use Rattle.star_bind.specs.FactorParts.{primary_of, table_named}
use Rattle.star_bind.specs.Lookup.{scope_from}
use Rattle.star_bind.proofs.FilterLemmas.{filter_told}
use Rattle.star_bind.proofs.star.filters.is_filter.Goals as goal

pub returns : goal.returns
returns c =
    let here = λ (xs : List (Bor TestWords)). map (λ (x : Bor TestWords). x.now) xs in
    filter_told (scope_from c.args.scope.now) (primary_of c.args.factor.now) (here c.in_ok-tests.tests.items) c.in_ok-tables.tables c.is_of_one_table.result c.in_ok-tests.ensures
    (c.in_ok-tables.ensures ∙ ap (λ (xs : List (Bor TestWords)). once_each (λ x y. x == y) (filter_map (table_named (scope_from c.args.scope.now)) (here xs))) c.as_slice.ensures.value)
    (c.is_of_one_table.ensures ∙ λ i. nat_le (length (c.as_slice-2.ensures i)) 1 && not (list_any compares_columns (here (c.as_slice-3.ensures.value i))))
