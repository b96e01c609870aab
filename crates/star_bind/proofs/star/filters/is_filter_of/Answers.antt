use Rattle.std.proofs.Common.{List, ◌==◌, filter_map, map, not, sym, ap, ◌∙◌}
use Rattle.std.specs.Borrow.{Bor}
use Rattle.std.specs.List.{list_all}
use Rattle.blink_lists.specs.Lists.{once_each}
use Rattle.star_sql.specs.declared.ast.TestWords.{TestWords}
use Rattle.star_bind.specs.StarForm.{is_pair_factor}
use Rattle.star_bind.specs.FactorParts.{primary_of, table_named}
use Rattle.star_bind.specs.Lookup.{scope_from}
use Rattle.star_bind.proofs.FilterLemmas.{of_table_told}
use Rattle.star_bind.proofs.star.filters.is_filter_of.Goals as goal

pub returns : goal.returns
returns c =
    let here = λ (xs : List (Bor TestWords)). map (λ (x : Bor TestWords). x.now) xs in
    of_table_told (scope_from c.args.scope.now) (primary_of c.args.factor.now) c.args.table (here c.in_ok-tests.tests.items) c.in_ok-tables.tables c.are_all.result (not (is_pair_factor (primary_of c.args.factor.now)))
    (ap not (sym c.is_pair_factor.ensures ∙ c.if-is_pair_factor.false)) c.in_ok-tests.ensures
    (c.in_ok-tables.ensures ∙ ap (λ (xs : List (Bor TestWords)). once_each (λ x y. x == y) (filter_map (table_named (scope_from c.args.scope.now)) (here xs))) c.as_slice.ensures.value)
    (c.are_all.ensures ∙ ap (list_all (λ t. t == c.args.table)) c.as_slice-2.ensures)
