use Rattle.std.proofs.Common.{List, map, flat_map, sym, ap, ◌∙◌}
use Rattle.std.specs.Borrow.{Bor}
use Rattle.star_sql.specs.declared.ast.ColumnName.{ColumnName}
use Rattle.star_sql.specs.declared.ast.Item.{Item}
use Rattle.star_sql.specs.declared.ast.TestWords.{TestWords}
use Rattle.star_meaning.specs.NameRefusals.{item_names, test_names}
use Rattle.star_bind.proofs.NameLemmas.{where_names, three_parts}
use Rattle.star_bind.proofs.names.name_checks.names_in.Goals as goal

pub returns : goal.returns
returns c =
    three_parts _ _ _ _ _ _ _ _ _ _ (ap (λ (xs : List (Bor ColumnName)). map (λ (x : Bor ColumnName). x.now) xs) c.new-names.ensures.items) c.in_ok-add_items.ensures c.in_ok-add_tests.ensures c.in_ok-add_names.ensures
    (ap (λ (xs : List Item). flat_map (λ (i : Item). item_names i.what) xs) c.as_slice.ensures)
    (ap (λ (xs : List (Bor TestWords)). flat_map test_names (map (λ (x : Bor TestWords). x.now) xs)) c.deref.ensures.value ∙ ap (flat_map test_names) c.in_ok-tests.ensures ∙ sym (where_names c.args.select.now.condition))
    c.as_slice-2.ensures
