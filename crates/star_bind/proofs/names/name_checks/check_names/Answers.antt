use Rattle.std.proofs.Common.{List, map, ap, ◌∙◌}
use Rattle.std.specs.Borrow.{Bor}
use Rattle.std.specs.Prelude.{option_map}
use Rattle.star_sql.specs.declared.ast.ColumnName.{ColumnName}
use Rattle.star_sql.specs.declared.ast.Item.{Item}
use Rattle.star_meaning.specs.NameRefusals.{name_refusal}
use Rattle.star_meaning.specs.Answer.{item_place}
use Rattle.star_bind.specs.Checks.{names_told}
use Rattle.star_bind.specs.Lookup.{scope_from, place_in}
use Rattle.star_bind.proofs.NameLemmas.{told_lists, checked_lists}
use Rattle.star_bind.proofs.names.name_checks.check_names.Goals as goal

pub returns : goal.returns
returns c =
    let scope = scope_from c.args.scope.now in
    let places = c.as_slice-2.ensures.value ∙ c.in_ok-places.ensures ∙ ap (λ (xs : List Item). map (λ (i : Item). option_map place_in (item_place scope i)) xs) c.as_slice.ensures in
    let names = ap (λ (xs : List (Bor ColumnName)). map (λ (x : Bor ColumnName). x.now) xs) c.as_slice-3.ensures.value ∙ c.in_ok-names.ensures in
    let keys = ap (λ (xs : List (Bor ColumnName)). map (λ (x : Bor ColumnName). x.now) xs) c.as_slice-4.ensures.value ∙ c.in_ok-keys.ensures in
    checked_lists c.check_lists.result
    (names_told scope c.as_slice-2.result.now (map (λ (x : Bor ColumnName). x.now) c.as_slice-3.result.now) (map (λ (x : Bor ColumnName). x.now) c.as_slice-4.result.now))
    (name_refusal scope c.args.select.now)
    (told_lists scope c.args.select.now c.as_slice-2.result.now (map (λ (x : Bor ColumnName). x.now) c.as_slice-3.result.now) (map (λ (x : Bor ColumnName). x.now) c.as_slice-4.result.now) places names keys)
    c.check_lists.ensures
