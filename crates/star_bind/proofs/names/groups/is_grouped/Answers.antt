use Rattle.std.proofs.Common.{List, map, sym, ap, ◌∙◌}
use Rattle.std.specs.Prelude.{option_map}
use Rattle.std.specs.List.{list_all}
use Rattle.star_sql.specs.declared.ast.ColumnName.{ColumnName}
use Rattle.star_sql.specs.declared.ast.Item.{Item}
use Rattle.star_meaning.specs.Names.{place_of}
use Rattle.star_bind.specs.Lookup.{scope_from, place_in, item_stands}
use Rattle.star_bind.proofs.GroupRuleLemmas.{grouped_told}
use Rattle.star_bind.proofs.names.groups.is_grouped.Goals as goal

pub returns : goal.returns
returns c =
    let scope = scope_from c.args.scope.now in
    grouped_told scope c.args.select.now c.as_slice-2.result.now c.all_stand.result (sym c.needs_groups.ensures ∙ c.if-not-needs_groups.false)
    (c.as_slice-2.ensures.value ∙ c.in_ok-places.ensures ∙ ap (λ (gs : List ColumnName). map (λ (g : ColumnName). option_map place_in (place_of scope g)) gs) c.as_slice.ensures)
    (c.all_stand.ensures ∙ ap (λ (is : List Item). list_all (λ (i : Item). item_stands scope c.as_slice-2.result.now i.what) is) c.as_slice-3.ensures)
