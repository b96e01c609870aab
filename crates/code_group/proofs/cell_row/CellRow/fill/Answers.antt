use Rattle.std.proofs.Common.{◌≡◌, true, ◌∙◌, sym, ap, subst, arith}
use Rattle.std.proofs.lemmas.List.{take_all}
use Rattle.code_group.specs.CellRow.{IsTied, tuple_by}
use Rattle.code_group.specs.Entries.{sizes_in}
use Rattle.code_group.specs.Slots.{is_within}
use Rattle.code_group.proofs.CellRowLemmas.{row-within}
use Rattle.code_group.proofs.cell_row.CellRow.fill.Goals as goal

pub returns-clause-within : goal.returns-clause-within
returns-clause-within g c =
    let row = c.args.self.now in
    let maps = c.self.inside.maps.now in
    let picks = c.args.picks.now in
    let tied = subst (λ r. IsTied r maps) c.self.view_is c.self.invariant.2 in
    let all = c.loop-pick.invariant ∙ ap (tuple_by row) (take_all c.loop-pick.pick-index picks (omega arith)) in
    subst (λ t. is_within (sizes_in row.columns row.classes row.keys picks) t ≡ true) (sym all) (row-within c.entries_by_place.ensures c.places_by_code.ensures row maps tied picks c.requires)
