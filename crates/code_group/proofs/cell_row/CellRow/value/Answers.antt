use Rattle.std.proofs.Common.{◌∙◌, sym, ap, subst}
use Rattle.code_group.specs.CellRow.{IsTied}
use Rattle.code_group.specs.Entries.{value_of_entry}
use Rattle.code_group.proofs.CellRowLemmas.{row-pick}
use Rattle.code_group.proofs.cell_row.CellRow.value.Goals as goal

pub returns-clause-value : goal.returns-clause-value
returns-clause-value g c =
    let row = c.args.self.now in
    let maps = c.self.inside.maps.now in
    let tied = subst (λ r. IsTied r maps) c.self.view_is c.self.invariant.2 in
    let columns = c.dictionaries-dicts.ensures.columns ∙ ap (λ r. r.columns) c.self.view_is in
    let classes = c.cell_classes-classes.ensures ∙ ap (λ r. r.classes) c.self.view_is in
    let keys = ap (λ r. r.keys) c.self.view_is in
    c.entry_value.ensures.value
    ∙ (λ i. value_of_entry (columns i) (classes i) (keys i) c.args.pick (c.entry.ensures.entry i))
    ∙ sym (row-pick c.entries_by_place.ensures c.places_by_code.ensures row maps tied c.args.pick)
