use Rattle.std.proofs.Common.{◌≡◌, ◌∙◌, sym, ap, subst, slice_index_or, arith}
use Rattle.code_group.specs.CellRow.{IsTied}
use Rattle.code_group.specs.Entries.{maps_in, entry_in}
use Rattle.code_group.proofs.CellRowLemmas.{row-below}
use Rattle.code_group.proofs.cell_row.CellRow.entry.Goals as goal

pub returns-in-Fact-clause-within : goal.returns-in-Fact-clause-within
returns-in-Fact-clause-within g c =
    let row = c.args.self.now in
    let maps = c.self.inside.maps.now in
    let tied = subst (λ r. IsTied r maps) c.self.view_is c.self.invariant.2 in
    let entry : c.code.result ≡ entry_in row.ties (maps_in row.columns row.classes row.ties row.keys) row.codes c.args.pick =
    c.code.ensures ∙ ap (λ r. slice_index_or r.codes c.in-Fact.column 0) c.self.view_is ∙ ap (entry_in row.ties (maps_in row.columns row.classes row.ties row.keys) row.codes) (sym c.in-Fact.is) in
    let below = row-below c.entries_by_place.ensures c.places_by_code.ensures row maps tied c.args.pick c.requires in
    omega (arith, entry, below)

pub returns-in-Dimension-clause-within : goal.returns-in-Dimension-clause-within
returns-in-Dimension-clause-within g c =
    let row = c.args.self.now in
    let maps = c.self.inside.maps.now in
    let tied = subst (λ r. IsTied r maps) c.self.view_is c.self.invariant.2 in
    let entry : c.place.result ≡ entry_in row.ties (maps_in row.columns row.classes row.ties row.keys) row.codes c.args.pick =
    c.place.ensures ∙ ap (entry_in row.ties (maps_in row.columns row.classes row.ties row.keys) row.codes) (sym c.in-Dimension.is) in
    let below = row-below c.entries_by_place.ensures c.places_by_code.ensures row maps tied c.args.pick c.requires in
    omega (arith, entry, below)
