use Rattle.std.proofs.Common.{◌≡◌, [], None, Some, ◌∙◌, sym, ap, subst, slice_index_or, unwrap_or, arith}
use Rattle.code_group.specs.CellRow.{IsTied}
use Rattle.code_group.specs.Entries.{maps_in}
use Rattle.code_group.proofs.CellRowLemmas.{maps-many}
use Rattle.code_group.proofs.EntryLemmas.{there-at}
use Rattle.code_group.proofs.cell_row.CellRow.place.Goals as goal

pub bounds-self-inside-tie-2 : goal.bounds-self-inside-tie-2
bounds-self-inside-tie-2 g c =
    let maps = c.self.inside.maps.now in
    let tied = subst (λ r. IsTied r maps) c.self.view_is c.self.invariant.2 in
    let many = maps-many c.args.self.now maps tied in
    let within = c.requires in
    omega (arith, many, within)

pub returns-in-Some : goal.returns-in-Some
returns-in-Some g c =
    let row = c.args.self.now in
    let maps = c.self.inside.maps.now in
    let tie = c.args.tie in
    let tied = subst (λ r. IsTied r maps) c.self.view_is c.self.invariant.2 in
    let many = maps-many row maps tied in
    let within = c.requires in
    let map = sym c.index-self-tie.is ∙ there-at maps tie c.index-self-tie.result [] (omega (arith, many, within)) c.index-self-tie.is ∙ ap (λ m. slice_index_or m tie []) tied.mapped in
    let code = c.code-code.ensures ∙ ap (λ r. slice_index_or r.codes (slice_index_or r.ties tie 0) 0) c.self.view_is in
    let got : Some c.in-Some.place ≡ slice_index_or (slice_index_or (maps_in row.columns row.classes row.ties row.keys) tie []) (slice_index_or row.codes (slice_index_or row.ties tie 0) 0) None =
    sym c.in-Some.is ∙ c.get.ensures ∙ (λ i. slice_index_or (map i) (code i) None) in
    ap (λ o. unwrap_or o 0) got
