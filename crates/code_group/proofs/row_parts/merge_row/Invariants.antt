use Rattle.std.proofs.Common.{◌≡◌, ◌≤◌, ◌+◌, [], ◌∷◌, take}
use Rattle.std.specs.List.{flat_map}
use Rattle.code_group.specs.CellRow.{picked_by}
use Rattle.code_group.specs.Plans.{fact_picks, measure_picks}
use Rattle.code_group.specs.RowParts.{merged_until}
use Rattle.late_decode.specs.Parts.{parts_over}
use Rattle.code_group.proofs.row_parts.merge_row.Given as goal

abbrev pub invariant-loop-at : goal.invariant-loop-at
invariant-loop-at g l = record {
  parts : l.own ≡ merged_until l.at l.measures l.fn.own (parts_over l.measures (picked_by l.row ∷ []));
  decodes : l.decodes ≤ l.fn.decodes + fact_picks (flat_map measure_picks (take l.at l.measures));
}
