use Rattle.std.proofs.Common.{◌≡◌, [], ◌∷◌, map, take}
use Rattle.blink_lists.specs.Lists.{joined}
use Rattle.dim_filter.specs.Entries.{collected}
use Rattle.star_select.specs.WantedRows.{rest_wanted}
use Rattle.star_select.proofs.dimension_rest.collect_all_rest.Given as goal

abbrev pub invariant-loop-row : goal.invariant-loop-row
invariant-loop-row g l = l.into ≡ collected l.key l.wanted l.initial.into (joined (take l.row-index (map (λ row. rest_wanted l.conjunctions (row ∷ [])) l.image.rest)))
