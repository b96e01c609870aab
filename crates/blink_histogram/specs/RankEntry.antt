-- A value that is to be ranked, with its number. Source: this project's own.
use Rattle.std.specs.Prelude.{◌≡◌, List, slice_get, Some}
use Rattle.std.specs.declared.cmp.Ordering.{Ordering}
use Rattle.std.specs.Ordering.{on}
use Rattle.std.specs.Cmp.{IsTotalOrder}
use Rattle.std.proofs.lemmas.Cmp.{nat_cmp_total, on_total, then_total, back_total}
use Rattle.blink_base.specs.ValueOrder.{value_total}
use Rattle.blink_histogram.specs.declared.ranks.Ranking.{Ranking}
use Rattle.blink_histogram.specs.Ranks.{Counted, rank_cmp}

-- its value and count
abbrev pub counted_in : Ranking → Counted
counted_in r = (r.value.now, r.count)

-- by rank
abbrev pub ranking_cmp : Ranking → Ranking → Ordering
ranking_cmp = on counted_in rank_cmp

-- its number is its place among these
abbrev pub HasPlace : List Counted → Ranking → Type 0
HasPlace counts r = slice_get counts r.number ≡ Some (counted_in r)

pub rank_total : IsTotalOrder rank_cmp
rank_total = then_total (back_total (on_total (λ c. c.1) nat_cmp_total)) (on_total (λ c. c.0) value_total)

pub ranking_total : IsTotalOrder ranking_cmp
ranking_total = on_total counted_in rank_total
