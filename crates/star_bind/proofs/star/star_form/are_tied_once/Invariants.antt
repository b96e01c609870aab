use Rattle.std.proofs.Common.{◌≡◌, ◌==◌, ◌||◌, ◌-◌}
use Rattle.std.specs.Prelude.{count_by}
use Rattle.std.specs.List.{list_all}
use Rattle.blink_lists.specs.Lists.{numbers_from}
use Rattle.star_bind.proofs.star.star_form.are_tied_once.Given as goal

abbrev pub invariant-loop-table : goal.invariant-loop-table
invariant-loop-table l = list_all (λ k. k == l.fact || count_by (λ t. t.dimension == k) l.ties == 1) (numbers_from l.table (l.count - l.table)) ≡ list_all (λ k. k == l.fact || count_by (λ t. t.dimension == k) l.ties == 1) (numbers_from 0 l.count)
