use Rattle.std.proofs.Common.{◌≡◌, drop}
use Rattle.std.specs.List.{list_any}
use Rattle.star_bind.specs.BoundAnswer.{is_total}
use Rattle.star_select.proofs.query_plan.has_total.Given as goal

abbrev pub invariant-loop-item : goal.invariant-loop-item
invariant-loop-item l = list_any is_total l.items ≡ list_any is_total (drop l.item-index l.items)
