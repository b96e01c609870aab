use Rattle.std.proofs.Common.{length, map, sym, ◌∙◌}
use Rattle.std.specs.List.{list_any}
use Rattle.blink_lists.specs.Lists.{numbers_from}
use Rattle.star_bind.specs.FactorParts.{primary_of}
use Rattle.star_bind.specs.Lookup.{scope_from}
use Rattle.star_bind.proofs.WidthLemmas.{is_table_wide, any_begin, any_next}
use Rattle.star_bind.proofs.conditions.width.is_wide.Goals as goal

pub loop-table-init : goal.loop-table-init
loop-table-init c = any_begin (is_table_wide (scope_from c.args.scope.now) (map primary_of c.args.all.now)) (length c.args.scope.now)

pub loop-table-preserved : goal.loop-table-preserved
loop-table-preserved c =
    let p = is_table_wide (scope_from c.args.scope.now) (map primary_of c.args.all.now) in
    any_next p c.loop-table.table (length c.args.scope.now) (list_any p (numbers_from 0 (length c.args.scope.now))) c.loop-table-test.true (sym c.in_ok-is_table_wide.ensures ∙ c.if-branch.false) c.loop-table.invariant
