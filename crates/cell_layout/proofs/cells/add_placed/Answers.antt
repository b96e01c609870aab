use Rattle.std.proofs.Common.{◌+◌, ◌≤◌, [], ◌++◌, subst, ap, sym, ◌∙◌}
use Rattle.blink_lists.specs.declared.limits.TheConstants.{MOST_ROWS}
use Rattle.cell_layout.specs.InsertRowRepr.{rows_in_all}
use Rattle.cell_layout.specs.MergeCells.{AreAlike, AreMerged}
use Rattle.cell_layout.proofs.MergePartitionLemmas.{added_placed, both_alike, both_rise, both_few}
use Rattle.cell_layout.proofs.cells.add_placed.Goals as goal

pub merge-requires-clause-alike : goal.merge-requires-clause-alike
merge-requires-clause-alike c =
    subst (AreAlike c.make_room.new.cells.0) (sym c.into_vec.ensures)
    (both_alike c.args.cells.now.0 c.make_room.new.cells.0 c.args.more.cells.0 c.args.rest.now.0 c.make_room.new.rest.0 c.args.more.rest.0 c.requires c.make_room.ensures.same)

pub merge-requires-clause-order : goal.merge-requires-clause-order
merge-requires-clause-order c =
    both_rise c.args.cells.now.0 c.make_room.new.cells.0 c.args.more.cells.0 c.args.rest.now.0 c.make_room.new.rest.0 c.args.more.rest.0 c.requires c.make_room.ensures.same

pub merge-requires-clause-few : goal.merge-requires-clause-few
merge-requires-clause-few c =
    subst (λ l. rows_in_all c.make_room.new.cells.0 + rows_in_all l ≤ MOST_ROWS) (sym c.into_vec.ensures)
    (both_few c.args.cells.now.0 c.make_room.new.cells.0 c.args.more.cells.0 c.args.rest.now.0 c.make_room.new.rest.0 c.args.more.rest.0 c.requires c.make_room.ensures.same)

pub returns-clause-ok : goal.returns-clause-ok
returns-clause-ok c = λ columns rows batch standing added.
    added_placed columns rows batch c.args.cells.now.0 c.make_room.new.cells.0 c.merge.new.cells.0 c.args.more.cells.0 c.args.rest.now.0 c.make_room.new.rest.0 c.put_rows.new.rest.0 c.args.more.rest.0
    c.make_room.ensures.same (subst (λ l. AreMerged c.make_room.new.cells.0 l c.merge.new.cells.0 []) c.into_vec.ensures c.merge.ensures)
    (c.put_rows.ensures ∙ ap (λ l. c.make_room.new.rest.0 ++ l) c.into_vec-2.ensures) standing added
