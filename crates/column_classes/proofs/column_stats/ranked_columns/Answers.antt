use Rattle.std.proofs.Common.{◌≡◌, ◌++◌, ◌+◌, ◌∷◌, [], length, ap, sym, subst, ◌∙◌, arith}
use Rattle.std.proofs.lemmas.List.{length-append}
use Rattle.std.specs.Vec.Iter.{into_iter_items}
use Rattle.column_classes.specs.ColumnStats.{AreRanked}
use Rattle.column_classes.specs.ColumnClasses.{column_values}
use Rattle.column_classes.proofs.ColumnStatsLemmas.{first_column, ranked_column, ranked_more, rest_columns}
use Rattle.column_classes.proofs.column_stats.ranked_columns.Goals as goal

pub loop-column-preserved : goal.loop-column-preserved
loop-column-preserved c =
    let rows = c.args.held.now ++ c.args.batch.now in
    let at = c.loop-column in
    let so_far = length at.all.items in
    let steps = c.in-Some.ensures.steps.0 in
    let gone = c.in-Some.ensures.steps.1 in
    let short = ap length steps in
    let was = at.invariant.counted in
    let left = at.invariant.left in
    let longer : length c.push.new.self.items ≡ so_far + 1 = ap length c.in_ok-push.ensures.items ∙ length-append at.all.items (c.in_ok-of.field-0 ∷ []) in
    let is = first_column rows so_far (into_iter_items at.column-iterator) (into_iter_items c.next.new.self) c.in-Some.column steps at.invariant.each in
    let rest = rest_columns rows so_far (into_iter_items at.column-iterator) (into_iter_items c.next.new.self) c.in-Some.column steps at.invariant.each in
    record {
      counted = omega arith;
      left = omega arith;
      each = λ k d lt. rest k d lt ∙ ap (λ n. column_values rows (n + k)) (sym longer);
      ranked = subst (λ n. AreRanked rows n c.push.new.self.items) (sym longer)
          (ranked_more rows so_far at.all.items c.push.new.self.items c.in_ok-of.field-0 at.invariant.ranked (ranked_column rows so_far c.in-Some.column c.in_ok-of.field-0 is c.in_ok-of.ensures.ranked c.in_ok-of.ensures.column) c.in_ok-push.ensures.items);
    }
