use Rattle.std.proofs.Common.{ℕ, ◌==◌, ◌||◌, sym, ◌∙◌}
use Rattle.std.specs.Prelude.{count_by}
use Rattle.std.specs.List.{list_all}
use Rattle.blink_lists.specs.Lists.{numbers_from}
use Rattle.star_bind.specs.declared.star.star_form.Tied.{Tied}
use Rattle.star_bind.proofs.JointLemmas.{numbers_next}
use Rattle.star_bind.proofs.star.star_form.are_tied_once.Goals as goal

pub loop-table-preserved : goal.loop-table-preserved
loop-table-preserved c =
    let p = λ (k : ℕ). k == c.args.fact || count_by (λ (t : Tied). t.dimension == k) c.args.ties.now == 1 in
    numbers_next p c.loop-table.table c.args.count (list_all p (numbers_from 0 c.args.count)) c.loop-table-test.true (sym c.is_tied_once.ensures ∙ c.if-not-is_tied_once.false) c.loop-table.invariant
