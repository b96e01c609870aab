use Rattle.std.proofs.Common.{◌+◌, take, arith, length, get_or, sym, ap, ◌∙◌}
use Rattle.page_synopsis.specs.BitSets.{with_codes, with_range}
use Rattle.page_synopsis.proofs.RunLemmas.{from_are_runs, run_order, run_below, codes_more}
use Rattle.page_synopsis.proofs.SetLemmas.{with_none, with_run, length_with}
use Rattle.page_synopsis.specs.Runs.{runs_codes}
use Rattle.page_synopsis.proofs.narrow.add_ranges.Goals as goal

pub loop-range-init : goal.loop-range-init
loop-range-init c = sym (with_none c.args.bits.now)

pub overflow_add-range : goal.overflow_add-range
overflow_add-range c =
    let below = run_below (length c.args.bits.now) 0 c.args.ranges.now c.loop-range.range-index (record { low = 0; high = 0 }) (from_are_runs c.args.ranges.now c.requires.runs) c.requires.below c.loop-range-test.true in
    omega (arith, below, c.size-size.ensures)

pub set_range-requires : goal.set_range-requires
set_range-requires c =
    let below = run_below (length c.args.bits.now) 0 c.args.ranges.now c.loop-range.range-index (record { low = 0; high = 0 }) (from_are_runs c.args.ranges.now c.requires.runs) c.requires.below c.loop-range-test.true in
    omega (arith, below, ap length c.loop-range.invariant, length_with (runs_codes (take c.loop-range.range-index c.args.ranges.now)) c.args.bits.now)

pub loop-range-preserved : goal.loop-range-preserved
loop-range-preserved c =
    let at = c.loop-range.range-index in
    let ranges = c.args.ranges.now in
    let run = get_or ranges at (record { low = 0; high = 0 }) in
    c.set_range.ensures ∙ ap (with_range run.low (run.high + 1)) c.loop-range.invariant
    ∙ with_run (runs_codes (take at ranges)) run c.args.bits.now (run_order 0 ranges at _ (from_are_runs ranges c.requires.runs) c.loop-range-test.true)
    ∙ ap (λ codes. with_codes codes c.args.bits.now) (sym (codes_more ranges at _ c.loop-range-test.true))
