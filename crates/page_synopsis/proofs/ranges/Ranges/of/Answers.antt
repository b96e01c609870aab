use Rattle.std.proofs.Common.{arith}
use Rattle.page_synopsis.proofs.BitSetLemmas.{size_is}
use Rattle.page_synopsis.specs.Runs.{runs_codes}
use Rattle.page_synopsis.proofs.SetLemmas.{codes_below, set_below, taken_none, taken_runs, taken_whole, full_taken}
use Rattle.page_synopsis.proofs.ranges.Ranges.of.Goals as goal

pub overflow_add-from : goal.overflow_add-from
overflow_add-from c =
    let size = size_is c.bits.inside.size c.bits.inside.words.items c.args.bits c.bits.view_is in
    omega (arith, size, c.bits.invariant.few, c.in-Some.ensures.within)

pub returns-in-None-clause-set : goal.returns-in-None-clause-set
returns-in-None-clause-set c = taken_none c.args.bits c.loop-count.ranges c.loop-count.from c.loop-count.count c.if-count-eq0.true c.loop-count.invariant c.in-None.ensures.none

pub of-requires-clause-runs : goal.of-requires-clause-runs
of-requires-clause-runs c = taken_runs c.args.bits c.loop-count.ranges c.loop-count.from c.loop-count.count c.loop-count.invariant c.in-None.ensures.none (omega arith) (omega arith)

pub returns-in-None-2-clause-set : goal.returns-in-None-2-clause-set
returns-in-None-2-clause-set c =
    taken_whole c.args.bits c.loop-count.ranges c.loop-count.from c.loop-count.count c.of.result c.loop-count.invariant c.in-None.ensures.none (omega arith) (omega arith) c.of.ensures

pub of-requires-in-None-next_run-clause-runs : goal.of-requires-in-None-next_run-clause-runs
of-requires-in-None-next_run-clause-runs c = taken_runs c.args.bits c.loop-count.ranges c.loop-count.from 8 (full_taken c.args.bits c.loop-count.ranges c.loop-count.from c.loop-count.count (omega arith) (omega arith) c.loop-count.invariant) c.in-None-next_run.ensures.none (omega arith) (omega arith)

pub returns-in-None-next_run-clause-set : goal.returns-in-None-next_run-clause-set
returns-in-None-next_run-clause-set c =
    taken_whole c.args.bits c.loop-count.ranges c.loop-count.from 8 c.of-in-None-next_run.result (full_taken c.args.bits c.loop-count.ranges c.loop-count.from c.loop-count.count (omega arith) (omega arith) c.loop-count.invariant) c.in-None-next_run.ensures.none
    (omega arith) (omega arith) c.of-in-None-next_run.ensures

pub returns-in-None-2-clause-below : goal.returns-in-None-2-clause-below
returns-in-None-2-clause-below c =
    let whole = taken_whole c.args.bits c.loop-count.ranges c.loop-count.from c.loop-count.count c.of.result c.loop-count.invariant c.in-None.ensures.none (omega arith) (omega arith) c.of.ensures in
    codes_below c.args.bits (runs_codes c.of.result) whole.0

pub returns-in-Some-next_run-clause-below : goal.returns-in-Some-next_run-clause-below
returns-in-Some-next_run-clause-below c = set_below c.args.bits

pub returns-in-None-next_run-clause-below : goal.returns-in-None-next_run-clause-below
returns-in-None-next_run-clause-below c =
    let full = full_taken c.args.bits c.loop-count.ranges c.loop-count.from c.loop-count.count (omega arith) (omega arith) c.loop-count.invariant in
    let whole = taken_whole c.args.bits c.loop-count.ranges c.loop-count.from 8 c.of-in-None-next_run.result full c.in-None-next_run.ensures.none (omega arith) (omega arith) c.of-in-None-next_run.ensures in
    codes_below c.args.bits (runs_codes c.of-in-None-next_run.result) whole.0
