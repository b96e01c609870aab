-- The steps of the search over fronts.
use Rattle.std.proofs.Common.{◌≡◌, ◌-◌, ◌+◌, length, drop, ap, arith, sym, ◌∙◌, drop-drop}
use Rattle.freq_partition.specs.Candidate.{division_in}
use Rattle.freq_partition.proofs.SearchLemmas.{starts, none_in_front, goes_on, passes_over, ends}
use Rattle.freq_partition.proofs.search.+search_behind.Goals as goal
use Rattle.freq_partition.proofs.search.+search_behind.Goals.{then-is_front, else-is_front}

pub loop-width-init : goal.loop-width-init
loop-width-init t c = (c.requires.wide, starts (division_in c.args.best) (division_in c.args.front.now) (division_in c.with_rest.result) (division_in c.better-best.result) c.args.more c.args.least _ _ c.with_rest.ensures c.better-best.ensures (omega arith))

pub loop-width-preserved : goal.loop-width-preserved
loop-width-preserved t c = elim c.if-is_front.branch [
  | then-is_front w ↦ (
    omega arith,
    goes_on (division_in c.loop-width.best) (division_in c.args.front.now) (division_in w.with_next-next.result) (division_in c.if-is_front.best) (c.args.more - 1) c.loop-width.width w.full_size-size.result (length c.args.ranked.now.counts.now - c.args.taken) _ (drop c.args.taken c.args.ranked.now.counts.now) (drop (c.args.taken + w.full_size-size.result) c.args.ranked.now.counts.now)
        w.full_size-size.ensures w.with_next-next.ensures (sym (drop-drop w.full_size-size.result c.args.taken c.args.ranked.now.counts.now)) (omega arith) (ap division_in w.best-is ∙ w.search_behind-best.ensures) (omega arith) (omega arith) (sym w.if-is_front.ensures)
        ∙ c.loop-width.invariant.1,
  )
  | else-is_front w ↦
      let passed = passes_over (c.args.more - 1) c.loop-width.width (length c.args.ranked.now.counts.now - c.args.taken) (omega arith) (sym w.if-is_front.ensures) in
      (omega arith, rw (w.best-is, ← passed) c.loop-width.invariant.1)
]

pub returns-else-more-gt0 : goal.returns-else-more-gt0
returns-else-more-gt0 t c =
    let e : c.args.more ≡ 0 = omega arith in
    rw e (none_in_front (division_in c.args.best) (division_in c.args.front.now) (division_in c.with_rest.result) (division_in c.better-best.result) c.args.least (length c.args.ranked.now.counts.now - c.args.taken) (drop c.args.taken c.args.ranked.now.counts.now) c.with_rest.ensures c.better-best.ensures)

pub returns-after-loop-width : goal.returns-after-loop-width
returns-after-loop-width t c = sym (ends (division_in c.loop-width.best) (division_in c.args.front.now) (c.args.more - 1) c.loop-width.width (length c.args.ranked.now.counts.now - c.args.taken) (drop c.args.taken c.args.ranked.now.counts.now) (omega arith)) ∙ c.loop-width.invariant.1
