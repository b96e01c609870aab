-- Each saver is put among the greatest of the columns behind it.
use Rattle.std.proofs.Common.{◌≡◌, ◌-◌, take, length, refl, ap, ◌∙◌, arith}
use Rattle.freq_partition.proofs.ColumnChoiceLemmas.{saver_first, saver_skipped, savers_none, savers_all}
use Rattle.freq_partition.specs.TopThree.{items_in}
use Rattle.freq_partition.proofs.column_choice.greatest_of.Goals as goal

pub loop-column-init : goal.loop-column-init
loop-column-init c =
    let past = savers_none (length c.args.savings.now) c.args.savings.now (omega arith) in
    (rw (past, c.none-greatest.ensures.none) refl, c.none-greatest.ensures.within)

pub loop-column-preserved : goal.loop-column-preserved
loop-column-preserved c =
    let skipped = saver_skipped (c.loop-column.column - 1) c.loop-column.column c.args.savings.now (omega arith) c.loop-column.auto.column c.if-saves.false in
    (c.loop-column.invariant.0 ∙ ap (take 3) skipped, c.loop-column.invariant.1)

pub loop-column-preserved-then-saves : goal.loop-column-preserved-then-saves
loop-column-preserved-then-saves c = (
  saver_first _ (λ x y. refl) (record { saving = record { 0 = _ }; column = c.loop-column.column - 1 }) (items_in c.loop-column.greatest) (items_in c.with-greatest.result) c.args.savings.now c.loop-column.column
      c.with-greatest.ensures.least c.loop-column.invariant.0 (omega arith) c.loop-column.auto.column refl c.if-saves.true,
  c.with-greatest.ensures.within,
)

pub returns-clause-first : goal.returns-clause-first
returns-clause-first c =
    let e : c.loop-column.column ≡ 0 = omega arith in
    let known = rw e at c.loop-column.invariant.0 in
    known ∙ ap (take 3) (savers_all c.args.savings.now)
