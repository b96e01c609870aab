use Rattle.std.proofs.Common.{ℕ, List, ◌<◌, ◌^◌, ◌≡◌, IsTrue}
use Rattle.masked_compare.specs.Fields.{is_shape}
use Rattle.masked_compare.specs.Words.{IsClean}
use Rattle.masked_compare.specs.Marks.{guards_of, marks_of, inside_of, IsMarked, marked_in}
use Rattle.masked_compare.proofs.BlockLemmas.{tested, IsTestable}
use Rattle.masked_compare.proofs.CompareLemmas.{within_fact}
use Rattle.masked_compare.proofs.MarkLemmas.{marks_back}
use Rattle.masked_compare.proofs.shape.Shape.within.Goals as goal

at : (ws : List ℕ) (x l h g : ℕ) → g ≡ guards_of ws → IsTrue (is_shape ws) → x < 2 ^ 64 → l < 2 ^ 64 → h < 2 ^ 64 → IsClean ws x → IsClean ws l → IsClean ws h → IsTestable x l h g × (tested x l h g ≡ marks_of ws (inside_of ws x l h))
at ws x l h g ge s xb lb hb xc lc hc = rw ge (within_fact ws x l h s xb lb hb xc lc hc)

pub overflow_sub-result : goal.overflow_sub-result
overflow_sub-result c = (at c.args.self c.args.word c.args.low c.args.high c.guards-guards.result c.guards-guards.ensures.value c.guards-guards.ensures.shape c.ranges.word.fits c.ranges.low.fits c.ranges.high.fits c.requires.word_clean c.requires.low_clean c.requires.high_clean).0.above

pub overflow_sub-result-2 : goal.overflow_sub-result-2
overflow_sub-result-2 c = (at c.args.self c.args.word c.args.low c.args.high c.guards-guards.result c.guards-guards.ensures.value c.guards-guards.ensures.shape c.ranges.word.fits c.ranges.low.fits c.ranges.high.fits c.requires.word_clean c.requires.low_clean c.requires.high_clean).0.below

pub returns-clause-value : goal.returns-clause-value
returns-clause-value c = (at c.args.self c.args.word c.args.low c.args.high c.guards-guards.result c.guards-guards.ensures.value c.guards-guards.ensures.shape c.ranges.word.fits c.ranges.low.fits c.ranges.high.fits c.requires.word_clean c.requires.low_clean c.requires.high_clean).1

back : (ws : List ℕ) (x l h y : ℕ) → IsTrue (is_shape ws) → y ≡ marks_of ws (inside_of ws x l h) → IsMarked ws y × (marked_in ws y ≡ inside_of ws x l h)
back ws x l h y s e = rw e (marks_back ws x l h s)

pub returns-clause-marked : goal.returns-clause-marked
returns-clause-marked c = (back c.args.self c.args.word c.args.low c.args.high _ c.guards-guards.ensures.shape (returns-clause-value c)).0

pub returns-clause-reads : goal.returns-clause-reads
returns-clause-reads c = (back c.args.self c.args.word c.args.low c.args.high _ c.guards-guards.ensures.shape (returns-clause-value c)).1
