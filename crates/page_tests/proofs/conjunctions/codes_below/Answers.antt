use Rattle.std.proofs.Common.{ap, length, ◌∙◌}
use Rattle.std.proofs.lemmas.List.{length-map}
use Rattle.blink_lists.specs.Lists.{numbered}
use Rattle.blink_lists.proofs.NumberLemmas.{length-numbered}
use Rattle.page_tests.proofs.conjunctions.codes_below.Goals as goal

pub loop-range-preserved : goal.loop-range-preserved
loop-range-preserved c = ap length c.set_range.ensures ∙ length-map (numbered c.loop-range.bits) _ ∙ length-numbered 0 c.loop-range.bits ∙ c.loop-range.invariant
