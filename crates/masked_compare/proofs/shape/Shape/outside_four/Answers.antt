use Rattle.masked_compare.proofs.FourLemmas.{outside_four}
use Rattle.masked_compare.proofs.shape.Shape.outside_four.Goals as goal

pub returns : goal.returns
returns c = outside_four c.args.self c.guards-guard.result c.tops-top.result c.args.low c.args.high c.guards-guard.ensures.shape c.guards-guard.ensures.value c.tops-top.ensures.value c.guards-guard.type_inv c.ranges.low.fits c.ranges.high.fits c.requires.low_clean c.requires.high_clean c.args.words c.requires.four c.requires.fit c.requires.words_clean
