use Rattle.star_engine.proofs.QueryLemmas.{image_there, no_image}
use Rattle.star_engine.proofs.engine.Engine.image.Goals as goal

pub returns-in-Some : goal.returns-in-Some
returns-in-Some g c = image_there c.args.self.now c.args.name.now c.in-Some.table.now c.in-Some.ensures.first

pub returns-in-None : goal.returns-in-None
returns-in-None g c = no_image c.args.self.now c.args.name.now c.in-None.ensures.first
