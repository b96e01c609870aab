use Rattle.star_engine.proofs.QueryLemmas.{schema_there, no_schema}
use Rattle.star_engine.proofs.catalog.EngineCatalog.find.Goals as goal

pub returns-in-Some : goal.returns-in-Some
returns-in-Some g c = schema_there c.args.self.now c.args.name.now c.in-Some.image.now c.schema.result.now c.in-Some.ensures c.schema.ensures

pub returns-in-None : goal.returns-in-None
returns-in-None g c = no_schema c.args.self.now c.args.name.now c.in-None.ensures
