use Rattle.std.proofs.lemmas.Bool.{and_parts}
use Rattle.blink_base.specs.Identifiers.{is_name}
use Rattle.star_engine.specs.LoadedRows.{are_written}
use Rattle.star_engine.proofs.engine.Engine.insert.Goals as goal

pub add-requires-clause-good : goal.add-requires-clause-good
add-requires-clause-good g c = (and_parts (is_name c.args.name.now) (are_written c.args.rows.now) c.requires.formed).1
