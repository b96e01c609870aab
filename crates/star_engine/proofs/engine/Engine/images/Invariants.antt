use Rattle.std.proofs.Common.{◌≡◌, ◌++◌, map, filter_map, drop}
use Rattle.star_engine.specs.EngineRepr.{image_named}
use Rattle.star_engine.proofs.engine.Engine.images.Given as goal

abbrev pub invariant-loop-name : goal.invariant-loop-name
invariant-loop-name g l = map (λ image. image.now) l.images.items ++ filter_map (image_named l.self) (drop l.name-index l.names) ≡ filter_map (image_named l.self) l.names
