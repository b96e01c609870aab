use Rattle.std.proofs.Common.{◌≡◌, filter_map, drop}
use Rattle.std.specs.Str.{bytes_eq}
use Rattle.blink_lists.specs.Lists.{numbered, numbered_from}
use Rattle.star_meaning.specs.Names.{place_if}
use Rattle.star_bind.specs.Lookup.{found_more}
use Rattle.star_bind.proofs.names.scope.found_in.Given as goal

abbrev pub invariant-loop-at : goal.invariant-loop-at
invariant-loop-at l = found_more l.all (filter_map (λ at. place_if (bytes_eq l.name at.1.name) l.table at.0) (numbered_from l.at (drop l.at l.columns))) ≡ found_more l.fn.found (filter_map (λ at. place_if (bytes_eq l.name at.1.name) l.table at.0) (numbered l.columns))
