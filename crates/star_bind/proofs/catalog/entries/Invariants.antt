use Rattle.std.proofs.Common.{◌≡◌, ◌++◌, map, filter, filter_map, drop}
use Rattle.std.specs.Prelude.{is_none}
use Rattle.blink_lists.specs.Lists.{first_of}
use Rattle.blink_base.specs.declared.refusal.Refusal.TheVariants as refusal
use Rattle.star_bind.specs.BoundQuery.{entry_of}
use Rattle.star_bind.specs.Lookup.{scope_from}
use Rattle.star_bind.proofs.catalog.entries.Given as goal

abbrev pub invariant-loop-name : goal.invariant-loop-name
invariant-loop-name g l = record {
  made : scope_from l.entries.items ++ filter_map (entry_of (g.C.Catalog.schemas l.catalog)) (drop l.name-index l.tables) ≡ filter_map (entry_of (g.C.Catalog.schemas l.catalog)) l.tables;
  known : first_of (map (λ name. refusal.UnknownTable name) (filter (λ name. is_none (g.C.Catalog.schemas l.catalog name)) (drop l.name-index l.tables))) ≡ first_of (map (λ name. refusal.UnknownTable name) (filter (λ name. is_none (g.C.Catalog.schemas l.catalog name)) l.tables));
}
