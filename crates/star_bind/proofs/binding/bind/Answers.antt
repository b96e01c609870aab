use Rattle.std.proofs.Common.{List, ℕ, filter_map, ap, ◌∙◌}
use Rattle.star_bind.specs.BindAnswer.{refusal_of}
use Rattle.star_bind.specs.BoundQuery.{entry_of}
use Rattle.star_bind.specs.Lookup.{scope_from}
use Rattle.star_bind.proofs.CheckLemmas.{tables_why, scope_checked}
use Rattle.star_bind.proofs.GoodnessLemmas.{select_formed}
use Rattle.star_bind.proofs.QueryLemmas.{scope-addressable, cause_told, bound_told}
use Rattle.star_bind.proofs.binding.bind.Goals as goal

pub bind_scope-requires-clause-addressable : goal.bind_scope-requires-clause-addressable
bind_scope-requires-clause-addressable g c =
    scope-addressable (g.C.Catalog.schemas c.args.catalog.now) c.args.select.now (scope_from c.as_slice-in-Ok.result.now) c.requires.few c.requires.allowed
    (ap scope_from c.as_slice-in-Ok.ensures.value ∙ c.in-Ok.ensures.entries ∙ ap (filter_map (entry_of (g.C.Catalog.schemas c.args.catalog.now))) c.as_slice.ensures)

pub bind_scope-requires-clause-formed : goal.bind_scope-requires-clause-formed
bind_scope-requires-clause-formed g c = select_formed c.args.select.now c.requires.formed

pub returns-in-Ok : goal.returns-in-Ok
returns-in-Ok g c =
    let schemas = g.C.Catalog.schemas c.args.catalog.now in
    bound_told c.bind_scope.result schemas c.args.select.now (scope_from c.as_slice-in-Ok.result.now)
    (ap scope_from c.as_slice-in-Ok.ensures.value ∙ c.in-Ok.ensures.entries ∙ ap (filter_map (entry_of schemas)) c.as_slice.ensures)
    (scope_checked c.bind_scope.result schemas c.args.select.now (scope_from c.as_slice-in-Ok.result.now) c.as_slice.result.now c.as_slice.ensures
    (ap scope_from c.as_slice-in-Ok.ensures.value ∙ c.in-Ok.ensures.entries) c.in-Ok.ensures.checked c.bind_scope.ensures.checked)
    c.bind_scope.ensures.query

pub returns-in-Err : goal.returns-in-Err
returns-in-Err g c =
    let schemas = g.C.Catalog.schemas c.args.catalog.now in
    cause_told (refusal_of c.in-Err.why) schemas c.args.select.now
    (tables_why (refusal_of c.in-Err.why) schemas c.args.select.now c.as_slice.result.now c.as_slice.ensures c.in-Err.ensures.checked)
