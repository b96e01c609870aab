use Rattle.std.proofs.Common.{sym, ◌∙◌, arith}
use Rattle.star_bind.specs.Lookup.{scope_from}
use Rattle.star_bind.proofs.PlaceLemmas.{found-addressed}
use Rattle.star_bind.proofs.names.bound_names.meant.Goals as goal

pub overflow_cast-result : goal.overflow_cast-result
overflow_cast-result c =
    let h = (found-addressed (scope_from c.args.scope.now) c.args.name.now c.in-Some.place c.requires (sym c.in-Some.is ∙ c.place_of.ensures)).0 in
    omega (arith, h)

pub overflow_cast-result-in-Some : goal.overflow_cast-result-in-Some
overflow_cast-result-in-Some c =
    let h = (found-addressed (scope_from c.args.scope.now) c.args.name.now c.in-Some.place c.requires (sym c.in-Some.is ∙ c.place_of.ensures)).1 in
    omega (arith, h)
