use Rattle.std.proofs.Common.{ℕ, ◌≡◌, ◌≤◌, ◌+◌, get_or, sym, ap, subst, ◌∙◌, arith}
use Rattle.masked_compare.proofs.PlaceLemmas.{place_fits, place_of}
use Rattle.masked_compare.proofs.shape.Shape.place.Goals as goal

pub returns-clause-fits : goal.returns-clause-fits
returns-clause-fits c =
    let at : c.loop-at.at ≡ c.args.column = omega arith in
    let place : c.loop-at.place ≡ place_of c.args.self c.args.lane c.args.column = c.loop-at.invariant ∙ ap (place_of c.args.self c.args.lane) at in
    subst (λ (n : ℕ). n + (get_or c.args.self c.args.column 0 + 1) ≤ 64) (sym place) (place_fits c.args.self c.args.lane c.args.column c.bits.ensures.shape c.requires.lane c.requires.column)
