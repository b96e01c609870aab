use Rattle.std.proofs.Common.{arith, length, sym, ap, ◌∙◌}
use Rattle.std.proofs.lemmas.List.{length-take-le}
use Rattle.page_synopsis.proofs.narrow.Narrow.len.Goals as goal

pub returns : goal.returns
returns c = sym (length-take-le c.self.inside.count c.self.inside.ranges (omega (arith, c.self.invariant.room, c.self.invariant.few))) ∙ ap length c.self.view_is
