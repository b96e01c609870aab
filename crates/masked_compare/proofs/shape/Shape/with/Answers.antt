use Rattle.std.proofs.Common.{true≢false, sym}
use Rattle.masked_compare.proofs.ShapeLemmas.{full_shape}
use Rattle.masked_compare.proofs.shape.Shape.with.Goals as goal

pub returns-then-self-ge16-clause-some : goal.returns-then-self-ge16-clause-some
returns-then-self-ge16-clause-some c = (
  λ no. absurd (true≢false (sym no)),
  λ shape. absurd (full_shape c.self.inside c.args.self c.args.width c.self.invariant c.self.view_is c.if-self-ge16.true shape),
)
