use Rattle.std.proofs.Common.{ℕ, ◌≡◌, List, subst, IsTrue}
use Rattle.masked_compare.specs.Fields.{is_shape}
use Rattle.masked_compare.proofs.FieldLemmas.{lane_fits, lanes_fill}
use Rattle.masked_compare.proofs.shape.Shape.bits.Goals as goal

shape_of : (ws vs : List ℕ) → vs ≡ ws → IsTrue (is_shape vs) → IsTrue (is_shape ws)
shape_of ws vs e s = subst (λ (zs : List ℕ). IsTrue (is_shape zs)) e s

pub returns-clause-fits : goal.returns-clause-fits
returns-clause-fits c = lane_fits c.args.self (shape_of c.args.self _ c.self.view_is c.self.invariant.shape)

pub returns-clause-whole : goal.returns-clause-whole
returns-clause-whole c = lanes_fill c.args.self (shape_of c.args.self _ c.self.view_is c.self.invariant.shape)
