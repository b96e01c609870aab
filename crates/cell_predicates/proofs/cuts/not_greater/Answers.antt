use Rattle.std.proofs.Common.{arith}
use Rattle.cell_predicates.proofs.cuts.not_greater.Goals as goal

pub overflow_add-result : goal.overflow_add-result
overflow_add-result g c = omega (arith, c.in-Some.ensures.within, c.size-size.ensures, c.size-size.type_inv)
