use Rattle.std.proofs.Common.{arith}
use Rattle.row_bits.proofs.BitLemmas.{mask_of}
use Rattle.row_bits.proofs.words.mask.Goals as goal

pub overflow_sub-result : goal.overflow_sub-result
overflow_sub-result c = let m = mask_of c.args.low c.args.high c.requires.order in omega (arith, m)
