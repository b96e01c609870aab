use Rattle.row_bits.proofs.PageLemmas.{none_true}
use Rattle.row_bits.proofs.page_bits.PageBits.none.Goals as goal

pub returns : goal.returns
returns c = none_true
