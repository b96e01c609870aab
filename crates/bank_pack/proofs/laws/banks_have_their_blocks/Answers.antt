use Rattle.bank_pack.proofs.LawLemmas.{banks_have_their_blocks}
use Rattle.bank_pack.proofs.laws.banks_have_their_blocks.Goals as goal

pub returns : goal.returns
returns c = banks_have_their_blocks
