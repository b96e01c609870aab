use Rattle.bank_pack.proofs.LawLemmas.{other_blocks_keep_banks}
use Rattle.bank_pack.proofs.laws.other_blocks_keep_banks.Goals as goal

pub returns : goal.returns
returns c = other_blocks_keep_banks
