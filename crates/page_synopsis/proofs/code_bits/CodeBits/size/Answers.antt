use Rattle.std.proofs.Common.{sym}
use Rattle.page_synopsis.proofs.BitSetLemmas.{size_is}
use Rattle.page_synopsis.proofs.code_bits.CodeBits.size.Goals as goal

pub returns : goal.returns
returns c = sym (size_is c.self.inside.size c.self.inside.words.items c.args.self.now c.self.view_is)
