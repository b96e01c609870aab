use Rattle.std.proofs.Common.{ap, sym, ◌∙◌, get_or, false}
use Rattle.row_bits.proofs.WordLemmas.{bits_at}
use Rattle.row_bits.proofs.page_bits.PageBits.test.Goals as goal

pub returns : goal.returns
returns c = c.is_set.ensures ∙ sym (bits_at 1024 c.self.inside.words c.args.place false c.requires) ∙ ap (λ l. get_or l c.args.place false) c.self.view_is
