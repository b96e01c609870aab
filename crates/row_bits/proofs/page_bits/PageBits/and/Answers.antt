use Rattle.std.proofs.Common.{◌&&◌, ◌∙◌}
use Rattle.row_bits.specs.Bits.{both_true}
use Rattle.row_bits.proofs.PageLemmas.{joined_bits}
use Rattle.row_bits.proofs.page_bits.PageBits.and.Goals as goal

pub returns : goal.returns
returns c =
    joined_bits (λ a b. a && b) 1024 c.self.inside.words c.other.inside.words c.and_with.new.words c.and_with.ensures
    ∙ (λ i. both_true (c.self.view_is i) (c.other.view_is i))
