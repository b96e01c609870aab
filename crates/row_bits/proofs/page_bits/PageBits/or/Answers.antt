use Rattle.std.proofs.Common.{◌||◌, ◌∙◌, arith}
use Rattle.row_bits.specs.Bits.{some_true}
use Rattle.row_bits.proofs.PageLemmas.{joined_below}
use Rattle.row_bits.proofs.page_bits.PageBits.or.Goals as goal

pub returns : goal.returns
returns c =
    joined_below (λ a b. a || b) 1024 c.self.inside.words c.other.inside.words c.or_with.new.words (λ k lt. c.or_with.ensures k (omega (arith, lt)))
    ∙ (λ i. some_true (c.self.view_is i) (c.other.view_is i))
