use Rattle.std.proofs.Common.{◌∙◌, refl}
use Rattle.std.specs.Cmp.Lexicographic.{lists_ties}
use Rattle.blink_base.specs.Values.{value_cmp, same_row}
use Rattle.late_decode.proofs.key.KeyPartialEq.eq.Goals as goal

pub returns : goal.returns
returns c =
    let mine = c.as_slice.ensures ∙ c.self.view_is in
    let others = c.as_slice-2.ensures ∙ c.other.view_is in
    c.eq.ensures ∙ lists_ties value_cmp (λ x y. refl) c.as_slice.result.now c.as_slice-2.result.now ∙ (λ i. same_row (mine i) (others i))
