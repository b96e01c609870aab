use Rattle.std.proofs.Common.{◌∙◌, ap, replicate, false}
use Rattle.order_codes.specs.Dictionary.{class_at}
use Rattle.page_synopsis.specs.BitSets.{with_range}
use Rattle.cell_predicates.proofs.TestLemmas.{lies_between}
use Rattle.cell_predicates.proofs.leaf_bits.between.Goals as goal

pub returns : goal.returns
returns g c =
    c.set_range.ensures ∙ ap (with_range c.lesser.result c.not_greater.result) (c.in_ok-bits.ensures ∙ ap (λ n. replicate n false) c.size.ensures)
    ∙ lies_between (class_at c.args.dict.now c.args.class) c.args.low.now c.args.high.now c.lesser.result c.not_greater.result c.lesser.ensures.cut c.not_greater.ensures
