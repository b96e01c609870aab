use Rattle.std.specs.Ordering.{is_lt}
use Rattle.blink_base.specs.Values.{value_cmp}
use Rattle.order_codes.proofs.DictionaryLemmas.{class_rises}
use Rattle.order_codes.specs.Dictionary.{below, class_at}
use Rattle.cell_predicates.proofs.CutLemmas.{lesser_cut, cut_by}
use Rattle.cell_predicates.proofs.cuts.lesser.Goals as goal

pub returns-clause-cut : goal.returns-clause-cut
returns-clause-cut g c =
    cut_by (class_at c.args.dict.now c.args.class) (λ v. is_lt (value_cmp v c.args.value.now)) c.below.result (below (class_at c.args.dict.now c.args.class) c.args.value.now) c.below.ensures
    (lesser_cut c.args.value.now (class_at c.args.dict.now c.args.class) (class_rises c.args.dict.now c.args.class c.classes-classes.ensures.valid c.requires))
