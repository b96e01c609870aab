use Rattle.std.proofs.Common.{refl}
use Rattle.star_bind.specs.Lookup.{scope_from}
use Rattle.star_bind.proofs.PartLemmas.{cond_made, group_made, good_conjs}
use Rattle.star_bind.proofs.conditions.fold.+folding.Goals as goal

pub of_cond-loop-conj-init : goal.of_cond-loop-conj-init
of_cond-loop-conj-init g t c =
    record {
      made = rw c.in_ok-parts.ensures.items refl;
      good = good_conjs c.args.cond.now c.as_slice-conjunctions.result.now c.as_slice-conjunctions.ensures c.requires;
    }

pub of_cond-returns : goal.of_cond-returns
of_cond-returns g t c =
    cond_made (g.P.Part.of_test (scope_from c.args.scope.now)) g.P.Part.of_every g.P.Part.of_some c.some.result c.args.cond.now c.as_slice-conjunctions.result.now c.loop-conj.conj-index c.loop-conj.parts.items
    c.as_slice-conjunctions.ensures c.loop-conj-test.false c.loop-conj.invariant.made c.some.ensures

pub of_primary-returns-in-Group : goal.of_primary-returns-in-Group
of_primary-returns-in-Group g t c =
    group_made (g.P.Part.of_test (scope_from c.args.scope.now)) g.P.Part.of_every g.P.Part.of_some c.of_cond.result c.args.primary.now c.inside.result.now c.in-Group.cond
    c.in-Group.is c.inside.ensures.value c.of_cond.ensures
