use Rattle.std.proofs.Common.{List, [], ◌∷◌, ◌++◌, map, sym, ap, ◌∙◌}
use Rattle.std.proofs.lemmas.List.{map-append}
use Rattle.blink_lists.specs.Lists.{joined}
use Rattle.star_sql.specs.declared.ast.Primary.{Primary}
use Rattle.star_bind.specs.declared.star.factors.Factor.TheVariants.{Whole}
use Rattle.star_bind.specs.Factors.{factors_of, of_primary}
use Rattle.star_bind.specs.FactorParts.{primary_of}
use Rattle.star_bind.proofs.FactorListLemmas.{many_factors, one_factors, group_factors, ok_along}
use Rattle.star_bind.proofs.star.factors.+factoring.Goals as goal

pub add_primary-returns-in-Group : goal.add_primary-returns-in-Group
add_primary-returns-in-Group t c =
    ok_along c.add_cond.result (map primary_of c.add_cond.new.factors.items) (map primary_of c.args.factors.now.items) (factors_of c.get.result.now) (of_primary c.args.primary.now)
    (ap factors_of c.get.ensures ∙ sym (group_factors c.in-Group.cond) ∙ ap of_primary (sym c.in-Group.is)) c.add_cond.ensures

pub add_cond-returns-then-conjunctions-ne1 : goal.add_cond-returns-then-conjunctions-ne1
add_cond-returns-then-conjunctions-ne1 t c =
    let alone = many_factors c.args.cond.now c.as_slice-conjunctions.result.now c.as_slice-conjunctions.ensures c.if-conjunctions-ne1.true in
    ap (map primary_of) c.in_ok-push.ensures.items ∙ map-append primary_of c.args.factors.now.items (Whole c.args.cond ∷ []) ∙ ap (λ (xs : List Primary). map primary_of c.args.factors.now.items ++ xs) (sym alone)

pub add_cond-returns : goal.add_cond-returns
add_cond-returns t c =
    ok_along c.add_primaries.result (map primary_of c.add_primaries.new.factors.items) (map primary_of c.args.factors.now.items) (joined (map of_primary c.as_slice.result.now)) (factors_of c.args.cond.now)
    (ap (λ (ps : List Primary). joined (map of_primary ps)) c.as_slice.ensures ∙ sym (one_factors c.args.cond.now c.as_slice-conjunctions.result.now c.index-conjunctions-0.result c.as_slice-conjunctions.ensures c.if-conjunctions-ne1.false c.index-conjunctions-0.is))
    c.add_primaries.ensures
