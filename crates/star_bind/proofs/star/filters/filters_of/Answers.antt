use Rattle.std.proofs.Common.{◌==◌, ◌&&◌, not, map, filter}
use Rattle.std.specs.List.{list_all}
use Rattle.star_sql.specs.declared.ast.Primary.{Primary}
use Rattle.star_bind.specs.declared.star.factors.Factor.{Factor}
use Rattle.star_bind.specs.StarForm.{is_pair_factor, tables_in}
use Rattle.star_bind.specs.Checks.{primary_is_good}
use Rattle.star_bind.specs.FactorParts.{primary_of}
use Rattle.star_bind.specs.Lookup.{scope_from}
use Rattle.star_bind.proofs.FilterLemmas.{next_filter, next_kept}
use Rattle.star_bind.proofs.PartLemmas.{next_good}
use Rattle.star_bind.proofs.star.filters.filters_of.Goals as goal

pub loop-factor-preserved : goal.loop-factor-preserved
loop-factor-preserved c =
    let p = λ (f : Primary). not (is_pair_factor f) && list_all (λ t. t == c.args.table) (tables_in (scope_from c.args.scope.now) f) in
    let q = λ (x : Factor). primary_is_good (primary_of x) in
    record {
      made = next_filter p c.loop-factor.filters.items c.add_if.new.filters.items (filter p (map primary_of c.args.factors.now)) c.args.factors.now c.loop-factor.factor-index c.factor-item.result c.in_ok-wanted.wanted
          c.loop-factor-test.true c.factor-item.is c.in_ok-wanted.ensures c.in_ok-add_if.ensures c.loop-factor.invariant.made;
      good = next_kept q c.loop-factor.filters.items c.add_if.new.filters.items c.args.factors.now c.loop-factor.factor-index c.factor-item.result c.in_ok-wanted.wanted
          c.loop-factor-test.true c.factor-item.is c.in_ok-add_if.ensures c.loop-factor.invariant.good c.loop-factor.invariant.left;
      left = next_good q c.args.factors.now c.loop-factor.factor-index c.factor-item.result c.loop-factor-test.true c.factor-item.is c.loop-factor.invariant.left;
    }
