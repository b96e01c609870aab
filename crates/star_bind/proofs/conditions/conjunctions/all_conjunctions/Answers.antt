use Rattle.std.proofs.Common.{◌≡◌, ◌+◌, ◌++◌, ◌∷◌, [], map, sym, ap, ◌∙◌, arith}
use Rattle.blink_lists.specs.Lists.{numbers_from}
use Rattle.blink_lists.proofs.NumberLemmas.{numbers-push}
use Rattle.star_bind.specs.FactorParts.{primary_of}
use Rattle.star_bind.specs.Lookup.{scope_from}
use Rattle.star_bind.specs.QueryParts.{conjunctions_among}
use Rattle.star_bind.proofs.conditions.conjunctions.all_conjunctions.Goals as goal

pub loop-table-preserved : goal.loop-table-preserved
loop-table-preserved c =
    let f = conjunctions_among (scope_from c.args.scope.now) (map primary_of c.args.all.now) in
    let e : c.loop-table.table ≡ 0 + c.loop-table.table = omega arith in
    c.in_ok-push.ensures.items
    ∙ (λ i. c.loop-table.invariant i ++ c.in_ok-table_conjunctions.ensures i ∷ [])
    ∙ ap (λ n. map f (numbers_from 0 c.loop-table.table) ++ f n ∷ []) e
    ∙ sym (numbers-push f 0 c.loop-table.table)
