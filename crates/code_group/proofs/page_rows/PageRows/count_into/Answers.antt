use Rattle.std.proofs.Common.{◌≡◌, ap, subst, count_by, ◌∙◌, arith}
use Rattle.late_decode.specs.Groups.{added}
use Rattle.code_group.specs.PageGroups.{MayGroup, HaveAll, count_from}
use Rattle.code_group.specs.RowParts.{rows_counted}
use Rattle.code_group.specs.Tuples.{same_tuple}
use Rattle.code_group.proofs.GroupLemmas.{on-ok}
use Rattle.code_group.proofs.PageLemmas.{nothing-counted, all-counted}
use Rattle.code_group.proofs.page_rows.PageRows.count_into.Goals as goal

pub returns-then-rows-eq0 : goal.returns-then-rows-eq0
returns-then-rows-eq0 g c =
    let p = c.args.self.now in
    let maps = c.self.inside.maps.now in
    let may = subst (λ q. MayGroup q maps) c.self.view_is c.self.invariant in
    let rows : c.count-rows.result ≡ count_from p 0 = c.count-rows.ensures ∙ ap (λ q. count_by (λ b. b) q.bits) c.self.view_is in
    nothing-counted p maps may c.requires.keys c.requires.measures c.args.into.now.0 c.requires.ready (omega (arith, rows))

pub returns : goal.returns
returns g c =
    let p = c.args.self.now in
    let maps = c.self.inside.maps.now in
    let old = c.args.into.now.0 in
    let new = c.count-2.new.self.0 in
    let n = c.count-rows.result in
    let may = subst (λ q. MayGroup q maps) c.self.view_is c.self.invariant in
    let rows : n ≡ count_from p 0 = c.count-rows.ensures ∙ ap (λ q. count_by (λ b. b) q.bits) c.self.view_is in
    let ms = c.as_slice.ensures ∙ ap (λ q. q.plan.measures) c.self.view_is in
    on-ok c.count-2.result (new ≡ added same_tuple c.as_slice.result.now c.new.result (rows_counted n) old) (HaveAll p old new)
    (λ e.
    all-counted p maps may c.requires.keys c.requires.measures old c.requires.ready c.added_are_coded.ensures c.coded_combinations_added.ensures n new rows (omega arith)
    (e ∙ (λ i. added same_tuple (ms i) (c.new.ensures i) (rows_counted n) old))) c.count-2.ensures.groups
