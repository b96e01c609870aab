use Rattle.std.proofs.Common.{◌+◌, ◌*◌, false, slice_index_or, ap, sym, subst, ◌∙◌, arith}
use Rattle.blink_lists.specs.declared.limits.TheConstants.{PAGE_ROWS}
use Rattle.code_group.specs.CellRow.{IsTied, tied_row}
use Rattle.code_group.specs.PageGroups.{page_of, codes_at, row_joined}
use Rattle.code_group.proofs.PageLemmas.{facts, at-row, at-tied}
use Rattle.code_group.proofs.page_rows.PageRows.row.Goals as goal

pub overflow_mul-result : goal.overflow_mul-result
overflow_mul-result g c =
    let i = c.self.inside in
    let p = page_of i.image.now i.cell i.page i.bits.now i.keys.now i.plan.now in
    let row = (at-row p i.maps.now c.self.invariant c.args.at (ap (λ p. slice_index_or p.bits c.args.at false) c.self.view_is ∙ c.requires.selected)).1 in
    let few = (facts p i.maps.now c.self.invariant).few in
    omega (arith, row, few)

pub overflow_add-result : goal.overflow_add-result
overflow_add-result g c =
    let i = c.self.inside in
    let p = page_of i.image.now i.cell i.page i.bits.now i.keys.now i.plan.now in
    let row = (at-row p i.maps.now c.self.invariant c.args.at (ap (λ p. slice_index_or p.bits c.args.at false) c.self.view_is ∙ c.requires.selected)).1 in
    let few = (facts p i.maps.now c.self.invariant).few in
    omega (arith, row, few)

pub invariant_of-result : goal.invariant_of-result
invariant_of-result g c =
    let i = c.self.inside in
    let p = page_of i.image.now i.cell i.page i.bits.now i.keys.now i.plan.now in
    let here = ap (λ p. slice_index_or p.bits c.args.at false) c.self.view_is ∙ c.requires.selected in
    let joined = ap (λ p. row_joined p (codes_at p c.args.at)) c.self.view_is ∙ c.requires.joined in
    let row = (at-row p i.maps.now c.self.invariant c.args.at here).1 in
    let tied = at-tied p i.maps.now c.self.invariant c.args.at here joined in
    (c.self.invariant.cell, row, subst (λ ties. IsTied (tied_row i.image.now i.cell (i.page * PAGE_ROWS + c.args.at) ties i.keys.now) i.maps.now) (sym c.as_slice.ensures) tied)
