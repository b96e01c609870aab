use Rattle.std.proofs.Common.{◌≡◌, List, ◌<◌, ◌^◌, length, map, filter_map, sym, ap, subst, ◌∙◌}
use Rattle.std.proofs.lemmas.List.{length-map}
use Rattle.blink_lists.specs.Lists.{joined}
use Rattle.star_sql.specs.declared.ast.Item.{Item}
use Rattle.star_sql.specs.declared.ast.OrderKey.{OrderKey}
use Rattle.star_sql.specs.declared.ast.Primary.{Primary}
use Rattle.star_meaning.specs.Answer.{printed_name}
use Rattle.star_bind.specs.BoundQuery.{bound_item_of, meant}
use Rattle.star_bind.specs.FactorParts.{primary_of}
use Rattle.star_bind.specs.Lookup.{scope_from}
use Rattle.star_bind.specs.QueryParts.{order_of}
use Rattle.star_bind.specs.StarForm.{ties_in}
use Rattle.star_bind.proofs.QueryLemmas.{filters_is, order_is}
use Rattle.star_bind.proofs.TokenCountLemmas.{few-items}
use Rattle.star_bind.proofs.binding.query_of_factors.Goals as goal

pub bound_order-requires : goal.bound_order-requires
bound_order-requires c = record { few = subst (λ (is : List Item). length is < 2 ^ 32) (sym c.as_slice-items.ensures) (few-items c.args.select.now c.requires.few) }

pub returns : goal.returns
returns c =
    let scope = scope_from c.args.scope.now in
    let s = c.args.select.now in
    let long : length (scope_from c.args.scope.now) ≡ length c.args.scope.now = simp length-map in
    let items = c.as_slice-items.ensures in
    let tables = c.in_ok-tables.ensures in
    let ties = c.in_ok-ties.ensures ∙ ap (λ (fs : List Primary). joined (map (ties_in scope c.args.fact) fs)) c.requires.factors in
    let filters = c.in_ok-filters.ensures ∙ filters_is scope s (map primary_of c.args.all.now) (length c.args.scope.now) c.requires.factors (sym long) in
    let bound = c.in_ok-bound.ensures ∙ ap (map (λ (i : Item). bound_item_of scope i.what)) items in
    let names = c.in_ok-names.ensures ∙ ap (map printed_name) items in
    let groups = c.in_ok-groups.ensures ∙ ap (map (meant scope)) c.as_slice.ensures in
    let order = c.in_ok-order.ensures ∙ (λ i. filter_map (order_of scope (items i)) (c.as_slice-2.ensures i)) ∙ order_is scope s in
    λ i. record {
      tables = tables i;
      fact = c.args.fact;
      ties = ties i;
      filters = filters i;
      items = bound i;
      names = names i;
      groups = groups i;
      grouped = c.has_groups.ensures i;
      order = order i;
      limit = s.limit;
    }
