use Rattle.std.proofs.Common.{◌^◌, ◌&&◌, List, map, nat_lt, ap, ◌∙◌}
use Rattle.std.specs.List.{list_all}
use Rattle.star_bind.specs.declared.star.star_form.Joint.{Joint}
use Rattle.star_bind.specs.declared.star.star_form.Tied.{Tied}
use Rattle.star_bind.specs.FactorParts.{primary_of}
use Rattle.star_bind.specs.Joints.{is_joint, pairs_of, tie_from_tied}
use Rattle.star_bind.specs.Lookup.{scope_from}
use Rattle.star_bind.proofs.PlaceLemmas.{ties-small}
use Rattle.star_bind.proofs.QueryLemmas.{ties_told}
use Rattle.star_bind.proofs.star.ties.bound_ties.Goals as goal

pub numbered_ties-requires : goal.numbered_ties-requires
numbered_ties-requires c =
    ties-small (scope_from c.args.scope.now) c.args.fact c.as_slice-2.result.now c.as_slice.result.now (map primary_of c.args.all.now) c.requires
    (ap (λ (js : List Joint). map is_joint js) c.as_slice.ensures.value ∙ c.in_ok-joints.ensures.joints)
    (ap (λ (js : List Joint). map pairs_of js) c.as_slice.ensures.value ∙ c.in_ok-joints.ensures.pairs)
    (ap (λ (ts : List Tied). map tie_from_tied ts) c.as_slice-2.ensures.value ∙ c.in_ok-ties.ensures)

pub returns : goal.returns
returns c =
    ties_told c.numbered_ties.result (scope_from c.args.scope.now) c.args.fact c.as_slice-2.result.now c.as_slice.result.now (map primary_of c.args.all.now)
    (ap (λ (js : List Joint). map is_joint js) c.as_slice.ensures.value ∙ c.in_ok-joints.ensures.joints)
    (ap (λ (js : List Joint). map pairs_of js) c.as_slice.ensures.value ∙ c.in_ok-joints.ensures.pairs)
    (ap (λ (ts : List Tied). map tie_from_tied ts) c.as_slice-2.ensures.value ∙ c.in_ok-ties.ensures)
    c.numbered_ties.ensures
