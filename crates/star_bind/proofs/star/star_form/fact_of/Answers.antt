use Rattle.std.proofs.Common.{List, map, ap, sym, ◌∙◌}
use Rattle.star_bind.specs.declared.star.star_form.Joint.{Joint}
use Rattle.star_bind.specs.FactorParts.{primary_of}
use Rattle.star_bind.specs.Joints.{is_joint, pairs_of}
use Rattle.star_bind.proofs.JointLemmas.{fact_found}
use Rattle.star_bind.proofs.star.star_form.fact_of.Goals as goal

pub returns : goal.returns
returns c =
    fact_found c.first_fact.result c.args.scope.now c.args.select.now c.as_slice.result.now (map primary_of c.args.all.now) c.requires (sym c.in_ok-has_star_parts.ensures ∙ c.if-not-branch.false)
    (ap (λ (js : List Joint). map is_joint js) c.as_slice.ensures.value ∙ c.in_ok-joints.ensures.joints)
    (ap (λ (js : List Joint). map pairs_of js) c.as_slice.ensures.value ∙ c.in_ok-joints.ensures.pairs)
    c.first_fact.ensures
