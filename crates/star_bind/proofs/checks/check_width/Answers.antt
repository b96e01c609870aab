use Rattle.std.proofs.Common.{Bool, map, sym, ap, ◌∙◌}
use Rattle.blink_base.specs.declared.refusal.Refusal.TheVariants as refusal
use Rattle.star_bind.specs.BoundQuery.{refused_if}
use Rattle.star_bind.specs.FactorParts.{primary_of}
use Rattle.star_bind.proofs.WidthLemmas.{wide_is}
use Rattle.star_bind.proofs.checks.check_width.Goals as goal

pub returns-then-branch : goal.returns-then-branch
returns-then-branch c =
    ap (λ (b : Bool). refused_if b refusal.TooManyConjunctions)
    (sym (wide_is c.args.scope.now c.args.select.now (map primary_of c.args.all.now) c.requires.factors) ∙ sym c.in_ok-is_wide.ensures ∙ c.if-branch.true)

pub returns : goal.returns
returns c =
    ap (λ (b : Bool). refused_if b refusal.TooManyConjunctions)
    (sym (wide_is c.args.scope.now c.args.select.now (map primary_of c.args.all.now) c.requires.factors) ∙ sym c.in_ok-is_wide.ensures ∙ c.if-branch.false)
