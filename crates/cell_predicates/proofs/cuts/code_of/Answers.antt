use Rattle.std.proofs.Common.{◌≡◌, ◌∙◌, ap, Some, None, Option, ℕ}
use Rattle.order_codes.specs.declared.place.CodePlace.{CodePlace}
use Rattle.cell_predicates.proofs.CutLemmas.{found_code, no_code}
use Rattle.cell_predicates.proofs.cuts.code_of.Goals as goal

other_class : (found : Option CodePlace) (here place : CodePlace) (class : ℕ) → found ≡ Some here → (here.class ≡ class → ⊥) → found ≡ Some place → place.class ≡ class → ⊥
other_class found here place class e ne is one = let same : here ≡ place = cc in ne (ap (λ (p : CodePlace). p.class) same ∙ one)

nowhere : (found : Option CodePlace) (place : CodePlace) → found ≡ None → found ≡ Some place → ⊥
nowhere found place none is = cc

pub returns-in-Some-clause-code : goal.returns-in-Some-clause-code
returns-in-Some-clause-code g c =
    found_code c.args.dict.now c.args.class c.args.value.now c.find.result c.find.ensures.there c.in-Some.place c.in-Some.is c.if-place-class.true c.in-Some.ensures.back

pub returns-in_default-clause-code : goal.returns-in_default-clause-code
returns-in_default-clause-code g c =
    no_code c.args.dict.now c.args.class c.args.value.now c.find.result c.find.ensures.there (λ place is one. other_class c.find.result c.in-Some.place place c.args.class c.in-Some.is c.if-place-class.false is one)

pub returns-in_default-2-clause-code : goal.returns-in_default-2-clause-code
returns-in_default-2-clause-code g c =
    no_code c.args.dict.now c.args.class c.args.value.now c.find.result c.find.ensures.there (λ place is one. nowhere c.find.result place c.in_default.is is)
