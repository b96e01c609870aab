-- The dictionary of one class.
use Rattle.std.proofs.Common.{◌≡◌, ◌<◌, Bool, true, false, cond, List, [], ◌∷◌, length, Option, Some, None, IfSome, sym, ap, subst, ◌∙◌, arith}
use Rattle.std.specs.Prelude.{IsTrue}
use Rattle.std.specs.List.{list_all}
use Rattle.blink_base.specs.declared.value.Value.{Value}
use Rattle.blink_base.specs.RowFits.{is_good}
use Rattle.order_codes.specs.Dictionary.{Classes, class_at}

pub one_good_class : (b : Bool) (classes : Classes) (values : List Value) (found : Option Classes) → found ≡ cond b (Some classes) None → classes ≡ values ∷ [] → list_all is_good values ≡ true
    → IfSome found (λ dict. (0 < length dict) × IsTrue (list_all is_good (class_at dict 0)))
one_good_class true classes values found e is good =
    subst (λ (o : Option Classes). IfSome o (λ dict. (0 < length dict) × IsTrue (list_all is_good (class_at dict 0)))) (sym (e ∙ ap Some is)) (omega arith, good)
one_good_class false classes values found e is good = subst (λ (o : Option Classes). IfSome o (λ dict. (0 < length dict) × IsTrue (list_all is_good (class_at dict 0)))) (sym e) tt
