use Rattle.std.proofs.Common.{◌++◌, [], ◌∷◌, sym, ◌∙◌, ap}
use Rattle.std.specs.List.{list_all}
use Rattle.blink_base.specs.RowFits.{is_good}
use Rattle.order_codes.specs.Dictionary.{are_classes}
use Rattle.scan_tests.proofs.ClassLemmas.{one_good_class}
use Rattle.scan_tests.proofs.conditions.one_class.Goals as goal

pub returns : goal.returns
returns g c =
    one_good_class (are_classes c.push.new.self) c.push.new.self c.args.values c.of.result c.of.ensures (c.in_ok-push.ensures.ok ∙ ap (λ l. l ++ c.args.values ∷ []) c.new-classes.ensures)
    (sym (c.are_good.ensures ∙ ap (list_all is_good) c.as_slice.ensures) ∙ c.if-not-are_good.false)
