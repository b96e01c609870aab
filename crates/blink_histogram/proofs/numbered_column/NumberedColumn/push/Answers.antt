use Rattle.std.proofs.Common.{◌++◌, ◌∷◌, [], sym, ap, subst, ◌∙◌}
use Rattle.std.specs.Map.{keys_of}
use Rattle.blink_histogram.specs.NumberedColumn.{values_of, IsNumbered}
use Rattle.blink_histogram.proofs.NumberedColumnLemmas.{numbered_more, values_more}
use Rattle.blink_histogram.proofs.numbered_column.NumberedColumn.push.Goals as goal

pub invariant_of-self-2 : goal.invariant_of-self-2
invariant_of-self-2 c =
    let items = c.push_reserved.ensures.items ∙ ap (λ l. l ++ c.in_ok-number.number ∷ []) c.reserve.ensures.items in
    subst (IsNumbered c.number.new.self) (sym items)
    (numbered_more c.self.inside.interner c.number.new.self c.self.inside.numbers.items c.in_ok-number.number c.args.value.now c.self.invariant c.in_ok-number.ensures.kept c.in_ok-number.ensures.there c.in_ok-number.ensures.counted
    c.in_ok-number.ensures.more)

pub returns-clause-ok : goal.returns-clause-ok
returns-clause-ok c =
    let items = c.push_reserved.ensures.items ∙ ap (λ l. l ++ c.in_ok-number.number ∷ []) c.reserve.ensures.items in
    ap (values_of (keys_of c.number.new.self)) items
    ∙ values_more c.self.inside.interner c.number.new.self c.self.inside.numbers.items c.in_ok-number.number c.args.value.now c.self.invariant c.in_ok-number.ensures.kept c.in_ok-number.ensures.there
    ∙ ap (λ l. l ++ c.args.value.now ∷ []) c.self.view_is
