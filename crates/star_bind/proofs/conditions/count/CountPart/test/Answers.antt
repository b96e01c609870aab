use Rattle.std.proofs.Common.{List, ℕ, true, false, sym, ap, ◌∙◌}
use Rattle.star_bind.specs.declared.conditions.count.Count.{Count}
use Rattle.star_bind.specs.Lookup.{scope_from}
use Rattle.star_bind.proofs.CappedCountLemmas.{test_counted, pushed}
use Rattle.star_bind.proofs.conditions.count.CountPart.test.Goals as goal

pub returns-then-refuses : goal.returns-then-refuses
returns-then-refuses c =
    let made : List ℕ → Count = λ (ks : List ℕ). record { columns = ks; number = 0 } in
    ap made c.new-columns.ensures
    ∙ test_counted (scope_from c.args.scope.now) c.args.words.now c.column_of.result.now c.in-Some.place c.kind_at.result true c.column_of.ensures c.in-Some.ensures c.kind_at.ensures (sym c.if-refuses.true ∙ c.refuses.ensures)

pub returns : goal.returns
returns c =
    let made : List ℕ → Count = λ (ks : List ℕ). record { columns = ks; number = 1 } in
    ap made (pushed c.new-columns.result c.push.new.self c.in-Some.place.column c.new-columns.ensures c.in_ok-push.ensures.ok)
    ∙ test_counted (scope_from c.args.scope.now) c.args.words.now c.column_of.result.now c.in-Some.place c.kind_at.result false c.column_of.ensures c.in-Some.ensures c.kind_at.ensures (sym c.if-refuses.false ∙ c.refuses.ensures)
