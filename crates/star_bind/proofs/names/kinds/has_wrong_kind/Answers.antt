use Rattle.std.proofs.Common.{List, map, sym, ap, ◌∙◌}
use Rattle.std.specs.List.{list_any}
use Rattle.std.specs.Borrow.{Bor}
use Rattle.star_sql.specs.declared.ast.Item.{Item}
use Rattle.star_sql.specs.declared.ast.TestWords.{TestWords}
use Rattle.star_bind.specs.WrongKind.{is_wrong_item}
use Rattle.star_bind.specs.Lookup.{scope_from}
use Rattle.star_bind.proofs.LiteralLemmas.{wrong_kinds}
use Rattle.star_bind.proofs.names.kinds.has_wrong_kind.Goals as goal

pub returns : goal.returns
returns c =
    let scope = scope_from c.args.scope.now in
    let here = λ (xs : List (Bor TestWords)). map (λ (x : Bor TestWords). x.now) xs in
    wrong_kinds scope c.args.select.now c.is_some_wrong.result (here c.as_slice-2.result.now)
    (ap (λ (xs : List Item). list_any (λ (i : Item). is_wrong_item scope i.what) xs) (sym c.as_slice.ensures) ∙ sym c.is_some_item_wrong.ensures ∙ c.if-is_some_item_wrong.false)
    (ap here c.as_slice-2.ensures.value ∙ c.in_ok-tests.ensures) c.is_some_wrong.ensures
