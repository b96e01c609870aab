use Rattle.std.proofs.Common.{ℕ, Option, sym, ap, ◌∙◌}
use Rattle.std.specs.Option.{option_or}
use Rattle.star_meaning.specs.Answer.{column_item}
use Rattle.star_bind.specs.Lookup.{scope_from}
use Rattle.star_bind.proofs.NameLemmas.{column_told}
use Rattle.star_bind.proofs.names.bound_names.item_meant.Goals as goal

pub returns-in-None : goal.returns-in-None
returns-in-None c =
    let scope = scope_from c.args.scope.now in
    c.column_item.ensures
    ∙ column_told scope c.args.items.now c.args.places.now c.args.name.now c.requires
    ∙ ap (λ (o : Option ℕ). option_or o (column_item scope c.args.items.now c.args.name.now)) (sym c.in-None.is ∙ c.called_item.ensures)
