use Rattle.std.proofs.Common.{[], sym, subst}
use Rattle.std.specs.List.{flat_map}
use Rattle.column_classes.specs.ColumnClasses.{column_values}
use Rattle.cell_layout.specs.Refusals.{duplicate_of, repeated_key, IsRefusal}
use Rattle.cell_layout.specs.CellRepr.{rows_in}
use Rattle.cell_layout.proofs.RepeatedKeyLemmas.{keys-append}
use Rattle.cell_layout.proofs.duplicate_keys.keys_apart.Goals as goal

pub returns : goal.returns
returns g c =
    let cells = flat_map (rows_in c.args.dicts.now) c.args.cells.now in
    rw c.in-Some.is
    (subst (λ keys. IsRefusal c.new_keys.result (duplicate_of (repeated_key keys (column_values c.args.batch.now c.in-Some.key)))) (sym (keys-append cells c.args.rest.now c.in-Some.key))
    (c.new_keys.ensures (column_values c.args.rest.now c.in-Some.key) (c.in_ok-number_column.ensures.values [] c.keyed-keys.ensures)))
