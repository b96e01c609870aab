use Rattle.std.proofs.Common.{◌≡◌, map, take, slice_index_or}
use Rattle.std.specs.Prelude.{pos}
use Rattle.blink_base.specs.declared.value.Value.TheVariants.{Int}
use Rattle.dim_filter.proofs.rest.copies.Given as goal

abbrev pub invariant-loop-column : goal.invariant-loop-column
invariant-loop-column l = l.copies.items ≡ map (λ column. slice_index_or l.values column (Int (pos 0))) (take l.column-index l.columns)
