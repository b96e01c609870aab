use Rattle.std.proofs.Common.{◌≡◌, ◌++◌, map, reverse, length}
use Rattle.blink_base.specs.Lines.{field_of}
use Rattle.late_decode.specs.declared.source.Source.TheVariants.{Here}
use Rattle.late_decode.proofs.source.push_key.Given as goal

abbrev pub invariant-loop-value : goal.invariant-loop-value
invariant-loop-value l = l.all.items ++ reverse (map (λ value. Here (field_of value)) l.values.items) ≡ l.fn.all.items ++ reverse (map (λ value. Here (field_of value)) l.fn.key)

abbrev pub decreases-loop-value : goal.decreases-loop-value
decreases-loop-value l = length l.values.items
