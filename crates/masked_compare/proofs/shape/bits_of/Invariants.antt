use Rattle.std.proofs.Common.{◌≡◌, ◌≤◌, ◌*◌, take, true}
use Rattle.std.specs.List.{list_all}
use Rattle.masked_compare.specs.Fields.{is_width, fields_bits}
use Rattle.masked_compare.proofs.shape.bits_of.Given as goal

abbrev pub invariant-loop-width : goal.invariant-loop-width
invariant-loop-width l =
    (l.bits ≡ fields_bits (take l.width-index l.widths)) × (list_all is_width (take l.width-index l.widths) ≡ true) × (l.bits ≤ 32) × (2 * l.width-index ≤ l.bits)
