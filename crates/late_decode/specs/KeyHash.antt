-- Keys in a hash table: equal keys are one, and so feed a hash alike. Source: this project's own.
use Rattle.std.proofs.Common.{◌≡◌, true, ap}
use Rattle.std.specs.Hash as fed
use Rattle.std.specs.Hash.{HashWrites}
use Rattle.std.specs.Cmp.{IsEquivalence}
use Rattle.std.proofs.lemmas.Cmp.{eq_by_cmp_equiv, lists_total}
use Rattle.blink_base.proofs.LineLemmas.{tells_rows}
use Rattle.blink_base.specs.ValueHash.{hashed}
use Rattle.blink_base.specs.ValueOrder.{value_total}
use Rattle.blink_base.specs.Values.{Row, same_row}

-- what a key feeds a hash: its values, one after another
abbrev pub hashed_row : Row → HashWrites
hashed_row = fed.slice hashed

pub row_equiv : IsEquivalence same_row
row_equiv = eq_by_cmp_equiv (lists_total value_total)

pub rows_hash_alike : (x y : Row) → same_row x y ≡ true → hashed_row x ≡ hashed_row y
rows_hash_alike x y e = ap hashed_row (tells_rows.one x y e)
