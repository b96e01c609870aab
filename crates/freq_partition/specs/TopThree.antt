-- The values that a short list holds. Source: this project's own.
use Rattle.std.specs.Prelude.{List, [], ◌∷◌, take}
use Rattle.freq_partition.specs.declared.top_three.TopThree.{TopThree}

-- the first `count` values
abbrev pub items_in : {T : Type 0} → TopThree T → List T
items_in t = take t.count (t.first ∷ t.second ∷ t.third ∷ [])
