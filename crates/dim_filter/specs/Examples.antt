-- Worked rows of a dimension, as facts that compute. Source: this project's own.
use Rattle.std.specs.Prelude.{◌≡◌, pos, [], ◌∷◌, Some, true, false, codes}
use Rattle.blink_base.specs.declared.value.Value.TheVariants.{Int}
use Rattle.blink_base.specs.declared.value.Kind.TheVariants as kind
use Rattle.cell_layout.specs.Image.{TableImage}
use Rattle.dim_filter.specs.Entries.{collected, key_column, chosen_rows}

-- a table of the columns a and k, the second its key, with one cell of three rows
abbrev pub three_rows : TableImage
three_rows = record {
  schema = record { columns = record { name = codes "a"; kind = kind.Int } ∷ record { name = codes "k"; kind = kind.Int } ∷ []; key = Some 1 };
  columns = ((Int (pos 5) ∷ Int (pos 6) ∷ []) ∷ []) ∷ ((Int (pos 1) ∷ Int (pos 2) ∷ Int (pos 3) ∷ []) ∷ []) ∷ [];
  cells = record { classes = 0 ∷ 0 ∷ []; rows = (1 ∷ 0 ∷ []) ∷ (0 ∷ 1 ∷ []) ∷ (1 ∷ 2 ∷ []) ∷ [] } ∷ [];
  rest = [];
}

-- the keys of the first and the last row, each with its wanted values as they are asked for
abbrev pub RowsGiveEntries : Type 0
RowsGiveEntries =
    (chosen_rows three_rows 0 0 (true ∷ false ∷ true ∷ []) ≡ (Int (pos 6) ∷ Int (pos 1) ∷ []) ∷ (Int (pos 6) ∷ Int (pos 3) ∷ []) ∷ [])
    × (collected (key_column three_rows) (1 ∷ 0 ∷ []) [] (chosen_rows three_rows 0 0 (true ∷ false ∷ true ∷ []))
    ≡ (Int (pos 1), Int (pos 1) ∷ Int (pos 6) ∷ []) ∷ (Int (pos 3), Int (pos 3) ∷ Int (pos 6) ∷ []) ∷ [])
