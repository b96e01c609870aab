-- What a short list of savings stands for. Source: this project's own.
use Rattle.std.specs.Prelude.{ℕ, List, map}
use Rattle.freq_partition.specs.declared.top_three.TopThree.{TopThree}
use Rattle.freq_partition.specs.declared.column_choice.ColumnSaving.{ColumnSaving}
use Rattle.freq_partition.specs.TopThree.{items_in}

-- a column and what it saves
abbrev pub column_and_saving : ColumnSaving → ℕ × ℕ
column_and_saving s = (s.column, s.saving.0)

-- the columns with what they save
abbrev pub saved_in : TopThree ColumnSaving → List (ℕ × ℕ)
saved_in t = map column_and_saving (items_in t)
