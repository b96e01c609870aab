-- What stands for a column's values by rank. Source: this project's own.
use Rattle.std.specs.Prelude.{◌≡◌, ◌<◌, ◌≤◌, ◌∷◌, ◌++◌, [], ℕ, List, Some, map, length, slice_get, slice_index_or}
use Rattle.freq_partition.specs.Division.{best_division, saving_of, padded}
use Rattle.blink_lists.specs.Lists.{in_order}
use Rattle.blink_histogram.specs.Ranks.{Counted, counted, rank_cmp, ranked}
use Rattle.blink_base.specs.declared.value.Value.{Value}
use Rattle.blink_base.specs.Values.{Row}
use Rattle.column_classes.specs.ColumnClasses.{column_values, counts_of}
use Rattle.column_classes.specs.declared.column_stats.RankedColumn.{RankedColumn}
use Rattle.blink_lists.specs.declared.limits.TheConstants.{MOST_ROWS}

-- the values by rank are those that were numbered, and the numbers find them; the counts are theirs, and so is the division
pub record IsRanked (values : List Counted) (it : RankedColumn) : Type 0 where
  pub ordered : values ≡ in_order rank_cmp (counted it.column)
  pub found : map (slice_get (counted it.column)) it.numbers ≡ map Some values
  pub counted : it.counts.items ≡ counts_of values
  pub cut_count : it.cut.count ≡ length (best_division (counts_of values)).sizes
  pub cut_sizes : it.cut.sizes ≡ padded 4 (best_division (counts_of values)).sizes
  pub cut_cost : it.cut.cost ≡ (best_division (counts_of values)).cost
  pub saved : it.saving ≡ saving_of (counts_of values)

-- a column of rows, by rank
pub record IsRankedAt (rows : List Row) (column : ℕ) (it : RankedColumn) : Type 0 where
  pub values : it.column ≡ column_values rows column
  pub ranked : IsRanked (ranked (column_values rows column)) it

-- the first n columns of rows
pub record AreRanked (rows : List Row) (n : ℕ) (all : List RankedColumn) : Type 0 where
  pub count : length all ≡ n
  pub each : (k : ℕ) (d : RankedColumn) → k < n → IsRankedAt rows k (slice_index_or all k d)

-- the values of the first n columns of rows
pub record AreColumns (rows : List Row) (n : ℕ) (columns : List (List Value)) : Type 0 where
  pub count : length columns ≡ n
  pub each : (k : ℕ) (d : List Value) → k < n → slice_index_or columns k d ≡ column_values rows k

-- the first columns have the value of one row more than the others
pub record AreColumnsTo (column : ℕ) (rows : List Row) (row : Row) (columns : List (List Value)) : Type 0 where
  pub first : (k : ℕ) (d : List Value) → k < column → slice_index_or columns k d ≡ column_values (rows ++ row ∷ []) k
  pub others : (k : ℕ) (d : List Value) → column ≤ k → k < length columns → slice_index_or columns k d ≡ column_values rows k

-- each number is that of a value
abbrev pub HasValues : List Counted → List ℕ → Type 0
HasValues it numbers = (values : List Counted) × (map (slice_get it) numbers ≡ map Some values)

-- they are those of a column of not too many rows
abbrev pub IsColumn : RankedColumn → Type 0
IsColumn it = (column : List Value) × (length column ≤ MOST_ROWS) × IsRanked (ranked column) it
