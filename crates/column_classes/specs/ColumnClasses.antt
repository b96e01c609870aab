-- The classes of a table's columns, from how often each value comes. Source: after Raman et al., ICDE 2008 (frequency partitioning); the choice of classes is this project's own.
use Rattle.std.specs.Prelude.{◌≤◌, ℕ, pos, Bool, true, false, ◌&&◌, ◌==◌, List, [], ◌∷◌, map, length, take, drop, slice_index_or, count_by, nat_le, nat_lt, IsTrue}
use Rattle.std.specs.List.{list_any, list_all, zip}
use Rattle.blink_base.specs.declared.value.Value.{Value}
use Rattle.blink_base.specs.declared.value.Value.TheVariants.{Int}
use Rattle.blink_base.specs.declared.schema.Column.{Column}
use Rattle.blink_base.specs.declared.schema.Schema.{Schema}
use Rattle.blink_base.specs.Values.{Row, value_cmp}
use Rattle.blink_base.specs.RowFits.{fits, is_entry}
use Rattle.blink_lists.specs.Lists.{in_order, numbered, numbers_from, joined}
use Rattle.blink_lists.specs.declared.limits.TheConstants.{MOST_DIVIDED, MOST_ROWS}
use Rattle.blink_histogram.specs.Ranks.{Counted, ranked}
use Rattle.freq_partition.specs.Division.{Division, best_division, single_division, saving_of, chosen_columns}
use Rattle.order_codes.specs.Dictionary.{Classes, are_classes}

-- the values of a column
abbrev pub column_values : List Row → ℕ → List Value
column_values rows column = map (λ row. slice_index_or row column (Int (pos 0))) rows

-- pieces of these lengths, from the front on
abbrev pub in_pieces : {X : Type 0} → List ℕ → List X → List (List X)
in_pieces [] xs = []
in_pieces (n ∷ ns) xs = take n xs ∷ in_pieces ns (drop n xs)

-- ranked values in classes of these sizes, each in rising order
abbrev pub classes_by : List Counted → List ℕ → Classes
classes_by values sizes = map (λ piece. in_order value_cmp (map (λ c. c.0) piece)) (in_pieces sizes values)

-- the best division for a column that is chosen, and one class for any other
abbrev pub division_if : Bool → List ℕ → Division
division_if true counts = best_division counts
division_if false counts = single_division counts

-- the counts of ranked values
abbrev pub counts_of : List Counted → List ℕ
counts_of values = map (λ c. c.1) values

-- the classes of ranked values: those of the best division where it is chosen, and else one
abbrev pub classes_if : Bool → List Counted → Classes
classes_if chosen values = classes_by values (division_if chosen (counts_of values)).sizes

-- the classes of each column, from its values by rank: at most three columns get their best division
abbrev pub divided_columns : List (List Counted) → List Classes
divided_columns columns =
    let chosen = chosen_columns (map (λ values. saving_of (counts_of values)) columns) in
    map (λ p. classes_if (list_any (λ k. k == p.0) chosen) p.1) (numbered columns)

-- the values of the first n columns by rank
abbrev pub ranked_columns : List Row → ℕ → List (List Counted)
ranked_columns rows n = map (λ column. ranked (column_values rows column)) (numbers_from 0 n)

-- the classes that these rows call for
abbrev pub classes_for : Schema → List Row → List Classes
classes_for schema rows = divided_columns (ranked_columns rows (length schema.columns))

-- a column's classes hold good values of its kind alone
abbrev pub are_column_classes : Column → Classes → Bool
are_column_classes column classes = are_classes classes && list_all (is_entry column.kind) (joined classes)

-- one list of classes per column, and at most three columns with several classes
abbrev pub are_divided : Schema → List Classes → Bool
are_divided schema columns =
    length columns == length schema.columns
    && list_all (λ p. are_column_classes p.0 p.1) (zip schema.columns columns)
    && nat_le (count_by (λ classes. nat_lt 1 (length classes)) columns) MOST_DIVIDED

-- The law that the classes that rows call for are good: as many lists as columns, each with good values alone, and at most three with several.
abbrev pub ClassesAreDivided : Type 0
ClassesAreDivided = (schema : Schema) (rows : List Row) → length rows ≤ MOST_ROWS → IsTrue (list_all (fits schema) rows) → IsTrue (are_divided schema (classes_for schema rows))
