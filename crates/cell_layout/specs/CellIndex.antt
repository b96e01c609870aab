-- Where the cell of a row stands among cells in order. Source: this project's own.
use Rattle.std.specs.Prelude.{◌≡◌, ◌≤◌, ◌<◌, ◌++◌, ℕ, List, [], ◌∷◌, map, length, slice_index_or, Result, MatchResult}
use Rattle.std.specs.declared.cmp.Ordering.TheVariants.{Less, Greater}
use Rattle.order_codes.specs.Dictionary.{Classes, class_at}
use Rattle.cell_layout.specs.declared.cell.Cell.{Cell}
use Rattle.cell_layout.specs.Layout.{cell_cmp}

-- the class numbers of cells
abbrev pub keys_of_cells : List Cell → List (List ℕ)
keys_of_cells cells = map (λ cell. cell.classes) cells

-- the class numbers at a place
abbrev pub key_at : List Cell → ℕ → List ℕ
key_at cells k = slice_index_or (keys_of_cells cells) k []

-- the cell of these class numbers stands here
pub record IsFound (cells : List Cell) (classes : List ℕ) (at : ℕ) : Type 0 where
  pub within : at < length cells
  pub here : key_at cells at ≡ classes

-- no cell has these class numbers, and it would stand here
pub record IsMissing (cells : List Cell) (classes : List ℕ) (at : ℕ) : Type 0 where
  pub within : at ≤ length cells
  pub before : (k : ℕ) → k < at → cell_cmp (key_at cells k) classes ≡ Less
  pub behind : (k : ℕ) → at ≤ k → k < length cells → cell_cmp (key_at cells k) classes ≡ Greater

abbrev pub IsCellIndex : List Cell → List ℕ → Result ℕ ℕ → Type 0
IsCellIndex cells classes r = MatchResult r (IsFound cells classes) (IsMissing cells classes)

-- each column has one more code behind its others
pub record HasPushed (old new : List (List ℕ × ℕ)) (codes : List ℕ) : Type 0 where
  pub count : length new ≡ length old
  pub each : (k : ℕ) (d : List ℕ × ℕ) → k < length old → (slice_index_or new k d).0 ≡ (slice_index_or old k d).0 ++ slice_index_or codes k 0 ∷ []

-- class numbers and codes of the first n columns, each below its size
pub record AreWithin (columns : List Classes) (classes codes : List ℕ) (n : ℕ) : Type 0 where
  pub class_count : length classes ≡ n
  pub code_count : length codes ≡ n
  pub numbers : (k : ℕ) → k < n → slice_index_or classes k 0 < length (slice_index_or columns k [])
  pub below : (k : ℕ) → k < n → slice_index_or codes k 0 < length (class_at (slice_index_or columns k []) (slice_index_or classes k 0))
