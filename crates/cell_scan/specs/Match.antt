-- Which rows of a page pass tests on their codes: a filter of rows. Source: after Johnson et al., VLDB 2008 (conjunctions over packed fields).
use Rattle.std.specs.Prelude.{ℕ, ◌-◌, ◌*◌, ◌==◌, Bool, false, List, ◌++◌, map, filter, take, drop, replicate, length, slice_index_or}
use Rattle.std.specs.List.{list_all, list_any, zip}
use Rattle.blink_lists.specs.Lists.{numbers_from}
use Rattle.blink_lists.specs.declared.limits.TheConstants.{PAGE_ROWS}
use Rattle.bank_pack.specs.Banks.{pages_for}

-- a column, and the codes of its class that qualify, rising
pub record CodeSet : Type 0 where
  pub column : ℕ
  pub codes : List ℕ

-- whether a row's code in the column is in the set
abbrev pub is_in : List ℕ → CodeSet → Bool
is_in row set = list_any (λ code. code == slice_index_or row set.column 0) set.codes

-- whether the codes of a row are in all sets
abbrev pub passes_all : List CodeSet → List ℕ → Bool
passes_all sets row = list_all (is_in row) sets

-- the rows of a page of a cell, pages counted from 0
abbrev pub rows_of_page : List (List ℕ) → ℕ → List (List ℕ)
rows_of_page rows page = take PAGE_ROWS (drop (page * PAGE_ROWS) rows)

-- the pages of a cell, one after another
abbrev pub pages_of : List (List ℕ) → List (List (List ℕ))
pages_of rows = map (rows_of_page rows) (numbers_from 0 (pages_for (length rows)))

-- a truth value per place of a page: whether its row passes, and false behind the last row
abbrev pub bits_where : (List ℕ → Bool) → List (List ℕ) → List Bool
bits_where passes page = map passes page ++ replicate (PAGE_ROWS - length page) false

-- the truth values of a page: whether the codes of a row are in all sets
abbrev pub match_bits : List CodeSet → List (List ℕ) → List Bool
match_bits sets page = bits_where (passes_all sets) page

-- the rows of a page at whose places the truth values are true
abbrev pub selected_rows : List Bool → List (List ℕ) → List (List ℕ)
selected_rows bits page = map (λ p. p.1) (filter (λ p. p.0) (zip bits page))
