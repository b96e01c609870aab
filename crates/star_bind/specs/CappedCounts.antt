-- How many conjunctions a condition has, counted part by part and no further than one more than the most. Source: this project's own.
use Rattle.std.specs.Prelude.{ℕ, ◌+◌, ◌*◌, ◌==◌, List, [], ◌∷◌, ◌++◌, map, filter, not, ◌&&◌, cond}
use Rattle.std.specs.List.{list_any, list_all}
use Rattle.blink_lists.specs.Lists.{joined, once_each}
use Rattle.star_sql.specs.declared.ast.TestWords.{TestWords}
use Rattle.star_sql.specs.declared.ast.Primary.{Primary}
use Rattle.star_meaning.specs.Names.{Scope}
use Rattle.star_bind.specs.declared.conditions.count.Count.{Count}
use Rattle.star_bind.specs.Caps.{capped}
use Rattle.star_bind.specs.Counts.{test_count, factor_count, and_count}
use Rattle.star_bind.specs.StarForm.{is_pair_factor, tables_in}

-- columns with one that isn't there yet
abbrev pub with_column : List ℕ → ℕ → List ℕ
with_column all k = cond (list_any (λ x. x == k) all) all (all ++ k ∷ [])

-- columns with those that aren't there yet
abbrev pub add_once : List ℕ → List ℕ → List ℕ
add_once all [] = all
add_once all (k ∷ ks) = add_once (with_column all k) ks

-- a sum from a number on, capped at each step
abbrev pub sum_from : ℕ → List ℕ → ℕ
sum_from n [] = n
sum_from n (m ∷ ms) = sum_from (capped (n + m)) ms

-- a product from a number on, capped at each step
abbrev pub product_from : ℕ → List ℕ → ℕ
product_from n [] = n
product_from n (m ∷ ms) = product_from (capped (n * m)) ms

-- over one column a part is one conjunction
abbrev pub count_of : List ℕ → ℕ → Count
count_of (column ∷ []) n = record { columns = column ∷ []; number = 1 }
count_of columns n = record { columns = columns; number = n }

-- the columns of several parts, each once
abbrev pub count_columns : List Count → List ℕ
count_columns parts = once_each (λ x y. x == y) (joined (map (λ p. p.columns) parts))

-- a test
abbrev pub count_test : Scope → TestWords → Count
count_test scope words = let c = test_count scope words in record { columns = c.columns; number = c.count }

-- an AND
abbrev pub count_every : List Count → Count
count_every parts = count_of (count_columns parts) (product_from 1 (map (λ p. p.number) parts))

-- an OR
abbrev pub count_some : List Count → Count
count_some parts = count_of (count_columns parts) (sum_from 0 (map (λ p. p.number) parts))

-- how many conjunctions the conditions on a table have, among these factors
abbrev pub count_in : Scope → List Primary → ℕ → ℕ
count_in scope fs table = (and_count (map (factor_count scope) (filter (λ f. not (is_pair_factor f) && list_all (λ t. t == table) (tables_in scope f)) fs))).count
