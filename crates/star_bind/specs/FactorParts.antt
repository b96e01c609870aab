-- Factors as the code holds them. Source: this project's own.
use Rattle.std.specs.Prelude.{ℕ, List, [], ◌∷◌, Option, Some, None}
use Rattle.std.specs.Option.{option_map_or}
use Rattle.star_sql.specs.declared.ast.TestWords.{TestWords}
use Rattle.star_sql.specs.Literals.{column_of}
use Rattle.star_meaning.specs.Names.{Scope, place_of}
use Rattle.star_sql.specs.declared.ast.Primary.{Primary, Test}
use Rattle.star_bind.specs.declared.star.factors.Factor.{Factor}
use Rattle.star_bind.specs.declared.star.factors.Factor.TheVariants.{Words, Whole}
use Rattle.star_bind.specs.Factors.{grouped}
use Rattle.star_bind.specs.CappedCounts.{with_column}

-- a factor
abbrev pub primary_of : Factor → Primary
primary_of (Words w) = Test w.now
primary_of (Whole c) = grouped c.now

-- the table whose column a test names first
abbrev pub table_named : Scope → TestWords → Option ℕ
table_named scope words = option_map_or (λ p. Some p.table) (place_of scope (column_of words)) None

-- tables with one, where it is one that isn't there yet
abbrev pub with_table : List ℕ → Option ℕ → List ℕ
with_table all None = all
with_table all (Some k) = with_column all k

-- tables with those whose columns tests name first
abbrev pub tables_named : Scope → List ℕ → List TestWords → List ℕ
tables_named scope all [] = all
tables_named scope all (w ∷ ws) = tables_named scope (with_table all (table_named scope w)) ws
