-- The columns of a table among named ones. Source: this project's own.
use Rattle.std.specs.Prelude.{ℕ, ◌==◌, List, [], ◌∷◌, ◌++◌, map, filter, if◌then◌else◌}
use Rattle.std.specs.List.{list_any}
use Rattle.blink_lists.specs.Lists.{once_each}
use Rattle.star_bind.specs.declared.query.ColumnRef.{ColumnRef}

-- the columns of a table among named ones, each once
abbrev pub wanted_of : ℕ → List ColumnRef → List ℕ
wanted_of table refs = once_each (λ x y. x == y) (map (λ r. r.column) (filter (λ r. r.table == table) refs))

-- such columns with one more that is named, where it is one of the table and a new one
abbrev pub with_wanted : ℕ → List ℕ → ColumnRef → List ℕ
with_wanted table columns r = if (r.table == table) then (if list_any (λ c. c == r.column) columns then columns else columns ++ r.column ∷ []) else columns
