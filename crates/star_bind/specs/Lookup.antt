-- FROM entries as the code holds them, and columns that are found one behind the other. Source: this project's own.
use Rattle.std.specs.Prelude.{ℕ, Bool, true, false, not, ◌&&◌, ◌==◌, List, [], ◌∷◌, map, position, Option, Some, None, option_map, is_none}
use Rattle.std.specs.List.{list_any}
use Rattle.star_sql.specs.declared.ast.ColumnName.{ColumnName}
use Rattle.star_sql.specs.declared.ast.What.{What}
use Rattle.star_sql.specs.declared.ast.What.TheVariants as what
use Rattle.star_meaning.specs.Names.{Scope, FromEntry, ColumnPlace, place_of}
use Rattle.star_meaning.specs.NameRefusals.{is_ambiguous}
use Rattle.star_bind.specs.declared.names.scope.Entry.{Entry}
use Rattle.star_bind.specs.declared.names.scope.Place.{Place}
use Rattle.star_bind.specs.declared.names.scope.Found.{Found}
use Rattle.star_bind.specs.declared.names.scope.Found.TheVariants as found

-- a FROM entry
abbrev pub entry_from : Entry → FromEntry
entry_from e = record { name = e.name.now; schema = e.schema.now }

-- FROM entries
abbrev pub scope_from : List Entry → Scope
scope_from entries = map entry_from entries

-- a place as the code holds it
abbrev pub place_in : ColumnPlace → Place
place_in p = record { table = p.table; column = p.column }

-- what is found with one column more
abbrev pub found_and : Found → ColumnPlace → Found
found_and found.Nothing p = found.One (place_in p)
found_and (found.One q) p = found.Several
found_and found.Several p = found.Several

-- what is found with some columns more
abbrev pub found_more : Found → List ColumnPlace → Found
found_more f [] = f
found_more f (p ∷ ps) = found_more (found_and f p) ps

-- what is found of some columns
abbrev pub found_of : List ColumnPlace → Found
found_of ps = found_more found.Nothing ps

-- whether nothing is found
abbrev pub is_nothing : Found → Bool
is_nothing found.Nothing = true
is_nothing (found.One p) = false
is_nothing found.Several = false

-- whether several are found
abbrev pub are_several : Found → Bool
are_several found.Nothing = false
are_several (found.One p) = false
are_several found.Several = true

-- whether a column that is there is this one
abbrev pub is_same_place : Place → Option Place → Bool
is_same_place p None = false
is_same_place p (Some q) = p.table == q.table && p.column == q.column

-- the first of these columns that is the one that is there
abbrev pub index_of : List (Option Place) → Option Place → Option ℕ
index_of places None = None
index_of places (Some p) = position (is_same_place p) places

-- whether a key fits no column, or none of these
abbrev pub is_lost : Scope → List (Option Place) → ColumnName → Bool
is_lost scope places c = not (is_ambiguous scope c) && is_none (index_of places (option_map place_in (place_of scope c)))

-- whether a column that is there is one of these
abbrev pub stands_among : List (Option Place) → Option Place → Bool
stands_among places None = false
stands_among places (Some p) = list_any (is_same_place p) places

-- whether an item is no bare column, or one of these columns
abbrev pub item_stands : Scope → List (Option Place) → What → Bool
item_stands scope places (what.Column c) = stands_among places (option_map place_in (place_of scope c))
item_stands scope places what.Count = true
item_stands scope places (what.Sum e) = true
item_stands scope places (what.Avg e) = true
item_stands scope places (what.Min c) = true
item_stands scope places (what.Max c) = true
