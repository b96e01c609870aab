-- What entries stand for in a row of a cell.
use Rattle.std.proofs.Common.{◌≡◌, ℕ, ◌<◌, suc, true, List, [], ◌∷◌, map, length, Option, refl, ap, ◌∙◌}
use Rattle.std.specs.List.{list_all, zip}
use Rattle.code_join.specs.KeyLaws.{EntriesByPlace, PlacesByCode}
use Rattle.late_decode.specs.declared.plan.Pick.{Pick}
use Rattle.code_group.specs.CellRow.{TiedRow, IsTied, picked_by, pick_by, tuple_by}
use Rattle.code_group.specs.Entries.{maps_in, entry_in, size_in, sizes_in, value_of_entry}
use Rattle.code_group.specs.Slots.{is_within}
use Rattle.code_group.proofs.EntryLemmas.{length-zip, pick-is, entry-below, entries-within}

length-map : {X Y : Type 0} (f : X → Y) (xs : List X) → length (map f xs) ≡ length xs
length-map f [] = refl
length-map f (x ∷ xs) = ap suc (length-map f xs)

-- there is a map per tie
pub maps-many : (row : TiedRow) (maps : List (List (Option ℕ))) → IsTied row maps → length maps ≡ length row.ties
maps-many row maps t =
    ap (λ m. length m) t.mapped ∙ length-map _ (zip row.ties row.keys) ∙ length-zip row.ties row.keys t.many

module _ (by_place : EntriesByPlace) (by_code : PlacesByCode) (row : TiedRow) (maps : List (List (Option ℕ))) (t : IsTied row maps) where
  pub row-pick : (p : Pick) → picked_by row p ≡ value_of_entry row.columns row.classes row.keys p (entry_in row.ties (maps_in row.columns row.classes row.ties row.keys) row.codes p)
  row-pick p = pick-is by_place by_code row.columns row.classes t.classes.full row.codes t.codes row.ties row.keys t.many t.within t.joined p

  pub row-below : (p : Pick) → pick_by row p ≡ true → entry_in row.ties (maps_in row.columns row.classes row.ties row.keys) row.codes p < size_in row.columns row.classes row.keys p
  row-below p h = entry-below by_place by_code row.columns row.classes t.classes.full row.codes t.codes row.ties row.keys t.many t.within t.joined p h

  pub row-within : (picks : List Pick) → list_all (pick_by row) picks ≡ true → is_within (sizes_in row.columns row.classes row.keys picks) (tuple_by row picks) ≡ true
  row-within picks h = entries-within by_place by_code row.columns row.classes t.classes.full row.codes t.codes row.ties row.keys t.many t.within t.joined picks h
