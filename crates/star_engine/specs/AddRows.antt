-- What a batch makes of the table at a place. Source: this project's own.
use Rattle.std.specs.Prelude.{◌≡◌, ℕ, List, ◌++◌, IsTrue, slice_index_or, slice_set}
use Rattle.blink_base.specs.Values.{Row}
use Rattle.blink_lists.specs.Rearrangement.{Rearranged}
use Rattle.cell_layout.specs.Image.{rows_of}
use Rattle.cell_layout.specs.Valid.{is_valid}
use Rattle.star_engine.specs.declared.table.Table.{Table}
use Rattle.star_engine.specs.declared.growth.Growth.{Growth}
use Rattle.star_engine.specs.Changes.{image_with}

-- a table with a batch, laid out anew or added to the standing layout
pub record IsAdded {M : Type 0} (growth : Growth) (old new : Table M) (batch : List Row) : Type 0 where
  pub name : new.name ≡ old.name
  pub image : new.image ≡ image_with growth old.image batch
  pub valid : IsTrue (is_valid new.image)
  pub rows : Rearranged (rows_of old.image ++ batch) (rows_of new.image)

-- the same of the table at a place; the others stay
pub record IsAddedAt {M : Type 0} (growth : Growth) (old new : List (Table M)) (at : ℕ) (batch : List Row) (d : Table M) : Type 0 where
  pub table : Table M
  pub tables : new ≡ slice_set old at table
  pub added : IsAdded growth (slice_index_or old at d) table batch
