-- What holds of the tables before and after every call. Source: this project's own.
use Rattle.std.specs.Prelude.{◌≤◌, map, length, IsTrue, All}
use Rattle.std.specs.Str.{bytes_eq}
use Rattle.blink_base.specs.declared.limits.Limits.{Limits}
use Rattle.blink_lists.specs.Lists.{are_distinct}
use Rattle.blink_lists.specs.Rearrangement.{Rearranged}
use Rattle.cell_layout.specs.Image.{rows_of, row_count}
use Rattle.cell_layout.specs.Valid.{is_valid}
use Rattle.blink_lists.specs.declared.limits.TheConstants.{MOST_ROWS}
use Rattle.star_engine.specs.State.{AcceptedTable, Tables}
use Rattle.blink_base.specs.declared.limits.TheConstants.{MOST_TABLES, MOST_BLOCKS}

-- limits that may be asked for
pub record AreLimits (limits : Limits) : Type 0 where
  pub rows : limits.rows ≤ MOST_ROWS
  pub blocks : limits.blocks ≤ MOST_BLOCKS

-- a table: its image is valid, has no more rows than it may, and stands for the accepted rows in whatever order
pub record IsSoundTable (limits : Limits) (accepted : AcceptedTable) : Type 0 where
  pub valid : IsTrue (is_valid accepted.image)
  pub few : row_count accepted.image ≤ limits.rows
  pub rows : Rearranged accepted.rows (rows_of accepted.image)

-- the tables: names are distinct, there are at most 64, and each is sound
pub record IsSound (limits : Limits) (tables : Tables) : Type 0 where
  pub distinct : IsTrue (are_distinct bytes_eq (map (λ h. h.name) tables))
  pub few : length tables ≤ MOST_TABLES
  pub each : All (IsSoundTable limits) tables
