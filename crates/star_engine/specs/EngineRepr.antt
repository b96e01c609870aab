-- The engine, and the tables that it stands for. Source: this project's own.
use Rattle.std.specs.Prelude.{◌≡◌, ℕ, List, map, find, Option, Some, None, option_map, Result, Ok, MatchResult}
use Rattle.std.specs.Str.{bytes_eq}
use Rattle.blink_base.specs.declared.refusal.Refusal.{Refusal}
use Rattle.cell_layout.specs.Image.{TableImage}
use Rattle.star_bind.specs.BoundQuery.{Schemas}
use Rattle.star_engine.specs.declared.engine.Engine.{Engine}
use Rattle.star_engine.specs.declared.table.Table.{Table}
use Rattle.star_engine.specs.declared.fault.EngineError.{EngineError}
use Rattle.star_engine.specs.Causes.{IsCause}
use Rattle.star_engine.specs.State.{AcceptedTable, Tables}
use Rattle.star_engine.specs.Soundness.{AreLimits, IsSound}

-- a table as the engine keeps it: without a list of its accepted rows
abbrev pub table_of : {M : Type 0} → AcceptedTable → Table M
table_of h = record { name = h.name; image = h.image }

-- the engine keeps these tables, and they are sound
pub record IsEngineOf {M : Type 0} (tables : Tables) (engine : Engine M) : Type 0 where
  pub accepted : engine.tables ≡ map table_of tables
  pub limits : AreLimits engine.limits
  pub sound : IsSound engine.limits tables

-- the engine keeps some tables
abbrev pub HasTables : {M : Type 0} → Engine M → Type 0
HasTables engine = (tables : Tables) × IsEngineOf tables engine

-- the definition gives the tables that the engine keeps
pub record IsMade {M : Type 0} (told : Result Tables Refusal) (engine : Engine M) : Type 0 where
  pub tables : Tables
  pub given : told ≡ Ok tables
  pub kept : IsEngineOf tables engine

-- an answer is what the definition gives, or want of memory
abbrev pub IsChange : {X M : Type 0} → Result X EngineError → Result Tables Refusal → Engine M → Type 0
IsChange result told engine = MatchResult result (λ _. IsMade told engine) (λ why. IsCause why told)

-- the definition gives the tables that the engine keeps, and a number
pub record IsMadeWith {M : Type 0} (told : Result (Tables × ℕ) Refusal) (count : ℕ) (engine : Engine M) : Type 0 where
  pub tables : Tables
  pub given : told ≡ Ok (tables, count)
  pub kept : IsEngineOf tables engine

-- an answer is the number that the definition gives with the tables, or its refusal, or want of memory
abbrev pub IsAddition : {M : Type 0} → Result ℕ EngineError → Result (Tables × ℕ) Refusal → Engine M → Type 0
IsAddition result told engine = MatchResult result (λ count. IsMadeWith told count engine) (λ why. IsCause why told)

-- the table that a name has, if there is one, has no primary key
abbrev pub IsKeyless : {M : Type 0} → Engine M → List ℕ → Type 0
IsKeyless {M} engine name = (table : Table M) → find (λ t. bytes_eq name t.name) engine.tables ≡ Some table → table.image.schema.key ≡ None

-- the image of the table that a name has
abbrev pub image_named : {M : Type 0} → Engine M → List ℕ → Option TableImage
image_named {M} engine name = option_map (λ (t : Table M). t.image) (find (λ (t : Table M). bytes_eq name t.name) engine.tables)

-- the schemas that an engine finds, by name
abbrev pub schemas_of : {M : Type 0} → Engine M → Schemas
schemas_of engine name = option_map (λ image. image.schema) (image_named engine name)
